-- The cells so far that are kept whatever reads them are marked.
use Rattle.std.proofs.Common.{◌≡◌, List, drop, map}
use Rattle.rtl_ir.specs.Types.{Ports}
use Rattle.rtl_ir.specs.declared.wire.Wire.{Wire}
use Rattle.net_index.specs.Types.{AreTypes}
use Rattle.opt_clean.specs.Keep.{is_shown}
use Rattle.opt_clean.specs.Marking.{mark_places, marking_of, root_places}
use Rattle.opt_clean.proofs.kept.Marks.mark_roots.Given as goal

abbrev pub invariant-loop-place : goal.invariant-loop-place
invariant-loop-place l =
    (ports : Ports) (wires : List Wire) → AreTypes l.types ports → l.shown ≡ map is_shown wires
    → mark_places (marking_of l.self) (root_places ports wires l.place (drop l.place l.cells))
    ≡ mark_places (marking_of l.fn.self) (root_places ports wires 0 l.cells)
