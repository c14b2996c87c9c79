-- The cells so far were visited.
use Rattle.std.proofs.Common.{◌≡◌, List, []}
use Rattle.std.proofs.Common.{drop}
use Rattle.rtl_ir.specs.declared.module.Link.{Link}
use Rattle.rtl_ir.specs.declared.wire.Wire.{Wire}
use Rattle.rtl_ir.specs.Flat.Start.{start_of}
use Rattle.opt_merge.specs.Merge.{Merging, after_cells}
use Rattle.opt_merge.specs.State.{IsState}
use Rattle.opt_merge.proofs.merger.Merger.visit_all.Given as goal

abbrev pub invariant-loop-at : goal.invariant-loop-at
invariant-loop-at l = (wires : List Wire) (before : List Link) (s : Merging) → IsState l.fn.self wires before l.cells 0 s
    → (now : Merging) × IsState l.self wires before l.cells l.at now × (after_cells (start_of wires []) now (drop l.at l.cells) ≡ after_cells (start_of wires []) s l.cells)
