-- The cells that drive what the connections so far read are marked.
use Rattle.std.proofs.Common.{◌≡◌, drop}
use Rattle.rtl_ir.specs.Types.{Ports}
use Rattle.rtl_ir.specs.declared.module.Module.{Module}
use Rattle.net_index.specs.Drivers.{AreDrivers}
use Rattle.opt_clean.specs.Kept.{right_bits}
use Rattle.opt_clean.specs.Linked.{cell_places}
use Rattle.opt_clean.specs.Marking.{mark_places, marking_of}
use Rattle.opt_clean.proofs.kept.Marks.mark_links.Given as goal

abbrev pub invariant-loop-link : goal.invariant-loop-link
invariant-loop-link l =
    (ports : Ports) (m : Module) → AreDrivers l.index ports m
    → mark_places (marking_of l.self) (cell_places ports m (right_bits (drop l.link-index l.links)))
    ≡ mark_places (marking_of l.fn.self) (cell_places ports m (right_bits l.links))
