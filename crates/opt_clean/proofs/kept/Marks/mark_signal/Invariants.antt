-- The cells that drive bits so far are marked.
use Rattle.std.proofs.Common.{◌≡◌, drop}
use Rattle.rtl_ir.specs.Types.{Ports}
use Rattle.rtl_ir.specs.declared.module.Module.{Module}
use Rattle.net_index.specs.Drivers.{AreDrivers}
use Rattle.rtl_ir.specs.Signals.{wire_bits}
use Rattle.opt_clean.specs.Linked.{cell_places}
use Rattle.opt_clean.specs.Marking.{mark_places, marking_of}
use Rattle.opt_clean.proofs.kept.Marks.mark_signal.Given as goal

abbrev pub invariant-loop-bit : goal.invariant-loop-bit
invariant-loop-bit l =
    (ports : Ports) (m : Module) → AreDrivers l.index ports m
    → mark_places (marking_of l.self) (cell_places ports m (wire_bits (drop l.bit-index l.signal)))
    ≡ mark_places (marking_of l.fn.self) (cell_places ports m (wire_bits l.signal))
