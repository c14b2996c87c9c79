-- The cells that drive what the pins so far read are marked.
use Rattle.std.proofs.Common.{◌≡◌, drop}
use Rattle.rtl_ir.specs.Types.{CellType, Ports}
use Rattle.rtl_ir.specs.declared.module.Module.{Module}
use Rattle.net_index.specs.Drivers.{AreDrivers}
use Rattle.net_index.specs.Types.{IsType}
use Rattle.opt_clean.specs.Kept.{read_bits}
use Rattle.opt_clean.specs.Linked.{cell_places}
use Rattle.opt_clean.specs.Marking.{mark_places, marking_of}
use Rattle.opt_clean.proofs.kept.Marks.mark_pins.Given as goal

abbrev pub invariant-loop-pin : goal.invariant-loop-pin
invariant-loop-pin l =
    (type : CellType) (ports : Ports) (m : Module) → IsType l.cell_type type → AreDrivers l.index ports m
    → mark_places (marking_of l.self) (cell_places ports m (read_bits type (drop l.pin-index l.pins)))
    ≡ mark_places (marking_of l.fn.self) (cell_places ports m (read_bits type l.pins))
