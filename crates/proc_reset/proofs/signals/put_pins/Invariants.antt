-- The signals so far and those of the pins that are left are all.
use Rattle.std.proofs.Common.{◌≡◌, ◌++◌, drop, flat_map}
use Rattle.rtl_ir.specs.Types.{CellType}
use Rattle.net_index.specs.Types.{IsType}
use Rattle.proc_reset.specs.Reads.{pin_signal}
use Rattle.proc_reset.proofs.signals.put_pins.Given as goal

abbrev pub invariant-loop-pin : goal.invariant-loop-pin
invariant-loop-pin l =
    (type : CellType) → IsType l.cell_type type
    → l.signals.items ++ flat_map (pin_signal type) (drop l.pin-index l.pins) ≡ l.fn.signals.items ++ flat_map (pin_signal type) l.pins
