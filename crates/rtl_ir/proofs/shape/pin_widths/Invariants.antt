-- The widths so far and those of the pins that are left are all.
use Rattle.std.proofs.Common.{◌≡◌, ◌++◌, drop}
use Rattle.rtl_ir.specs.Faults.Cells.{pin_widths}
use Rattle.rtl_ir.proofs.shape.pin_widths.Given as goal

abbrev pub invariant-loop-pin : goal.invariant-loop-pin
invariant-loop-pin l = l.widths.items ++ pin_widths (drop l.pin-index l.pins) ≡ pin_widths l.pins
