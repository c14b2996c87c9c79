-- The bits so far and those of the lines that are left are all.
use Rattle.std.proofs.Common.{◌≡◌, ◌++◌, drop}
use Rattle.rtl_ir.specs.Assigns.{left_bits}
use Rattle.rtl_ir.proofs.assigns.add_left_bits.Given as goal

abbrev pub invariant-loop-line : goal.invariant-loop-line
invariant-loop-line l = l.bits.items ++ left_bits (drop l.line-index l.lines) ≡ l.fn.bits.items ++ left_bits l.lines
