-- The digits that are left, behind the number so far, make the whole number.
use Rattle.std.proofs.Common.{◌≡◌, drop}
use Rattle.rtl_ir.specs.Build.{digits_number}
use Rattle.net_index.proofs.fresh.digits_number.Given as goal

abbrev pub invariant-loop-digit : goal.invariant-loop-digit
invariant-loop-digit l = digits_number l.number (drop l.digit-index l.digits) ≡ digits_number 0 l.digits
