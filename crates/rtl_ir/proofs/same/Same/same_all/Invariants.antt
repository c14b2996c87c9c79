use Rattle.std.proofs.Common.{◌≡◌, length, drop}
use Rattle.rtl_ir.proofs.same.Same.same_all.Given as goal

abbrev pub invariant-loop-at : goal.invariant-loop-at
invariant-loop-at g l =
    (length l.items ≡ length l.others) × (drop l.at l.items ≡ drop l.at l.others → l.items ≡ l.others)
