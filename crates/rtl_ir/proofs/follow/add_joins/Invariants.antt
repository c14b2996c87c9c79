-- The places so far and those that are left are all.
use Rattle.std.proofs.Common.{◌≡◌, ◌++◌, drop}
use Rattle.rtl_ir.specs.Follow.{joins}
use Rattle.rtl_ir.proofs.follow.add_joins.Given as goal

abbrev pub invariant-loop-at : goal.invariant-loop-at
invariant-loop-at l = l.found.items ++ joins (drop l.at l.left) (drop l.at l.right) ≡ l.fn.found.items ++ joins l.left l.right
