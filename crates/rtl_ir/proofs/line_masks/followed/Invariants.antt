-- What is marked, or follows from the lines that are left, follows from all.
use Rattle.std.proofs.Common.{◌≡◌, ℕ, ◌<◌, false, length, drop, get_or}
use Rattle.std.specs.Prelude.{◌||◌}
use Rattle.rtl_ir.specs.Flat.Access.{line_follows}
use Rattle.rtl_ir.proofs.line_masks.followed.Given as goal

abbrev pub invariant-loop-at : goal.invariant-loop-at
invariant-loop-at l = record {
  long : length l.marks.items ≡ l.count;
  all : (k : ℕ) → k < l.count → (get_or l.marks.items k false || line_follows k (drop l.at l.before) (drop l.at l.mask)) ≡ line_follows k l.before l.mask;
}
