-- There is as much to do as before.
use Rattle.std.proofs.Common.{◌≡◌, length}
use Rattle.process_check.specs.Ends.{AreBelow, to_do}
use Rattle.process_check.proofs.ends.Ends.free_all.Given as goal

abbrev pub invariant-loop-place : goal.invariant-loop-place
invariant-loop-place l = record {
  ending : l.self.ending ≡ l.initial.self.ending;
  left : length l.self.left.items ≡ length l.initial.self.left.items;
  waiting : AreBelow (length l.initial.self.left.items) l.self.waiting.items;
  work : to_do l.self.left.items l.self.waiting.items ≡ to_do l.initial.self.left.items l.initial.self.waiting.items;
}
