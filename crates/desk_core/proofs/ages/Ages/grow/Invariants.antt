use Rattle.std.proofs.Common.{◌≡◌}
use Rattle.desk_core.proofs.Giving.{grown_to}
use Rattle.desk_core.proofs.ages.Ages.grow.Given as goal

-- the ages before this place are grown
abbrev pub invariant-loop-at : goal.invariant-loop-at
invariant-loop-at l = record {
  keys : l.self.keys ≡ l.initial.self.keys;
  ages : l.self.ages.items ≡ grown_to l.at l.marks l.initial.self.ages.items;
}
