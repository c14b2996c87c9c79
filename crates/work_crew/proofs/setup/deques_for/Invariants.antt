use Rattle.std.proofs.Common.{◌≡◌, ◌≤◌, length}
use Rattle.std.specs.Vec.{vec_capacity}
use Rattle.work_crew.specs.Setup.{AreDealt, AreThieves}
use Rattle.work_crew.proofs.setup.deques_for.Given as goal

abbrev pub invariant-loop-first : goal.invariant-loop-first
invariant-loop-first l = record {
  dealt : AreDealt 0 l.workers l.count l.owners.items;
  thieves : AreThieves l.owners.items l.thieves.items;
  len : length l.owners.items ≡ l.first;
  thieves_len : length l.thieves.items ≡ l.first;
  room : l.workers ≤ vec_capacity l.owners;
  thieves_room : l.workers ≤ vec_capacity l.thieves;
}
