use Rattle.std.proofs.Common.{◌≡◌, ◌≤◌, length}
use Rattle.std.specs.Vec.{vec_capacity}
use Rattle.work_crew.specs.Setup.{AllIdle}
use Rattle.work_crew.proofs.setup.works_for.Given as goal

abbrev pub invariant-loop : goal.invariant-loop
invariant-loop g l = record {
  idle : AllIdle l.works.items;
  len : length l.works.items ≡ l.counter;
  room : l.workers ≤ vec_capacity l.works;
}
