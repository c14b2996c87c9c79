use Rattle.std.proofs.Common.{◌≡◌, ◌<◌, ◌≤◌, length}
use Rattle.std.specs.Vec.{vec_capacity}
use Rattle.work_crew.specs.Setup.{KeepsOwners, AllFixed, AllNoted}
use Rattle.work_crew.proofs.setup.rows_for.Given as goal

abbrev pub invariant-loop : goal.invariant-loop
invariant-loop l = record {
  kept : KeepsOwners l.initial.owners.items l.owners.items;
  capacity : vec_capacity l.owners ≡ vec_capacity l.initial.owners;
  fixed : 0 < l.counter → AllFixed l.owners.items;
  noted : AllNoted l.owners.items l.rows.items;
  len : length l.rows.items ≡ l.counter;
  room : l.workers ≤ vec_capacity l.rows;
}
