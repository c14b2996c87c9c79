use Rattle.std.proofs.Common.{◌≡◌, ◌≤◌, replicate, vec_len, None}
use Rattle.std.specs.Vec.{vec_capacity}
use Rattle.work_crew.proofs.setup.places_for.Given as goal

abbrev pub invariant-loop : goal.invariant-loop
invariant-loop g l = record {
  places : l.places.items ≡ replicate l.counter None;
  len : vec_len l.places ≡ l.counter;
  room : l.count ≤ vec_capacity l.places;
}
