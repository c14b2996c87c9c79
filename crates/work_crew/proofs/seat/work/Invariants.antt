use Rattle.std.proofs.Common.{◌≡◌, ◌-◌, vec_len}
use Rattle.std.specs.Vec.{vec_capacity}
use Rattle.work_crew.specs.Reach.{CanTake, SameReach, took}
use Rattle.work_crew.specs.Along.{numbers_of}
use Rattle.work_crew.specs.Turns.{OnItsWay}
use Rattle.work_crew.proofs.seat.work.Given as goal

abbrev pub invariant-loop-seat : goal.invariant-loop-seat
invariant-loop-seat g l = record {
  way : OnItsWay (g.J.Job.does l.jobs) (g.J.Job.token_fits l.jobs) (g.J.Job.output_fits l.jobs) l.seat.worked.done.items l.fn.token l.token l.fn.seat.meter l.seat.meter (λ k. took k l.fn.seat.reach) (λ k. took k l.seat.reach);
  taken : l.seat.worked.taken.items ≡ numbers_of l.seat.worked.done.items;
  can : CanTake l.thieves l.seat.reach;
  same : SameReach l.fn.seat.reach l.seat.reach;
}

abbrev pub decreases-loop-seat : goal.decreases-loop-seat
decreases-loop-seat g l = vec_capacity l.seat.worked.taken - vec_len l.seat.worked.taken
