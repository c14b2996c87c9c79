use Rattle.std.proofs.Common.{arith}
use Rattle.proc_reset.specs.Places.{joins_of, leaves_at}
use Rattle.proc_reset.proofs.Placing.{reset_all, reset_next}
use Rattle.proc_reset.proofs.places.places_of.Goals as goal

pub loop-at-preserved : goal.loop-at-preserved
loop-at-preserved c = λ root bits are.
    reset_next (leaves_at root bits) c.args.left.now c.args.right.now c.loop-at.at _ (omega arith) (joins_of c.loop-at.places.items) (joins_of c.put_place.new.places.items) _
    (c.in_ok-put_place.ensures.ok root bits are) (c.loop-at.invariant root bits are)

pub returns : goal.returns
returns c = record {
  value = λ root bits are. reset_all (leaves_at root bits) c.args.left.now c.args.right.now c.loop-at.at (omega arith) (joins_of c.loop-at.places.items) _ (c.loop-at.invariant root bits are);
}
