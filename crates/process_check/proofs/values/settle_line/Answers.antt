use Rattle.std.proofs.Common.{arith, rules}
use Rattle.process_check.specs.Values.{is_settled}
use Rattle.process_check.proofs.Settled.{line_end, line_goes_on, line_stops}
use Rattle.process_check.proofs.values.settle_line.Goals as goal

pub returns-then-not-settle_place : goal.returns-then-not-settle_place
returns-then-not-settle_place c = record {
  value = λ root bits are.
      line_stops (is_settled root bits c.args.itself) c.args.left.now c.args.right.now c.loop-at.at _ (omega arith) c.settle_place.result _
      (search rules) (c.settle_place.ensures.value root bits are) (c.loop-at.invariant root bits are);
}

pub loop-at-preserved : goal.loop-at-preserved
loop-at-preserved c = λ root bits are.
    line_goes_on (is_settled root bits c.args.itself) c.args.left.now c.args.right.now c.loop-at.at _ (omega arith) c.settle_place.result _
    (search rules) (c.settle_place.ensures.value root bits are) (c.loop-at.invariant root bits are)

pub returns : goal.returns
returns c = record {
  value = λ root bits are.
      line_end (is_settled root bits c.args.itself) c.args.left.now c.args.right.now c.loop-at.at (omega arith) _ (c.loop-at.invariant root bits are);
}
