use Rattle.std.proofs.Common.{arith, rules}
use Rattle.proc_reset.specs.Places.{is_held}
use Rattle.proc_reset.proofs.Placing.{holds_further, holds_here, none_holds}
use Rattle.proc_reset.proofs.places.line_holds.Goals as goal

pub returns-then-place_holds : goal.returns-then-place_holds
returns-then-place_holds c = record {
  value = λ root bits are.
      holds_here (is_held root bits) c.args.left.now c.args.right.now c.loop-at.at _ (omega arith) c.place_holds.result _
      (search rules) (c.place_holds.ensures.value root bits are) (c.loop-at.invariant root bits are);
}

pub loop-at-preserved : goal.loop-at-preserved
loop-at-preserved c = λ root bits are.
    holds_further (is_held root bits) c.args.left.now c.args.right.now c.loop-at.at _ (omega arith) c.place_holds.result _
    (search rules) (c.place_holds.ensures.value root bits are) (c.loop-at.invariant root bits are)

pub returns : goal.returns
returns c = record {
  value = λ root bits are. none_holds (is_held root bits) c.args.left.now c.args.right.now c.loop-at.at (omega arith) _ (c.loop-at.invariant root bits are);
}
