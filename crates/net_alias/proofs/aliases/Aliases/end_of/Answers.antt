use Rattle.std.proofs.Common.{Some, arith, subst}
use Rattle.net_alias.specs.Aliases.{IsStep}
use Rattle.net_alias.proofs.Learning.{walked_end, walked_far, walked_loop, walked_on}
use Rattle.net_alias.proofs.aliases.Aliases.end_of.Goals as goal

pub returns-in-Loop-clause-value : goal.returns-in-Loop-clause-value
returns-in-Loop-clause-value c = λ all are.
    walked_loop all c.args.bit c.loop-step.at c.loop-step._step (c.loop-step.invariant.way all are) (subst (λ s. IsStep all c.loop-step.at (Some s)) c.in-Loop.is (c.in-Some.ensures.step all (c.loop-step.invariant.keeps all are)))

pub loop-step-preserved : goal.loop-step-preserved
loop-step-preserved c = record {
  keeps = λ all are. c.move_on.ensures.keeps all (c.loop-step.invariant.keeps all are);
  way = λ all are. walked_on all c.args.bit c.loop-step.at _ c.loop-step._step (c.loop-step.invariant.way all are) (subst (λ s. IsStep all c.loop-step.at (Some s)) c.in-To.is (c.in-Some.ensures.step all (c.loop-step.invariant.keeps all are)));
}

pub returns-clause-value : goal.returns-clause-value
returns-clause-value c = λ all are.
    walked_far all c.args.bit c.loop-step.at c.loop-step._step (c.loop-step.invariant.way all are) (let s = are.steps in omega (arith, c.loop-step-test.false))

pub returns-in-None-clause-value : goal.returns-in-None-clause-value
returns-in-None-clause-value c = λ all are.
    walked_end all c.args.bit c.loop-step.at c.loop-step._step (c.loop-step.invariant.way all are) (c.in-None.ensures.step all (c.loop-step.invariant.keeps all are))
