use Rattle.std.proofs.Common.{◌+◌, sym, subst, arith}
use Rattle.net_index.proofs.IndexPassing.{Passed, passed_back, passed_end, passed_loop, passed_mark, passed_on, passed_out, passed_start}
use Rattle.net_index.proofs.IndexTables.{same_bit-true}
use Rattle.net_index.proofs.index_ways.Ways.end_of.Goals as goal
use Rattle.net_index.proofs.index_ways.Ways.end_of.Goals.{then-is_power_of_two, else-is_power_of_two}

pub loop-step-init : goal.loop-step-init
loop-step-init c = λ joins are. passed_start joins c.args.start

pub returns-in-End : goal.returns-in-End
returns-in-End c = record {
  value = λ joins are. passed_end joins c.args.start c.loop-step.mark c.loop-step.bit c.loop-step.step (c.loop-step.invariant joins are) _ (c.in-End.ensures.value joins are);
}

pub returns-in-Loop : goal.returns-in-Loop
returns-in-Loop c = record {
  value = λ joins are. passed_loop joins c.args.start c.loop-step.mark c.loop-step.bit c.loop-step.step (c.loop-step.invariant joins are) (c.in-Loop.ensures.value joins are);
}

pub returns-then-eq : goal.returns-then-eq
returns-then-eq c = record {
  value = λ joins are.
      passed_back joins c.args.start c.loop-step.mark c.loop-step.bit c.in-To.next c.loop-step.step (c.in-To.ensures.value joins are) (c.loop-step.invariant joins are) (same_bit-true c.in-To.next c.loop-step.mark (sym c.if-eq.ensures));
}

pub loop-step-preserved : goal.loop-step-preserved
loop-step-preserved c = λ joins are.
    let p = passed_on joins c.args.start c.loop-step.mark c.loop-step.bit c.in-To.next c.loop-step.step (c.in-To.ensures.value joins are) (c.loop-step.invariant joins are) in
    elim c.if-is_power_of_two.branch [
      | then-is_power_of_two w ↦ subst (λ m. Passed joins c.args.start m c.in-To.next (c.loop-step.step + 1)) (sym w.mark-is) (passed_mark joins c.args.start c.loop-step.mark c.in-To.next (c.loop-step.step + 1) p)
      | else-is_power_of_two w ↦ subst (λ m. Passed joins c.args.start m c.in-To.next (c.loop-step.step + 1)) (sym w.mark-is) p
    ]

pub returns : goal.returns
returns c = record {
  value = λ joins are. passed_out joins c.args.start c.loop-step.mark c.loop-step.bit c.loop-step.step (c.loop-step.invariant joins are) (omega (arith, are.steps));
}
