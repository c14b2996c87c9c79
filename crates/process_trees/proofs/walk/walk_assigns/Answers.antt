use Rattle.std.proofs.Common.{◌≡◌, ◌+◌, ◌-◌, ◌<◌, drop, length, arith, subst}
use Rattle.rtl_ir.specs.Assigns.{assigned, last_source}
use Rattle.rtl_ir.specs.Follow.{joins}
use Rattle.process_trees.specs.Reach.{given_last}
use Rattle.process_trees.specs.Walk.{Walked}
use Rattle.process_trees.proofs.Backward.{assigns_step}
use Rattle.process_trees.proofs.Walks.{walked_as}
use Rattle.process_trees.proofs.walk.walk_assigns.Goals as goal

pub loop-at-preserved : goal.loop-at-preserved
loop-at-preserved c =
    let line = c.index-assigns-at.result in
    let next : c.loop-at.at ≡ c.loop-at.at - 1 + 1 = grind (arith, c.loop-at-test.true) in
    let inside : c.loop-at.at - 1 < length c.args.assigns.now = grind (arith, c.loop-at.auto.at, c.loop-at-test.true) in
    let so_far = subst (λ n. Walked c.args.numbers.now (λ b. given_last (assigned (drop n c.args.assigns.now) b)) c.args.walk.now c.loop-at.walk) next c.loop-at.invariant.walked in
    let here =
    walked_as c.args.numbers.now (λ b. given_last (last_source (joins c.as_slice.result.now c.as_slice-in-loop-at.result.now) b)) (λ b. given_last (last_source (joins line.left line.right) b)) c.loop-at.walk c.walk_line.new.walk
    (λ b i. given_last (last_source (joins (c.as_slice.ensures.value i) (c.as_slice-in-loop-at.ensures.value i)) b)) c.in_ok-walk_line.ensures.walked in
    record {
      walked = assigns_step c.args.numbers.now c.args.assigns.now (c.loop-at.at - 1) line inside c.index-assigns-at.is c.args.walk.now c.loop-at.walk c.walk_line.new.walk so_far here;
      set = λ before are. c.in_ok-walk_line.ensures.set before (c.loop-at.invariant.set before are);
    }

pub returns-clause-walked : goal.returns-clause-walked
returns-clause-walked c =
    let first : c.loop-at.at ≡ 0 = grind (arith, c.loop-at-test.false) in
    subst (λ n. Walked c.args.numbers.now (λ b. given_last (assigned (drop n c.args.assigns.now) b)) c.args.walk.now c.loop-at.walk) first c.loop-at.invariant.walked
