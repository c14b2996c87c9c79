use Rattle.std.proofs.Common.{◌≡◌, ◌+◌, ◌-◌, ◌<◌, drop, length, arith, subst}
use Rattle.rtl_ir.specs.Assigns.{last_source}
use Rattle.rtl_ir.specs.Follow.{joins}
use Rattle.process_trees.specs.Reach.{given_last}
use Rattle.process_trees.specs.Walk.{Walked}
use Rattle.process_trees.proofs.Backward.{places_begin, places_step}
use Rattle.process_trees.proofs.walk.walk_line.Goals as goal

pub loop-at-init : goal.loop-at-init
loop-at-init c = record {
  walked = places_begin c.args.numbers.now c.args.left.now c.args.right.now c.min-at.result (grind (arith, c.min-at.ensures)) c.args.walk.now;
  set = λ before are. are;
}

pub loop-at-preserved : goal.loop-at-preserved
loop-at-preserved c =
    let left = c.args.left.now in
    let right = c.args.right.now in
    let next : c.loop-at.at ≡ c.loop-at.at - 1 + 1 = grind (arith, c.loop-at-test.true) in
    let hl : c.loop-at.at - 1 < length left = grind (arith, c.loop-at.auto.at, c.loop-at-test.true, c.min-at.ensures) in
    let hr : c.loop-at.at - 1 < length right = grind (arith, c.loop-at.auto.at, c.loop-at-test.true, c.min-at.ensures) in
    let so_far = subst (λ n. Walked c.args.numbers.now (λ b. given_last (last_source (joins (drop n left) (drop n right)) b)) c.args.walk.now c.loop-at.walk) next c.loop-at.invariant.walked in
    record {
      walked = places_step c.args.numbers.now left right (c.loop-at.at - 1) _ _ hl hr c.args.walk.now c.loop-at.walk c.walk_place.new.walk so_far c.in_ok-walk_place.ensures.walked;
      set = λ before are. c.in_ok-walk_place.ensures.set before (c.loop-at.invariant.set before are);
    }

pub returns-clause-walked : goal.returns-clause-walked
returns-clause-walked c =
    let first : c.loop-at.at ≡ 0 = grind (arith, c.loop-at-test.false) in
    subst (λ n. Walked c.args.numbers.now (λ b. given_last (last_source (joins (drop n c.args.left.now) (drop n c.args.right.now)) b)) c.args.walk.now c.loop-at.walk) first c.loop-at.invariant.walked
