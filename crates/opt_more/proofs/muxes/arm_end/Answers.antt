use Rattle.std.proofs.Common.{◌≡◌, suc, ◌+◌, ◌-◌, ◌<◌, ◌≤◌, List, [], ◌∷◌, ◌++◌, length, Option, refl, sym, ◌∙◌, ap, subst, arith}
use Rattle.std.specs.Prelude.{slice_index_or}
use Rattle.std.specs.Arc.{arc_value}
use Rattle.std.proofs.lemmas.List.{length-append}
use Rattle.std.proofs.lemmas.Result.{IfOk-weaker}
use Rattle.rtl_ir.specs.declared.cell.Cell.{Cell}
use Rattle.opt_more.specs.Ends.{EndsAt, IsKnown, LeadsTo}
use Rattle.opt_more.specs.Muxtree.{arm_end, way_on}
use Rattle.opt_more.specs.Turns.{slots_with}
use Rattle.opt_more.specs.Ways.{IsWithin}
use Rattle.opt_more.proofs.ArmWays.{all_known, still_ends, way_ends, way_known, way_passes}
use Rattle.opt_more.proofs.Learning.{HasPassed, one_passed}
use Rattle.opt_more.proofs.MuxSteps.{slots_long}
use Rattle.opt_more.proofs.Walks.{walk_ended, walk_known, walk_on}
use Rattle.opt_more.proofs.muxes.arm_end.Goals as goal

pub returns-in-Known-clause-value : goal.returns-in-Known-clause-value
returns-in-Known-clause-value c =
    IfOk-weaker c.copy.result _ _
    (λ z e cells links places aliases ends.
    let slots : List (Option Cell) = slots_with c.args.turn.now.others.now c.args.turn.now.cell.now in
    let long : length slots ≡ (length c.args.turn.now.others.now.done.now + 1) + length c.args.turn.now.others.now.rest.now.items = slots_long c.args.arm.now.name links c.args.turn.now.others.now.done.now c.args.turn.now.cell.now c.args.turn.now.others.now.rest.now.items in
    let near : c.in-Known.end.steps < ((length c.args.turn.now.others.now.done.now + 1) + c.len.result) - c.loop-step.step = subst (IsWithin (((length c.args.turn.now.others.now.done.now + 1) + c.len.result) - c.loop-step.step)) c.in-Known.is c.in_ok-way.ensures.within in
    let lt : c.in-Known.end.steps < length slots - c.loop-step.step = omega (arith, near, long, c.len.ensures) in
    let leads : LeadsTo (way_on c.args.arm.now.name cells slots links c.args.turn.now.cell.now) (suc c.in-Known.end.steps) c.loop-step.word (arc_value c.in-Known.end.word) =
    way_known cells slots links c.args.turn.now.cell.now c.args.arm.now c.loop-step.arm c.loop-step.invariant.same c.loop-step.word ends c.as_slice-in-loop-step.result.now c.as_slice-in-loop-step.ensures.value c.in_ok-way.way (c.in_ok-way.ensures.way cells links places (c.loop-step.invariant.keeps links aliases)) c.in-Known.end c.in-Known.is
    in
    e
    ∙ c.deref.ensures
    ∙ walk_known (way_on c.args.arm.now.name cells slots links c.args.turn.now.cell.now) (length slots) c.loop-step.step c.in-Known.end.steps c.loop-step.word (arc_value c.in-Known.end.word) (arm_end c.args.arm.now.name cells slots links c.args.turn.now.cell.now) leads lt (c.loop-step.invariant.word cells links places aliases ends))
    c.copy.ensures.value

pub returns-in-Known-clause-ends : goal.returns-in-Known-clause-ends
returns-in-Known-clause-ends c =
    IfOk-weaker c.copy.result _ _
    (λ z e cells links places aliases ends.
    let slots : List (Option Cell) = slots_with c.args.turn.now.others.now c.args.turn.now.cell.now in
    let long : length slots ≡ (length c.args.turn.now.others.now.done.now + 1) + length c.args.turn.now.others.now.rest.now.items = slots_long c.args.arm.now.name links c.args.turn.now.others.now.done.now c.args.turn.now.cell.now c.args.turn.now.others.now.rest.now.items in
    let near : c.in-Known.end.steps < ((length c.args.turn.now.others.now.done.now + 1) + c.len.result) - c.loop-step.step = subst (IsWithin (((length c.args.turn.now.others.now.done.now + 1) + c.len.result) - c.loop-step.step)) c.in-Known.is c.in_ok-way.ensures.within in
    let leads : LeadsTo (way_on c.args.arm.now.name cells slots links c.args.turn.now.cell.now) (suc c.in-Known.end.steps) c.loop-step.word (arc_value c.in-Known.end.word) =
    way_known cells slots links c.args.turn.now.cell.now c.args.arm.now c.loop-step.arm c.loop-step.invariant.same c.loop-step.word ends c.as_slice-in-loop-step.result.now c.as_slice-in-loop-step.ensures.value c.in_ok-way.way (c.in_ok-way.ensures.way cells links places (c.loop-step.invariant.keeps links aliases)) c.in-Known.end c.in-Known.is
    in
    let more : suc c.in-Known.end.steps ≡ c.in-Known.end.steps + 1 = omega arith in
    let leads' : LeadsTo (way_on c.args.arm.now.name cells slots links c.args.turn.now.cell.now) (c.in-Known.end.steps + 1) c.loop-step.word (arc_value c.in-Known.end.word) = subst (λ n. LeadsTo (way_on c.args.arm.now.name cells slots links c.args.turn.now.cell.now) n c.loop-step.word (arc_value c.in-Known.end.word)) more leads in
    let passed : length c.as_slice-in-Known.result.now ≡ c.loop-step.step = ap length c.as_slice-in-Known.ensures.value ∙ c.loop-step.invariant.long in
    let room : (c.in-Known.end.steps + 1) + length c.as_slice-in-Known.result.now ≤ length slots = omega (arith, near, long, passed, c.len.ensures) in
    c.in_ok-learn-in-Known.ensures.ends cells slots links
    (still_ends cells slots links c.args.turn.now.cell.now c.args.arm.now c.loop-step.arm c.loop-step.invariant.same c.loop-step.word ends) room
    (all_known cells slots links c.args.turn.now.cell.now c.args.arm.now c.loop-step.arm c.loop-step.invariant.same c.loop-step.word c.loop-step.passed.items c.as_slice-in-Known.result.now (c.in-Known.end.steps + 1) (arc_value c.in-Known.end.word) c.as_slice-in-Known.ensures.value (c.loop-step.invariant.passed cells links places aliases ends) leads'))
    c.copy.ensures.value

pub returns-in-Ends-clause-value : goal.returns-in-Ends-clause-value
returns-in-Ends-clause-value c = λ cells links places aliases ends.
    let slots : List (Option Cell) = slots_with c.args.turn.now.others.now c.args.turn.now.cell.now in
    let ended : EndsAt (way_on c.args.arm.now.name cells slots links c.args.turn.now.cell.now) c.loop-step.word =
    way_ends cells slots links c.args.turn.now.cell.now c.args.arm.now c.loop-step.arm c.loop-step.invariant.same c.loop-step.word ends c.as_slice-in-loop-step.result.now c.as_slice-in-loop-step.ensures.value c.in_ok-way.way (c.in_ok-way.ensures.way cells links places (c.loop-step.invariant.keeps links aliases)) c.in-Ends.is
    in
    walk_ended (way_on c.args.arm.now.name cells slots links c.args.turn.now.cell.now) (length slots) c.loop-step.step c.loop-step.word (arm_end c.args.arm.now.name cells slots links c.args.turn.now.cell.now) ended (c.loop-step.invariant.word cells links places aliases ends)

pub returns-in-Ends-clause-ends : goal.returns-in-Ends-clause-ends
returns-in-Ends-clause-ends c = λ cells links places aliases ends.
    let slots : List (Option Cell) = slots_with c.args.turn.now.others.now c.args.turn.now.cell.now in
    let long : length slots ≡ (length c.args.turn.now.others.now.done.now + 1) + length c.args.turn.now.others.now.rest.now.items = slots_long c.args.arm.now.name links c.args.turn.now.others.now.done.now c.args.turn.now.cell.now c.args.turn.now.others.now.rest.now.items in
    let ended : EndsAt (way_on c.args.arm.now.name cells slots links c.args.turn.now.cell.now) c.loop-step.word =
    way_ends cells slots links c.args.turn.now.cell.now c.args.arm.now c.loop-step.arm c.loop-step.invariant.same c.loop-step.word ends c.as_slice-in-loop-step.result.now c.as_slice-in-loop-step.ensures.value c.in_ok-way.way (c.in_ok-way.ensures.way cells links places (c.loop-step.invariant.keeps links aliases)) c.in-Ends.is
    in
    let passed : length c.as_slice-in-Ends.result.now ≡ c.loop-step.step = ap length c.as_slice-in-Ends.ensures.value ∙ c.loop-step.invariant.long in
    let few : length c.as_slice-in-Ends.result.now ≤ length slots = omega (arith, long, passed, c.len.ensures, c.loop-step-test.true) in
    c.in_ok-learn_word-in-Ends.ensures.ends cells slots links
    (still_ends cells slots links c.args.turn.now.cell.now c.args.arm.now c.loop-step.arm c.loop-step.invariant.same c.loop-step.word ends) few
    (λ back lt.
    let none : 0 + back ≡ back = omega arith in
    subst (λ z. IsKnown c.loop-step.arm.name cells slots links (slice_index_or c.as_slice-in-Ends.result.now (length c.as_slice-in-Ends.result.now - 1 - back) 0) back z) (sym c.as_slice-in-Ends-2.ensures.value)
    (subst (λ n. IsKnown c.loop-step.arm.name cells slots links (slice_index_or c.as_slice-in-Ends.result.now (length c.as_slice-in-Ends.result.now - 1 - back) 0) n c.loop-step.word) none
    (all_known cells slots links c.args.turn.now.cell.now c.args.arm.now c.loop-step.arm c.loop-step.invariant.same c.loop-step.word c.loop-step.passed.items c.as_slice-in-Ends.result.now 0 c.loop-step.word c.as_slice-in-Ends.ensures.value (c.loop-step.invariant.passed cells links places aliases ends) (refl, ended) back lt)))

pub loop-step-preserved : goal.loop-step-preserved
loop-step-preserved c = record {
  word = λ cells links places aliases ends.
      let slots : List (Option Cell) = slots_with c.args.turn.now.others.now c.args.turn.now.cell.now in
      let long : length slots ≡ (length c.args.turn.now.others.now.done.now + 1) + length c.args.turn.now.others.now.rest.now.items = slots_long c.args.arm.now.name links c.args.turn.now.others.now.done.now c.args.turn.now.cell.now c.args.turn.now.others.now.rest.now.items in
      let lt : c.loop-step.step < length slots = omega (arith, long, c.len.ensures, c.loop-step-test.true) in
      let passes = way_passes cells slots links c.args.turn.now.cell.now c.args.arm.now c.loop-step.arm c.loop-step.invariant.same c.loop-step.word ends c.as_slice-in-loop-step.result.now c.as_slice-in-loop-step.ensures.value c.in_ok-way.way (c.in_ok-way.ensures.way cells links places (c.loop-step.invariant.keeps links aliases)) c.in-On.place c.in-On.next c.in-On.is in
      walk_on (way_on c.args.arm.now.name cells slots links c.args.turn.now.cell.now) (length slots) c.loop-step.step c.loop-step.word c.in-On.next (arm_end c.args.arm.now.name cells slots links c.args.turn.now.cell.now) passes.0 lt (c.loop-step.invariant.word cells links places aliases ends);
  passed = λ cells links places aliases ends.
      let slots : List (Option Cell) = slots_with c.args.turn.now.others.now c.args.turn.now.cell.now in
      let passes = way_passes cells slots links c.args.turn.now.cell.now c.args.arm.now c.loop-step.arm c.loop-step.invariant.same c.loop-step.word ends c.as_slice-in-loop-step.result.now c.as_slice-in-loop-step.ensures.value c.in_ok-way.way (c.in_ok-way.ensures.way cells links places (c.loop-step.invariant.keeps links aliases)) c.in-On.place c.in-On.next c.in-On.is in
      subst (λ z. HasPassed c.args.arm.now.name cells slots links c.args.turn.now.cell.now z c.in-On.next) (sym c.in_ok-push-in-On.ensures.items)
      (one_passed c.args.arm.now.name cells slots links c.args.turn.now.cell.now c.loop-step.passed.items c.loop-step.word c.in-On.next c.in-On.place passes.0 passes.1 (c.loop-step.invariant.passed cells links places aliases ends));
  long =
      let more : length (c.loop-step.passed.items ++ c.in-On.place ∷ []) ≡ length c.loop-step.passed.items + 1 = length-append c.loop-step.passed.items (c.in-On.place ∷ []) in
      ap length c.in_ok-push-in-On.ensures.items ∙ more ∙ ap (λ n. n + 1) c.loop-step.invariant.long;
  same = c.loop-step.invariant.same;
  keeps = λ links aliases. c.way_on.ensures.keeps links (c.loop-step.invariant.keeps links aliases);
}
