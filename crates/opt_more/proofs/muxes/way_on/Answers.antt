use Rattle.std.proofs.Common.{◌≡◌, suc, true, List, Option, Some, map, refl, sym, ◌∙◌, ap, subst}
use Rattle.std.specs.Arc.{arc_value}
use Rattle.cell_types.specs.PinName.{pin_text}
use Rattle.rtl_ir.specs.Follow.{follow}
use Rattle.rtl_ir.specs.Parameters.{signal_at}
use Rattle.rtl_ir.specs.Signals.{same_signal}
use Rattle.rtl_ir.specs.declared.cell.Cell.{Cell}
use Rattle.opt_expr.specs.Places.{place_of}
use Rattle.opt_more.specs.Ends.{LeadsTo}
use Rattle.opt_more.specs.Muxtree.{gives_as, now_at, way_on}
use Rattle.opt_more.specs.Turns.{slots_with}
use Rattle.opt_more.proofs.Knowing.{arm_at}
use Rattle.opt_more.proofs.Learning.{leads_back, leads_far}
use Rattle.opt_more.proofs.muxes.way_on.Goals as goal

pub returns-in-Some-known-clause-way : goal.returns-in-Some-known-clause-way
returns-in-Some-known-clause-way c = λ cells links places aliases ends.
    let slots : List (Option Cell) = slots_with c.args.turn.now.others.now c.args.turn.now.cell.now in
    let here : place_of cells c.args.word.now ≡ Some c.in-Some.place = sym (c.in-Some.ensures.value cells places) in
    let there : now_at slots (Some c.in-Some.place) ≡ Some c.in-Some-now_at.other.now = sym c.in-Some-now_at.ensures.value in
    let gives : gives_as links c.args.turn.now.cell.now c.args.word.now c.in-Some-now_at.other.now ≡ true = sym (c.in_ok-gives_as.ensures.value links aliases) ∙ c.if-not-branch.false in
    let far : LeadsTo (way_on c.args.arm.now.name cells slots links c.args.turn.now.cell.now) (suc c.in-Some-known.end.now.steps) c.args.word.now (arc_value c.in-Some-known.end.now.word) =
    leads_far c.args.arm.now.name cells slots links c.args.turn.now.cell.now c.args.word.now c.args.arm.now c.in-Some.place c.in-Some-now_at.other.now c.in-Some-known.end.now refl here there gives ends c.in-Some-known.ensures.known.0
    in
    subst (λ z. LeadsTo (way_on c.args.arm.now.name cells slots links c.args.turn.now.cell.now) (suc z) c.args.word.now (arc_value c.in_ok-share.field-0.word)) (sym c.in_ok-share.ensures.steps)
    (subst (λ z. LeadsTo (way_on c.args.arm.now.name cells slots links c.args.turn.now.cell.now) (suc c.in-Some-known.end.now.steps) c.args.word.now z) (sym c.in_ok-share.ensures.word) far)

pub returns-then-same_signal-clause-way : goal.returns-then-same_signal-clause-way
returns-then-same_signal-clause-way c = λ cells links places aliases ends.
    let slots : List (Option Cell) = slots_with c.args.turn.now.others.now c.args.turn.now.cell.now in
    let here : place_of cells c.args.word.now ≡ Some c.in-Some.place = sym (c.in-Some.ensures.value cells places) in
    let there : now_at slots (Some c.in-Some.place) ≡ Some c.in-Some-now_at.other.now = sym c.in-Some-now_at.ensures.value in
    let gives : gives_as links c.args.turn.now.cell.now c.args.word.now c.in-Some-now_at.other.now ≡ true = sym (c.in_ok-gives_as.ensures.value links aliases) ∙ c.if-not-branch.false in
    let next : c.in_ok-next.next ≡ arm_at c.args.arm.now.name links c.in-Some-now_at.other.now =
    c.in_ok-next.ensures.value links (c.gives_as.ensures.keeps links aliases) ∙ ap (map (follow links)) (c.pin_signal.ensures.value ∙ (λ i. signal_at (c.as_slice.ensures.value i) (pin_text c.args.arm.now.name)))
    in
    let same : same_signal c.in_ok-next.next c.args.word.now ≡ true = ap (λ z. same_signal z c.args.word.now) (sym c.as_slice-2.ensures.value) ∙ sym c.if-same_signal.ensures.value in
    leads_back c.args.arm.now.name cells slots links c.args.turn.now.cell.now c.args.word.now c.in-Some.place c.in-Some-now_at.other.now c.in_ok-next.next here there gives next same
