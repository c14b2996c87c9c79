use Rattle.std.proofs.Common.{◌≡◌, ◌<◌, ◌≤◌, length, get_or, rules, sym, ap, subst, arith}
use Rattle.std.proofs.lemmas.List.{get_or_default}
use Rattle.fsm_code.specs.Places.{AreMarks}
use Rattle.fsm_code.proofs.Marking.{mark_goes, mark_skips, marks_end, none_marked_if}
use Rattle.fsm_code.proofs.marks.marks.Goals as goal
use Rattle.fsm_code.proofs.marks.marks.Goals.{then-place-len, else-place-len}

pub loop-place-init : goal.loop-place-init
loop-place-init c = none_marked_if c.args.count c.in_ok-marks.marks.items (search (rules, c.in_ok-marks.ensures.items_if_clones_equal))

pub loop-place-preserved : goal.loop-place-preserved
loop-place-preserved c =
    let places = c.args.places.now in
    let k = c.loop-place.place-index in
    let p = get_or places k 0 in
    let there : k < length places = c.loop-place-test.true in
    let is : p ≡ get_or places k p = get_or_default places k 0 p there in
    elim c.if-place-len.branch [
      | then-place-len w ↦ let inside : p < length c.loop-place.marks.items = omega (arith, w.if-place-len.true, c.len.ensures, c.loop-place.marks.ok.0) in
          subst (AreMarks c.args.count _) (sym (ap (λ v. v.items) w.marks-is)) (mark_goes c.args.count places k p there is c.loop-place.marks.items c.loop-place.invariant inside)
      | else-place-len w ↦ let outside : length c.loop-place.marks.items ≤ p = omega (arith, w.if-place-len.false, c.len.ensures, c.loop-place.marks.ok.0) in
          subst (AreMarks c.args.count _) (sym (ap (λ v. v.items) w.marks-is)) (mark_skips c.args.count places k p there is c.loop-place.marks.items c.loop-place.invariant outside)
    ]

pub returns : goal.returns
returns c = record { value = marks_end c.args.count c.args.places.now c.loop-place.place-index c.loop-place.marks.items (omega (arith, c.loop-place-test.false)) c.loop-place.invariant }
