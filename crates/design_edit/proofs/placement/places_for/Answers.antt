use Rattle.std.proofs.Common.{◌≡◌, ◌+◌, ◌∙◌, ◌++◌, ◌∷◌, [], ℕ, ap, arith, subst, sym, take}
use Rattle.design_edit.specs.Modules.{PassesAt, place_for, with_module, with_modules}
use Rattle.design_edit.specs.Table.{ArePlaces}
use Rattle.design_edit.proofs.Editing.{AreCounted, counted_again, counted_more, passes_at, places_more}
use Rattle.design_edit.proofs.placement.places_for.Goals as goal
use Rattle.design_edit.proofs.placement.places_for.Goals.{then-place-count+else-count-eq-MAX_MODULES, else-place-count}

pub returns-then-count-eq-MAX_MODULES-clause-past : goal.returns-then-count-eq-MAX_MODULES-clause-past
returns-then-count-eq-MAX_MODULES-clause-past c at is =
    let ms = c.args.modules.now in
    let es = c.args.edits.now in
    let l = c.loop-at in
    let edit = c.index-edits-at.result in
    let now = with_modules ms (take l.at es) in
    let placed : c.in_ok-place.place ≡ place_for now edit.id =
    c.in_ok-place.ensures.place now l.invariant.counted.known l.invariant.counted.counted ∙ ap (place_for now) c.as_slice.ensures.value in
    let same : l.at ≡ at = cc in
    subst (PassesAt ms es) same
    (passes_at ms es l.at edit c.loop-at-test.true c.index-edits-at.is l.table l.count c.in_ok-place.place l.invariant.counted placed c.if-place-count.true c.if-count-eq-MAX_MODULES.true)

pub loop-at-preserved : goal.loop-at-preserved
loop-at-preserved c =
    let ms = c.args.modules.now in
    let es = c.args.edits.now in
    let l = c.loop-at in
    let edit = c.index-edits-at.result in
    let now = with_modules ms (take l.at es) in
    let placed : c.in_ok-place.place ≡ place_for now edit.id =
    c.in_ok-place.ensures.place now l.invariant.counted.known l.invariant.counted.counted ∙ ap (place_for now) c.as_slice.ensures.value in
    let are : ArePlaces c.take_place.new.table (with_module now edit) =
    c.in_ok-place.ensures.table now edit l.invariant.counted.known l.invariant.counted.counted (sym c.as_slice.ensures.value) in
    record {
      counted = elim c.if-place-count.branch [
        | then-place-count+else-count-eq-MAX_MODULES w ↦ subst (λ (count : ℕ). AreCounted ms es (l.at + 1) c.take_place.new.table count) (sym w.count-is)
            (counted_more ms es l.at edit c.loop-at-test.true c.index-edits-at.is l.table c.take_place.new.table l.count c.in_ok-place.place l.invariant.counted placed w.if-place-count.true are)
        | else-place-count w ↦ subst (λ (count : ℕ). AreCounted ms es (l.at + 1) c.take_place.new.table count) (sym w.count-is)
            (counted_again ms es l.at edit c.loop-at-test.true c.index-edits-at.is l.table c.take_place.new.table l.count c.in_ok-place.place l.invariant.counted placed w.if-place-count.false are)
      ];
      few = elim c.if-place-count.branch [
        | then-place-count+else-count-eq-MAX_MODULES w ↦ omega (arith, w.count-is, w.if-count-eq-MAX_MODULES.false, l.invariant.few)
        | else-place-count w ↦ omega (arith, w.count-is, l.invariant.few)
      ];
      placed =
          c.in_ok-push.ensures.items
          ∙ (λ i. l.invariant.placed i ++ placed i ∷ [])
          ∙ sym (places_more ms es l.at edit c.loop-at-test.true c.index-edits-at.is);
    }
