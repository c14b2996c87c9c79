use Rattle.std.proofs.Common.{◌≡◌, ◌+◌, ◌∙◌, ℕ, ap, arith, subst, sym, take}
use Rattle.design_edit.specs.Modules.{place_for, with_module, with_modules}
use Rattle.design_edit.specs.Table.{ArePlaces}
use Rattle.design_edit.proofs.Editing.{AreCounted, counted_again, counted_more}
use Rattle.design_edit.proofs.Placing.{at_most_more}
use Rattle.design_edit.proofs.placement.edited_count.Goals as goal
use Rattle.design_edit.proofs.placement.edited_count.Goals.{then-branch-count, else-branch-count}

pub overflow_add-count : goal.overflow_add-count
overflow_add-count c =
    let most = at_most_more c.args.modules.now c.args.edits.now c.loop-edit.edit-index in
    omega (arith, most, c.loop-edit.invariant.counted)

pub loop-edit-preserved : goal.loop-edit-preserved
loop-edit-preserved c =
    let ms = c.args.modules.now in
    let es = c.args.edits.now in
    let l = c.loop-edit in
    let edit = c.edit-item.result in
    let now = with_modules ms (take l.edit-index es) in
    let at : c.in_ok-take_place.field-0 ≡ place_for now edit.id =
    c.in_ok-take_place.ensures.place now l.invariant.known l.invariant.counted ∙ ap (place_for now) c.as_slice.ensures.value in
    let are : ArePlaces c.take_place.new.table (with_module now edit) =
    c.in_ok-take_place.ensures.table now edit l.invariant.known l.invariant.counted (sym c.as_slice.ensures.value) in
    elim c.if-branch-count.branch [
      | then-branch-count w ↦ subst (λ (count : ℕ). AreCounted ms es (l.edit-index + 1) c.take_place.new.table count) (sym w.count-is)
          (counted_more ms es l.edit-index edit c.loop-edit-test.true c.edit-item.is l.table c.take_place.new.table l.count c.in_ok-take_place.field-0 l.invariant at w.if-branch-count.true are)
      | else-branch-count w ↦ subst (λ (count : ℕ). AreCounted ms es (l.edit-index + 1) c.take_place.new.table count) (sym w.count-is)
          (counted_again ms es l.edit-index edit c.loop-edit-test.true c.edit-item.is l.table c.take_place.new.table l.count c.in_ok-take_place.field-0 l.invariant at w.if-branch-count.false are)
    ]
