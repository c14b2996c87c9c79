use Rattle.std.proofs.Common.{◌∙◌, ◌++◌, ◌+◌, ap, arith, drop, false, get_or, refl, sym}
use Rattle.desk_core.specs.Needed.{too_old}
use Rattle.desk_core.proofs.Aging.{IsMarked, too_old_more, too_old_skip}
use Rattle.desk_core.proofs.needed.too_old.Goals as goal
use Rattle.desk_core.proofs.needed.too_old.Goals.{then-is_too_old+in_ok-shared+in_ok-push, else-is_too_old}

pub loop-index-preserved : goal.loop-index-preserved
loop-index-preserved c =
    let marks = c.args.marks.now in
    let keys = c.args.ages.now.keys in
    let ages = c.args.ages.now.ages.items in
    let at = c.loop-index.index in
    let read = c.index.result.now in
    let here : IsMarked marks keys ages at (get_or marks at false) read = record {
      in_marks = omega (arith, c.loop-index-test.true);
      in_keys = omega (arith, c.loop-index-test.true, c.requires.marks);
      in_ages = omega (arith, c.loop-index-test.true, c.requires.marks, c.requires.beside);
      mark_is = refl;
      age_is = c.index.ensures;
    } in
    elim c.if-is_too_old.branch [
      | then-is_too_old+in_ok-shared+in_ok-push w ↦
          ap (λ xs. xs ++ too_old (drop (at + 1) marks) (drop (at + 1) keys) (drop (at + 1) ages)) (ap (λ v. v.items) w.keys-is ∙ w.in_ok-push.ensures.items)
          ∙ too_old_more marks keys ages at (get_or marks at false) read here c.loop-index.keys.items w.in_ok-shared.field-0 w.in_ok-shared.ensures.value (sym c.is_too_old.ensures.value ∙ w.if-is_too_old.true) c.loop-index.invariant
      | else-is_too_old w ↦
          ap (λ xs. xs ++ too_old (drop (at + 1) marks) (drop (at + 1) keys) (drop (at + 1) ages)) (ap (λ v. v.items) w.keys-is)
          ∙ too_old_skip marks keys ages at (get_or marks at false) read here c.loop-index.keys.items (sym c.is_too_old.ensures.value ∙ w.if-is_too_old.false) c.loop-index.invariant
    ]
