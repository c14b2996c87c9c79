use Rattle.std.proofs.Common.{◌+◌, sym, ◌∙◌, ap, drop}
use Rattle.std.proofs.Math.ListN.{drop_of_length-le}
use Rattle.rtl_ir.specs.EventTests.{is_open}
use Rattle.rtl_ir.specs.Follow.{all_joins}
use Rattle.process_trees.proofs.Opens.{first_passes, front, only, only_one, passes_not, second_passes}
use Rattle.process_trees.proofs.tables.EventTests.only_open.Goals as goal
use Rattle.process_trees.proofs.tables.EventTests.only_open.Goals.{then-is_open+else-is_some, else-is_open}

pub returns-then-is_some : goal.returns-then-is_some
returns-then-is_some c = record {
  value = λ links are.
      let f = is_open (all_joins links) in
      let next = front c.args.inputs.now c.loop-place.place-index _ c.loop-place-test.true in
      sym (second_passes f c.loop-place.found _ (drop (c.loop-place.place-index + 1) c.args.inputs.now) (sym (c.is_open.ensures.value links are) ∙ c.if-is_open.true) (sym c.is_some.ensures ∙ c.if-is_some.true))
      ∙ ap (only f c.loop-place.found) (sym next)
      ∙ c.loop-place.invariant links are
      ∙ only_one f c.args.inputs.now;
}

pub loop-place-preserved : goal.loop-place-preserved
loop-place-preserved c = λ links are.
    let f = is_open (all_joins links) in
    let next = front c.args.inputs.now c.loop-place.place-index _ c.loop-place-test.true in
    elim c.if-is_open.branch [
      | then-is_open+else-is_some w ↦
          ap (λ x. only f x (drop (c.loop-place.place-index + 1) c.args.inputs.now)) w.found-is
          ∙ sym (first_passes f c.loop-place.found _ (drop (c.loop-place.place-index + 1) c.args.inputs.now) (sym (c.is_open.ensures.value links are) ∙ w.if-is_open.true) (sym w.is_some.ensures ∙ w.if-is_some.false))
          ∙ ap (only f c.loop-place.found) (sym next)
          ∙ c.loop-place.invariant links are
      | else-is_open w ↦
          ap (λ x. only f x (drop (c.loop-place.place-index + 1) c.args.inputs.now)) w.found-is
          ∙ sym (passes_not f c.loop-place.found _ (drop (c.loop-place.place-index + 1) c.args.inputs.now) (sym (c.is_open.ensures.value links are) ∙ w.if-is_open.false))
          ∙ ap (only f c.loop-place.found) (sym next)
          ∙ c.loop-place.invariant links are
    ]

pub returns : goal.returns
returns c = record {
  value = λ links are.
      let f = is_open (all_joins links) in
      ap (only f c.loop-place.found) (sym (drop_of_length-le c.args.inputs.now c.loop-place-test.false))
      ∙ c.loop-place.invariant links are
      ∙ only_one f c.args.inputs.now;
}
