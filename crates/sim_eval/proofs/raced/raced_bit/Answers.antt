use Rattle.std.proofs.Common.{◌∙◌, ap, Some}
use Rattle.sim_eval.specs.declared.walk.Leaves.TheVariants.{Values}
use Rattle.sim_eval.specs.Walk.{followed, leaf_of}
use Rattle.sim_eval.proofs.Racing.{raced_same}
use Rattle.sim_eval.proofs.raced.raced_bit.Goals as goal

pub returns : goal.returns
returns c = record {
  value = λ ps first raced was apart same race within.
      let before = c.args.before.now in
      let source = c.args.bit.now.source in
      raced_same ps before was first raced c.args.race.now c.args.bit.now _ _ _ _ _ apart same race within
      (c.source_bit-was.ensures.value ∙ ap (λ z. followed (leaf_of Values before) (Some z) source) c.as_slice.ensures.value)
      (c.source_bit-is.ensures.value ∙ ap (λ z. followed (leaf_of Values before) (Some z) source) c.as_slice-2.ensures.value)
      (c.source_bit-active.ensures.value ∙ ap (λ z. followed (leaf_of Values before) (Some z) source) c.as_slice-3.ensures.value)
      c.bit_at-old.ensures.value c.raced_of.ensures.value;
}
