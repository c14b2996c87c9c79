use Rattle.std.proofs.Common.{◌∙◌, Some, ap}
use Rattle.sim_eval.specs.Walk.{followed, leaf_of}
use Rattle.sim_eval.proofs.Expanding.{source_same}
use Rattle.sim_eval.proofs.expand.source_value.Goals as goal

pub returns : goal.returns
returns c = record {
  value = λ ps apart same marked within source.
      let values = c.args.values.now in
      c.source_bit.ensures.value
      ∙ (ap (λ z. followed (leaf_of c.args.leaves values) (Some z) c.args.source) c.as_slice.ensures.value
      ∙ source_same ps values apart same c.args.reset c.args.leaves marked c.args.tree.now.root c.args.tree.now.width c.in_ok-bits.bits.items (c.in_ok-bits.ensures.value ps apart same marked within) c.args.source source);
}
