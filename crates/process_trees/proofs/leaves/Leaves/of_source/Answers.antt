use Rattle.std.proofs.Common.{◌∙◌, ap}
use Rattle.process_trees.specs.Rounds.{leaf_summary}
use Rattle.process_trees.proofs.Settling.{source_is}
use Rattle.process_trees.proofs.leaves.Leaves.of_source.Goals as goal

pub returns : goal.returns
returns c = record {
  value = λ root bits are.
      c.leaf.ensures.value bits are.numbers
      ∙ ap (λ values. leaf_summary c.args.self.now.asked bits values c.args.source) c.as_slice.ensures.value
      ∙ source_is c.args.self.now.asked bits root c.args.self.now.summaries.items are.summaries c.args.source;
}
