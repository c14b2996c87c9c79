use Rattle.std.proofs.Common.{◌∙◌, ap}
use Rattle.proc_tree.specs.Leaves.{constant_or_x}
use Rattle.proc_tree.proofs.LeafWays.{follows_way}
use Rattle.proc_tree.proofs.leaves.Leaves.constant.Goals as goal

pub returns : goal.returns
returns c = record {
  value = λ root are.
      c.constant_or_x.ensures.value
      ∙ ap constant_or_x (c.follow.ensures.value are.0 are.1 are.2.0)
      ∙ follows_way root are.1.links are.2.1 c.args.source;
}
