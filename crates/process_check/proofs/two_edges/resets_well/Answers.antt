use Rattle.std.proofs.Common.{◌∙◌}
use Rattle.std.proofs.lemmas.Result.{IfOk-weaker}
use Rattle.rtl_ir.specs.Follow.{all_joins}
use Rattle.process_trees.specs.Edge.{edge_as}
use Rattle.process_check.proofs.Settled.{resets_is}
use Rattle.process_check.proofs.two_edges.resets_well.Goals as goal

pub returns : goal.returns
returns c = record {
  value = IfOk-weaker c.are_settled.result _ _
      (λ well e ports are fit.
      e ∙ resets_is ports c.args.tree.now.«module».now c.args.tree.now.root.now _ c.args.tree.now.bits.now (all_joins c.args.lines.now) (edge_as c.args.reset) (c.in_ok-active.ensures.value ports are fit))
      c.are_settled.ensures.value;
}
