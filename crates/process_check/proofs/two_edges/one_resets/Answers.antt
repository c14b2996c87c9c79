use Rattle.std.proofs.Common.{◌∙◌, sym}
use Rattle.std.proofs.lemmas.Result.{IfOk-weaker}
use Rattle.rtl_ir.specs.Follow.{all_joins}
use Rattle.process_trees.specs.Edge.{edge_as}
use Rattle.process_check.proofs.Settled.{both_same, first_resets, none_resets, other_false, other_true, second_resets}
use Rattle.process_check.proofs.two_edges.one_resets.Goals as goal

pub returns-then-tested-other_tested : goal.returns-then-tested-other_tested
returns-then-tested-other_tested c = record {
  value = λ ports are fit.
      none_resets ports c.args.tree.now.«module».now c.args.tree.now.root.now c.args.tree.now.bits.now (all_joins c.args.lines.now) (edge_as c.args.one) (edge_as c.args.other) c.in_ok-tested.tested
      (c.in_ok-tested.ensures.value ports are fit) (both_same c.in_ok-tested.tested c.in_ok-other_tested.other_tested c.if-tested-other_tested.true ∙ c.in_ok-other_tested.ensures.value ports are fit);
}

pub returns-then-tested : goal.returns-then-tested
returns-then-tested c = record {
  value = IfOk-weaker c.resets_well.result _ _
      (λ well e ports are fit.
      first_resets ports c.args.tree.now.«module».now c.args.tree.now.root.now c.args.tree.now.bits.now (all_joins c.args.lines.now) (edge_as c.args.one) (edge_as c.args.other) well
      (sym c.if-tested.true ∙ c.in_ok-tested.ensures.value ports are fit) (other_false c.in_ok-tested.tested c.in_ok-other_tested.other_tested c.if-tested-other_tested.false c.if-tested.true ∙ c.in_ok-other_tested.ensures.value ports are fit)
      (e ports are fit))
      c.resets_well.ensures.value;
}

pub returns-else-tested : goal.returns-else-tested
returns-else-tested c = record {
  value = IfOk-weaker c.resets_well-else-tested.result _ _
      (λ well e ports are fit.
      second_resets ports c.args.tree.now.«module».now c.args.tree.now.root.now c.args.tree.now.bits.now (all_joins c.args.lines.now) (edge_as c.args.one) (edge_as c.args.other) well
      (sym c.if-tested.false ∙ c.in_ok-tested.ensures.value ports are fit) (other_true c.in_ok-tested.tested c.in_ok-other_tested.other_tested c.if-tested-other_tested.false c.if-tested.false ∙ c.in_ok-other_tested.ensures.value ports are fit)
      (e ports are fit))
      c.resets_well-else-tested.ensures.value;
}
