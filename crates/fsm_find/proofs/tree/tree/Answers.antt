use Rattle.std.proofs.Common.{ℕ, List, ◌∙◌, ap, map, length, subst}
use Rattle.rtl_ir.specs.declared.cell.Cell.{Cell}
use Rattle.net_model.specs.Lists.{In}
use Rattle.fsm_find.specs.declared.reach.Node.{Node}
use Rattle.fsm_find.specs.Order.{IsShallow}
use Rattle.rtl_ir.specs.Follow.{follow}
use Rattle.fsm_find.proofs.TreeFound.{flop_cyclic, flop_found, flop_none, none_case, some_case}
use Rattle.fsm_find.proofs.Visiting.{at_false, at_true}
use Rattle.fsm_find.proofs.tree.tree.Goals as goal

pub returns-in-None : goal.returns-in-None
returns-in-None c = record {
  value = λ ports view.
      let m = c.args.module.now in
      let root = c.as_slice.ensures.value ∙ c.in_ok-root.ensures.value ports m view.index ∙ ap (map (follow m.links)) c.at_pin.ensures.value in
      flop_none m c.args.view.now.state c.args.flop.now c.as_slice.result.now root (none_case _ _ _ c.in-None.is (c.in_ok-reached.ensures.found ports view));
}

pub returns-then-branch : goal.returns-then-branch
returns-then-branch c = record {
  value = λ ports view.
      let m = c.args.module.now in
      let root = c.as_slice.ensures.value ∙ c.in_ok-root.ensures.value ports m view.index ∙ ap (map (follow m.links)) c.at_pin.ensures.value in
      let whole = some_case _ _ _ _ c.in-Some.is (c.in_ok-reached.ensures.found ports view) in
      flop_found m c.args.view.now.state c.args.flop.now c.as_slice.result.now root c.in-Some.reach whole
      (subst (λ (cells : List Cell). (node : Node) → In node c.in-Some.reach.nodes.items → IsShallow c.in-Some.reach.nodes.items (length cells) node.fork) c.as_slice-in-Some-2.ensures.value
      (subst (λ (nodes : List Node). (node : Node) → In node nodes → IsShallow nodes (length c.as_slice-in-Some-2.result.now) node.fork) c.as_slice-in-Some.ensures.value
      (at_true _ _ _ c.if-branch.true c.in_ok-is_acyclic-in-Some.ensures.value)));
}

pub returns : goal.returns
returns c = record {
  value = λ ports view.
      let m = c.args.module.now in
      let root = c.as_slice.ensures.value ∙ c.in_ok-root.ensures.value ports m view.index ∙ ap (map (follow m.links)) c.at_pin.ensures.value in
      let whole = some_case _ _ _ _ c.in-Some.is (c.in_ok-reached.ensures.found ports view) in
      flop_cyclic m c.args.view.now.state c.args.flop.now c.as_slice.result.now root c.in-Some.reach whole
      (subst (λ (nodes : List Node). (node : Node) × In node nodes × ((n : ℕ) → IsShallow nodes n node.fork → ⊥)) c.as_slice-in-Some.ensures.value
      (at_false _ _ _ c.if-branch.false c.in_ok-is_acyclic-in-Some.ensures.value));
}
