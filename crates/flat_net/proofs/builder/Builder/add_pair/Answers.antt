use Rattle.std.proofs.Common.{◌∙◌, ap, sym, subst}
use Rattle.std.specs.Prelude.{reverse}
use Rattle.rtl_ir.specs.Flat.Process.{loaded_rows, raced_rows}
use Rattle.rtl_ir.specs.Faults.TwoEdges.{edge_bit}
use Rattle.rtl_ir.specs.Follow.{all_joins}
use Rattle.flat_net.specs.declared.rules.Paired.TheVariants.{First, Second, Edges}
use Rattle.flat_net.specs.Adds.{Adds}
use Rattle.rtl_ir.specs.Triggers.{trigger_of}
use Rattle.flat_net.proofs.Pairing.{as_paired}
use Rattle.flat_net.proofs.Results.{if_ok}
use Rattle.flat_net.proofs.builder.Builder.add_pair.Goals as goal

pub returns-in-First-clause-rows : goal.returns-in-First-clause-rows
returns-in-First-clause-rows c = λ p path start is knows.
    let wires = c.args.scope.now.wires.now in
    let m = c.args.tree.tests.body.now in
    let root = c.args.tree.rooted.now.root in
    let bits = reverse c.args.tree.rooted.now.bits in
    let of_a = c.as_slice-of_a.ensures.value ∙ c.in_ok-of_a.ensures.value ∙ ap all_joins c.as_slice.ensures.value in
    let of_b = c.as_slice-of_b.ensures.value ∙ c.in_ok-of_b.ensures.value ∙ ap all_joins c.as_slice-2.ensures.value in
    let whole =
    as_paired start p wires m root bits c.args.a.now c.args.b.now (First c.in-First.edge c.in-First.level) _ _ _ _ (sym c.in-First.is ∙ c.pairing.ensures.value) c.edge_trigger-edge_a.ensures.value c.edge_trigger-edge_b.ensures.value c.level_trigger-level_a.ensures.value
    c.level_trigger-level_b.ensures.value in
    if_ok c.add_loaded.result (c.add_loaded.ensures.rows p path start is)
    (λ _ added. subst (Adds c.args.self.now c.add_loaded.new.self) ((λ i. loaded_rows start p wires (trigger_of c.in-First.edge) (of_a i) (trigger_of c.in-First.level) (of_b i)) ∙ whole) added)

pub returns-in-Second-clause-rows : goal.returns-in-Second-clause-rows
returns-in-Second-clause-rows c = λ p path start is knows.
    let wires = c.args.scope.now.wires.now in
    let m = c.args.tree.tests.body.now in
    let root = c.args.tree.rooted.now.root in
    let bits = reverse c.args.tree.rooted.now.bits in
    let of_a = c.as_slice-of_a.ensures.value ∙ c.in_ok-of_a.ensures.value ∙ ap all_joins c.as_slice.ensures.value in
    let of_b = c.as_slice-of_b.ensures.value ∙ c.in_ok-of_b.ensures.value ∙ ap all_joins c.as_slice-2.ensures.value in
    let whole =
    as_paired start p wires m root bits c.args.a.now c.args.b.now (Second c.in-Second.edge c.in-Second.level) _ _ _ _ (sym c.in-Second.is ∙ c.pairing.ensures.value) c.edge_trigger-edge_a.ensures.value c.edge_trigger-edge_b.ensures.value c.level_trigger-level_a.ensures.value
    c.level_trigger-level_b.ensures.value in
    if_ok c.add_loaded-in-Second.result (c.add_loaded-in-Second.ensures.rows p path start is)
    (λ _ added. subst (Adds c.args.self.now c.add_loaded-in-Second.new.self) ((λ i. loaded_rows start p wires (trigger_of c.in-Second.edge) (of_b i) (trigger_of c.in-Second.level) (of_a i)) ∙ whole) added)

pub returns-clause-rows : goal.returns-clause-rows
returns-clause-rows c = λ p path start is knows.
    let wires = c.args.scope.now.wires.now in
    let m = c.args.tree.tests.body.now in
    let root = c.args.tree.rooted.now.root in
    let bits = reverse c.args.tree.rooted.now.bits in
    let of_a = c.as_slice-of_a.ensures.value ∙ c.in_ok-of_a.ensures.value ∙ ap all_joins c.as_slice.ensures.value in
    let of_b = c.as_slice-of_b.ensures.value ∙ c.in_ok-of_b.ensures.value ∙ ap all_joins c.as_slice-2.ensures.value in
    let whole =
    as_paired start p wires m root bits c.args.a.now c.args.b.now Edges _ _ _ _ (sym c.in-Edges.is ∙ c.pairing.ensures.value) c.edge_trigger-edge_a.ensures.value c.edge_trigger-edge_b.ensures.value c.level_trigger-level_a.ensures.value
    c.level_trigger-level_b.ensures.value in
    if_ok c.add_edges.result (c.add_edges.ensures.rows p path start is knows)
    (λ _ added. subst (Adds c.args.self.now c.add_edges.new.self) ((λ i. raced_rows start p wires m root bits (of_a i) (edge_bit c.args.a.now.event) (edge_bit c.args.b.now.event)) ∙ whole) added)
