use Rattle.std.proofs.Common.{◌∙◌, sym, subst, ap}
use Rattle.std.specs.Prelude.{option_map, reverse, true, false}
use Rattle.rtl_ir.specs.Flat.Process.{no_modules}
use Rattle.process_trees.specs.Edge.{edge_as}
use Rattle.flat_net.specs.Adds.{Adds}
use Rattle.flat_net.proofs.Pairing.{race_rows}
use Rattle.flat_net.proofs.Results.{if_ok}
use Rattle.flat_net.proofs.builder.Builder.add_edges.Goals as goal

pub returns-then-branch-clause-rows : goal.returns-then-branch-clause-rows
returns-then-branch-clause-rows c = λ p path start is knows.
    let tested = sym (c.in_ok-is_tested.ensures.value no_modules knows.tests knows.fit) ∙ c.if-branch.true in
    let a = ap (option_map edge_as) (sym c.in-Some-Some.is-0) ∙ c.edge_bit.ensures.value in
    let b = ap (option_map edge_as) (sym c.in-Some-Some.is-1) ∙ c.edge_bit-2.ensures.value in
    let rows =
    race_rows start p c.args.scope.now.wires.now c.args.tree.tests.body.now c.args.tree.rooted.now.root (reverse c.args.tree.rooted.now.bits) c.args.lines.now _ _ (edge_as c.in-Some-Some.a) (edge_as c.in-Some-Some.b) a b true tested in
    if_ok c.add_race.result (c.add_race.ensures.rows p path start is knows) (λ _ added. subst (Adds c.args.self.now c.add_race.new.self) rows added)

pub returns-else-branch-clause-rows : goal.returns-else-branch-clause-rows
returns-else-branch-clause-rows c = λ p path start is knows.
    let tested = sym (c.in_ok-is_tested.ensures.value no_modules knows.tests knows.fit) ∙ c.if-branch.false in
    let a = ap (option_map edge_as) (sym c.in-Some-Some.is-0) ∙ c.edge_bit.ensures.value in
    let b = ap (option_map edge_as) (sym c.in-Some-Some.is-1) ∙ c.edge_bit-2.ensures.value in
    let rows =
    race_rows start p c.args.scope.now.wires.now c.args.tree.tests.body.now c.args.tree.rooted.now.root (reverse c.args.tree.rooted.now.bits) c.args.lines.now _ _ (edge_as c.in-Some-Some.a) (edge_as c.in-Some-Some.b) a b false tested in
    if_ok c.add_race-else-branch.result (c.add_race-else-branch.ensures.rows p path start is knows) (λ _ added. subst (Adds c.args.self.now c.add_race-else-branch.new.self) rows added)
