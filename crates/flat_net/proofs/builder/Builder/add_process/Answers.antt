use Rattle.std.proofs.Common.{subst}
use Rattle.rtl_ir.specs.Flat.Process.{rules_rows, tree_bit_rows}
use Rattle.rtl_ir.specs.Rules.{acting_rules}
use Rattle.flat_net.specs.Adds.{Adds}
use Rattle.flat_net.proofs.Adding.{Adds-then}
use Rattle.flat_net.proofs.Kept.{within-Keeps}
use Rattle.flat_net.proofs.Reading.{Extends-then}
use Rattle.flat_net.proofs.Results.{if_ok}
use Rattle.flat_net.proofs.builder.Builder.add_process.Goals as goal

pub add_rules-requires : goal.add_rules-requires
add_rules-requires c = record { in_range = within-Keeps _ _ _ c.in_ok-add_decisions.ensures.grows.paths c.requires.in_range }

pub returns-clause-grows : goal.returns-clause-grows
returns-clause-grows c = if_ok c.add_rules.result c.add_rules.ensures.grows (λ _ f. Extends-then _ _ _ c.in_ok-add_decisions.ensures.grows f)

pub returns-clause-rows : goal.returns-clause-rows
returns-clause-rows c = λ p path start is knows.
    let m = c.args.tests.body.now in
    let e = c.in_ok-add_decisions.ensures.grows in
    let wires = c.args.scope.now.wires.now in
    let root = c.in_ok-rooted.ensures.root in
    let bits = c.in_ok-rooted.ensures.bits in
    let rules = c.as_slice.ensures.value in
    let first = subst (Adds c.args.self.now c.add_decisions.new.self) (λ i. tree_bit_rows start p wires (root i) (bits i)) (c.in_ok-add_decisions.ensures.rows p path start) in
    if_ok c.add_rules.result (c.add_rules.ensures.rows p (e.paths _ _ path) start is knows)
    (λ _ added. Adds-then _ _ _ _ _ first (subst (Adds c.add_decisions.new.self c.add_rules.new.self) (λ i. rules_rows start p wires m (root i) (bits i) (acting_rules (rules i))) added))
