use Rattle.std.proofs.Common.{[], ◌∷◌, ◌∙◌, sym, subst}
use Rattle.std.specs.Prelude.{reverse}
use Rattle.flat_net.specs.Adds.{Adds}
use Rattle.flat_net.proofs.Results.{if_ok}
use Rattle.flat_net.proofs.Sourcing.{never_holds}
use Rattle.flat_net.proofs.builder.Builder.add_always_bit.Goals as goal

pub returns-then-holds-clause-rows : goal.returns-then-holds-clause-rows
returns-then-holds-clause-rows c = λ p path start is holds. c.add_held.ensures.rows p path start is (sym holds ∙ c.if-holds.true)

pub returns-else-holds-clause-rows : goal.returns-else-holds-clause-rows
returns-else-holds-clause-rows c = λ p path start is holds.
    let none = sym holds ∙ c.if-holds.false in
    let row = never_holds start p c.args.scope.now.wires.now c.args.rooted.now.root (reverse c.args.rooted.now.bits) c.args.line none in
    if_ok c.add_value.result (c.add_value.ensures.rows p path) (λ _ added. subst (λ r. Adds c.args.self.now c.add_value.new.self (r ∷ [])) row added)
