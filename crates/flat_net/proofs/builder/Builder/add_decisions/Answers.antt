use Rattle.flat_net.proofs.Adding.{Adds-part}
use Rattle.flat_net.proofs.Rooting.{tree_part}
use Rattle.flat_net.proofs.builder.Builder.add_decisions.Goals as goal

pub returns-clause-rows : goal.returns-clause-rows
returns-clause-rows c = λ p path start.
    let part = tree_part _ c.in_ok-new.field-0 _ _ c.in_ok-new.ensures.ok (c.in_ok-tree.ensures.value p path start) in
    Adds-part _ _ _ _ c.in_ok-tree.ensures.grows c.in_ok-push.ensures.items part.0 part.1
