use Rattle.flat_net.proofs.Adding.{Adds-part}
use Rattle.flat_net.proofs.Fetching.{fetched_part}
use Rattle.flat_net.proofs.builder.Builder.add_reads.Goals as goal

pub returns-clause-rows : goal.returns-clause-rows
returns-clause-rows c = λ p path.
    let part = fetched_part _ c.in_ok-new.field-0 _ _ c.in_ok-new.ensures.ok (c.in_ok-fetched.ensures.value p path) in
    Adds-part _ _ _ _ c.in_ok-fetched.ensures.grows c.in_ok-push.ensures.items part.0 part.1
