use Rattle.std.proofs.Common.{refl}
use Rattle.opt_more.proofs.Seeing.{with_wire}
use Rattle.opt_more.proofs.gather.Gathered.put_wire.Goals as goal

pub returns-clause-seen : goal.returns-clause-seen
returns-clause-seen c =
    with_wire c.args.self.now _ c.requires.seen c.args.bit c.in_ok-push.ensures.ok refl c.in_ok-insert.ensures.updates.0
