use Rattle.std.proofs.Common.{refl}
use Rattle.opt_more.proofs.Seeing.{with_constant}
use Rattle.opt_more.proofs.gather.Gathered.put_constant.Goals as goal

pub returns-clause-seen : goal.returns-clause-seen
returns-clause-seen c =
    with_constant c.args.self.now _ c.requires.seen c.args.value c.in_ok-push-2.ensures.ok c.in_ok-push.ensures.items refl
