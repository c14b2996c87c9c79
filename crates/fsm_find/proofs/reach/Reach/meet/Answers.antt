use Rattle.std.proofs.Common.{refl, arith}
use Rattle.fsm_find.proofs.Visiting.{meet_new}
use Rattle.fsm_find.proofs.reach.Reach.meet.Goals as goal

pub returns : goal.returns
returns c = record { ok = λ m state root r under. meet_new m state root c.args.self.now _ r c.args.at (let a = c.if-at-len.false in let l = c.len.ensures in omega (arith, a, l)) under c.in_ok-push.ensures.items refl refl refl }
