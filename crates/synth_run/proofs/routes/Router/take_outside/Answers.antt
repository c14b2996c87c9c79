use Rattle.std.proofs.Common.{refl}
use Rattle.synth_run.proofs.Putting.{aim_stray, aim_to}
use Rattle.synth_run.proofs.routes.Router.take_outside.Goals as goal

pub returns-in_ok-push-in-To-clause-ok : goal.returns-in_ok-push-in-To-clause-ok
returns-in_ok-push-in-To-clause-ok c =
    aim_to c.args.self.now c.args.line.now c.count.result c.in_ok-aim_of.field-0 c.requires.outside c.count.ensures.value c.in_ok-aim_of.ensures.value _ c.in-To.desk c.in-To.is refl
    refl c.in_ok-push-in-To.ensures.items refl

pub returns-in_ok-push-in-Stray-clause-ok : goal.returns-in_ok-push-in-Stray-clause-ok
returns-in_ok-push-in-Stray-clause-ok c =
    aim_stray c.args.self.now c.args.line.now c.count.result c.in_ok-aim_of.field-0 c.requires.outside c.count.ensures.value c.in_ok-aim_of.ensures.value _ c.in-Stray.is refl
    refl c.in_ok-push-in-Stray.ensures.items refl
