use Rattle.std.proofs.Common.{refl, arith}
use Rattle.sim_eval.proofs.Marking.{marks_set}
use Rattle.sim_eval.proofs.agenda.Agenda.mark.Goals as goal

pub returns-in_ok-push : goal.returns-in_ok-push
returns-in_ok-push c = record { marks = marks_set c.args.self.now _ c.args.place (omega arith) refl c.in_ok-push.ensures.items refl }
