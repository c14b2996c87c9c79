-- The parts so far are marked.
use Rattle.std.proofs.Common.{take}
use Rattle.sim_eval.specs.Agenda.{Marks}
use Rattle.sim_eval.proofs.agenda.Agenda.mark_all.Given as goal

abbrev pub invariant-loop-place : goal.invariant-loop-place
invariant-loop-place l = Marks l.fn.self l.self (take l.place-index l.places)
