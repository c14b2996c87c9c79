-- The readers of the bits so far are told.
use Rattle.std.proofs.Common.{take}
use Rattle.sim_eval.specs.Drives.{output_numbers}
use Rattle.sim_eval.specs.Agenda.{Tells}
use Rattle.sim_eval.proofs.agenda.Agenda.tell_outputs.Given as goal

abbrev pub invariant-loop-output : goal.invariant-loop-output
invariant-loop-output l = Tells l.fn.self l.self l.readers l.now (output_numbers (take l.output-index l.outputs))
