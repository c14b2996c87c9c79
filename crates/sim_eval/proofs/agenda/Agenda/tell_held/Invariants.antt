-- The readers of the bits so far are told.
use Rattle.std.proofs.Common.{map, take}
use Rattle.flat_net.specs.declared.leaves.HeldBit.{HeldBit}
use Rattle.sim_eval.specs.Agenda.{Tells}
use Rattle.sim_eval.proofs.agenda.Agenda.tell_held.Given as goal

abbrev pub invariant-loop-bit : goal.invariant-loop-bit
invariant-loop-bit l = Tells l.fn.self l.self l.readers l.now (map (λ (b : HeldBit). b.number) (take l.bit-index l.bits))
