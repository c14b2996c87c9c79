-- The readers of the bits so far are told.
use Rattle.std.proofs.Common.{take}
use Rattle.std.specs.Prelude.{flat_map}
use Rattle.flat_net.specs.declared.memory.ReadPort.{ReadPort}
use Rattle.sim_eval.specs.Drives.{output_numbers}
use Rattle.sim_eval.specs.Agenda.{Tells}
use Rattle.sim_eval.proofs.agenda.Agenda.tell_ports.Given as goal

abbrev pub invariant-loop-port : goal.invariant-loop-port
invariant-loop-port l = Tells l.fn.self l.self l.readers l.now (flat_map (λ (r : ReadPort). output_numbers r.outputs) (take l.port-index l.ports))
