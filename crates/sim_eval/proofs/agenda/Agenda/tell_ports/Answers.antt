use Rattle.std.proofs.Common.{◌∙◌, ap, subst}
use Rattle.flat_net.specs.declared.memory.ReadPort.{ReadPort}
use Rattle.sim_eval.specs.Agenda.{Tells}
use Rattle.sim_eval.specs.Drives.{output_numbers}
use Rattle.sim_eval.proofs.Marking.{tells_next_all}
use Rattle.sim_eval.proofs.agenda.Agenda.tell_ports.Goals as goal

pub loop-port-preserved : goal.loop-port-preserved
loop-port-preserved c =
    tells_next_all c.args.readers.now c.args.now.now c.args.ports.now c.loop-port.port-index c.port-item.result c.args.self.now c.loop-port.self c.tell_outputs.new.self c.loop-port-test.true (λ (r : ReadPort). output_numbers r.outputs) c.loop-port.invariant
    (subst (λ z. Tells c.loop-port.self c.tell_outputs.new.self c.args.readers.now c.args.now.now z) (ap output_numbers (c.as_slice.ensures.value ∙ ap (λ (r : ReadPort). r.outputs) c.port-item.is)) c.in_ok-tell_outputs.ensures.tells)
