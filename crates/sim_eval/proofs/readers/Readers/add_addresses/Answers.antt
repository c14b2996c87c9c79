use Rattle.std.proofs.Common.{ap, subst, ◌∙◌}
use Rattle.flat_net.specs.declared.memory.ReadPort.{ReadPort}
use Rattle.sim_eval.specs.Reads.{AddsReads}
use Rattle.sim_eval.proofs.AddingReads.{adds_next}
use Rattle.sim_eval.proofs.readers.Readers.add_addresses.Goals as goal

pub loop-port-preserved : goal.loop-port-preserved
loop-port-preserved c =
    adds_next c.args.ports.now c.loop-port.port-index c.port-item.result c.args.self.now c.loop-port.self c.add_points.new.self c.args.place c.loop-port-test.true (λ (r : ReadPort). r.address) c.loop-port.invariant
    (subst (λ z. AddsReads c.loop-port.self c.add_points.new.self c.args.place z) (c.as_slice.ensures.value ∙ ap (λ (r : ReadPort). r.address) c.port-item.is) c.in_ok-add_points.ensures.adds)
