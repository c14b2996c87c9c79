use Rattle.std.proofs.Common.{◌∙◌, Bor, None, Some, ap, sym}
use Rattle.std.specs.Prelude.{option_map}
use Rattle.rtl_ir.specs.declared.process.Event.{Event}
use Rattle.flat_net.specs.Accesses.{event_of}
use Rattle.flat_net.proofs.Lining.{event_next}
use Rattle.flat_net.proofs.line_ports.first_event.Goals as goal

pub returns-in-Some : goal.returns-in-Some
returns-in-Some c =
    let here = c.in-Some.ensures.value ∙ ap (event_of c.args.name.now) c.as_slice.ensures.value in
    record { value = sym (event_next c.args.name.now c.args.processes.now c.loop-process.process-index c.process-item.result (Some c.in-Some.event.now) _ c.loop-process-test.true c.process-item.is here c.loop-process.invariant) }

pub loop-process-preserved : goal.loop-process-preserved
loop-process-preserved c =
    let here = ap (option_map (λ (e : Bor Event). e.now)) (sym c.in_default.is) ∙ c.first_rule.ensures.value ∙ ap (event_of c.args.name.now) c.as_slice.ensures.value in
    event_next c.args.name.now c.args.processes.now c.loop-process.process-index c.process-item.result None _ c.loop-process-test.true c.process-item.is here c.loop-process.invariant
