use Rattle.std.proofs.Common.{◌≡◌, ℕ, List, [], ◌∷◌, ◌++◌, sym, ap, ◌∙◌, append_assoc}
use Rattle.rtl_ir.specs.declared.wire.Role.TheVariants.{Output}
use Rattle.rtl_ir.specs.declared.wire.Wire.{Wire}
use Rattle.sim_eval.specs.After.{outputs_after}
use Rattle.sim_text.specs.Lines.{step_line}
use Rattle.sim_text.specs.Ports.{port_widths}
use Rattle.sim_trace.proofs.Tracing.{step_fits}
use Rattle.sim_trace.proofs.trace.put_step.Goals as goal

pub write_step-requires : goal.write_step-requires
write_step-requires c = record { length = step_fits c.args.module.now c.args.sim.now c.args.inputs.now c.in_ok-outputs.outputs c.requires.sim c.in_ok-outputs.ensures.outputs }

pub returns-clause-line : goal.returns-clause-line
returns-clause-line c = λ order d m stimulus same is.
    let old = c.args.text.now in
    let widths : port_widths Output c.args.module.now ≡ port_widths Output m = ap (λ (wires : List Wire). port_widths Output (record m { wires = wires })) (sym same) in
    let line : c.as_slice.result.now ≡ step_line (port_widths Output m) (outputs_after order d m (stimulus ++ c.args.inputs.now ∷ [])) =
    c.as_slice.ensures.value ∙ c.in_ok-line.ensures.value ∙ ap (step_line (port_widths Output c.args.module.now)) (c.in_ok-outputs.ensures.outputs order d m stimulus is)
    ∙ ap (λ (w : List ℕ). step_line w (outputs_after order d m (stimulus ++ c.args.inputs.now ∷ []))) widths in
    c.in_ok-push.ensures.ok ∙ ap (λ (t : List ℕ). t ++ 10 ∷ []) c.in_ok-extend.ensures.ok ∙ append_assoc old c.as_slice.result.now (10 ∷ [])
    ∙ ap (λ (l : List ℕ). old ++ (l ++ 10 ∷ [])) line
