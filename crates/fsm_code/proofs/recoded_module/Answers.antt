-- The state wire is there, or it is not.
use Rattle.std.proofs.Common.{rules, ◌∙◌, List, sym, ap}
use Rattle.std.specs.Prelude.{option_map, slice_get}
use Rattle.rtl_ir.specs.declared.wire.Wire.{Wire}
use Rattle.fsm_code.proofs.Recoding.{over_before, recoded_there}
use Rattle.fsm_code.proofs.recoded_module.Goals as goal

pub returns-in_err-check_limits-clause-over : goal.returns-in_err-check_limits-clause-over
returns-in_err-check_limits-clause-over c e =
    over_before c.args.module c.args.machine.now (search (rules, c.check_limits.ensures.over, e, c.from_residual.ensures))

pub returns-in_ok-after-in-Some-clause-exact : goal.returns-in_ok-after-in-Some-clause-exact
returns-in_ok-after-in-Some-clause-exact c =
    recoded_there c.args.module c.args.machine.now c.in-Some.width c.in_ok-state-in-Some.state c.in_ok-after-in-Some.after
    (sym c.in-Some.is ∙ c.width_at.ensures.value ∙ ap (λ (wires : List Wire). option_map (λ (w : Wire). w.width) (slice_get wires c.args.machine.now.wire)) c.as_slice.ensures.value)
    c.in_ok-state-in-Some.ensures.value c.in_ok-after-in-Some.ensures.exact
