use Rattle.rtl_ir.specs.Parameters.{signal_at}
use Rattle.std.proofs.Common.{◌∙◌}
use Rattle.opt_expr.proofs.Steps.{formed_is}
use Rattle.opt_expr.proofs.formed.formed.Goals as goal

pub returns : goal.returns
returns c = record {
  value = formed_is c.args.new c.args.cell c.in_ok-name.field-0 c.in_ok-params_for.field-0 c.in_ok-pins_for.field-0 c.as_slice-2.result.now c.signal_at-y.result.now c.in_ok-name.ensures.value c.as_slice-2.ensures.value (c.signal_at-y.ensures.value ∙ (λ i. signal_at (c.as_slice.ensures.value i) (c.text.ensures.value i))) c.in_ok-params_for.ensures.value c.in_ok-pins_for.ensures.value;
}
