-- The constant stands beside the state.
use Rattle.std.proofs.Common.{◌∙◌, ap, map, arith}
use Rattle.rtl_ir.specs.Signals.{constant_of}
use Rattle.rtl_ir.specs.Follow.{follow}
use Rattle.fsm_code.specs.Outputs.{coding_of}
use Rattle.fsm_code.proofs.Placing.{compared_left, compared_right}
use Rattle.fsm_code.proofs.compare.compared.Goals as goal

pub returns-then-same_signal : goal.returns-then-same_signal
returns-then-same_signal c = record {
  value = λ ports m is.
      compared_right m (coding_of c.args.coding.now) c.args.cell.now c.in_ok-a.a c.in_ok-b.b c.in_ok-bits.bits
      (c.in_ok-a.ensures.value ports m is ∙ ap (map (follow m.links)) c.at_pin.ensures.value)
      (grind (arith, c.same_signal.ensures.value, c.if-same_signal.true, c.as_slice.ensures.value, c.as_slice-2.ensures.value))
      (c.in_ok-b.ensures.value ports m is ∙ ap (map (follow m.links)) c.at_pin-then-same_signal.ensures.value)
      (c.in_ok-bits.ensures.value ∙ ap (map constant_of) c.as_slice-then-same_signal.ensures.value);
}

pub returns : goal.returns
returns c = record {
  value = λ ports m is.
      compared_left m (coding_of c.args.coding.now) c.args.cell.now c.in_ok-a.a c.in_ok-bits-2.bits
      (c.in_ok-a.ensures.value ports m is ∙ ap (map (follow m.links)) c.at_pin.ensures.value)
      (grind (arith, c.same_signal.ensures.value, c.if-same_signal.false, c.as_slice.ensures.value, c.as_slice-2.ensures.value))
      (c.in_ok-bits-2.ensures.value ∙ ap (map constant_of) c.as_slice-3.ensures.value);
}
