-- The bit of a state, by its place.
use Rattle.std.proofs.Common.{◌<◌, List, length, sym, ◌∙◌, ap, arith}
use Rattle.std.specs.Prelude.{◌==◌}
use Rattle.rtl_bits.specs.declared.bit.Bit.{Bit}
use Rattle.rtl_bits.specs.Numbers.{number_of}
use Rattle.fsm_code.proofs.Digits.{bit_other, bit_end}
use Rattle.fsm_code.proofs.numbers.state_bit.Goals as goal

-- src/numbers.rt:80:1
pub loop-at-preserved : goal.loop-at-preserved
loop-at-preserved c =
    let in_states : c.loop-at.at < length c.args.states.now = grind (arith, c.loop-at-test.true, c.loop-at.auto.at-end, c.min-at-end.ensures) in
    let in_code : c.loop-at.at < length c.args.code.now = grind (arith, c.loop-at-test.true, c.loop-at.auto.at-end, c.min-at-end.ensures) in
    bit_other c.args.states.now c.args.code.now c.loop-at.at (number_of c.args.bits.now) c.index-states-at.result in_states in_code c.index-states-at.is (ap (λ (s : List Bit). number_of s == number_of c.args.bits.now) (sym c.as_slice.ensures.value) ∙ sym c.same_number.ensures.value ∙ c.if-same_number.false) ∙ c.loop-at.invariant

-- src/numbers.rt:80:1
pub returns : goal.returns
returns c = record { value = sym (bit_end c.args.states.now c.args.code.now c.loop-at.at (number_of c.args.bits.now) (grind (arith, c.loop-at-test.false, c.loop-at.auto.at-end, c.min-at-end.ensures))) ∙ c.loop-at.invariant }
