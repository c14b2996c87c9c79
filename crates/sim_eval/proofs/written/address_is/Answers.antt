use Rattle.std.proofs.Common.{◌∙◌, ◌+◌, ap, drop, sym}
use Rattle.std.specs.Prelude.{◌/◌}
use Rattle.rtl_bits.specs.Numbers.{low_bit_of}
use Rattle.rtl_bits.specs.Tables.{and_of, not_of, xor_of}
use Rattle.net_model.specs.Words.{address_is}
use Rattle.sim_eval.proofs.Writing.{address_begins, address_ends, address_goes}
use Rattle.sim_eval.specs.Numbers.{number_word}
use Rattle.sim_eval.proofs.written.address_is.Goals as goal

pub loop-point-init : goal.loop-point-init
loop-point-init c = address_begins (number_word c.args.values.now c.args.address.now) c.args.number

pub loop-point-preserved : goal.loop-point-preserved
loop-point-preserved c =
    let values = c.args.values.now in
    let points = c.args.address.now in
    let i = c.loop-point.point-index in
    let all = c.loop-point.all in
    let same = c.bit_not-same.ensures.value ∙ ap not_of (c.bit_xor.ensures.value ∙ (λ j. xor_of (c.read.ensures.value j) ((c.low_bit_of.ensures.value ∙ ap low_bit_of c.from.ensures) j))) in
    address_goes values points i _ all c.loop-point.rest _ c.loop-point-test.true c.loop-point.invariant
    ∙ ap (λ b. and_of b (address_is (number_word values (drop (i + 1) points)) (c.loop-point.rest / 2))) (sym (c.bit_and-all.ensures.value ∙ ap (and_of all) same))

pub returns : goal.returns
returns c = record {
  value =
      c.bit_and.ensures.value
      ∙ ap (and_of c.loop-point.all) c.zero_bit.ensures.value
      ∙ sym (address_ends c.args.values.now c.args.address.now c.loop-point.point-index c.loop-point.all c.loop-point.rest _ c.loop-point-test.false c.loop-point.invariant);
}
