use Rattle.std.proofs.Common.{◌∙◌, sym}
use Rattle.rtl_check.proofs.Scanning.{bit_found, bit_passed, tells_bit}
use Rattle.rtl_check.proofs.bits.check_wire.Goals as goal

pub returns-then-has_two : goal.returns-then-has_two
returns-then-has_two c = record {
  first = λ drives tells.
      let two = tells_bit c.args.tally.now drives tells c.args.place c.loop-at.at c.args.wire.now.width c.requires.width c.loop-at-test.true c.has_two.result c.has_two.ensures.value in
      bit_found c.args.id.now drives c.args.place c.args.wire.now c.loop-at.at c.loop-at-test.true (sym c.if-has_two.true ∙ two) c.in_ok-doubly_driven.field-0 c.in_ok-doubly_driven.ensures.value _ (c.loop-at.invariant drives tells);
}

pub loop-at-preserved : goal.loop-at-preserved
loop-at-preserved c = λ drives tells.
    let two = tells_bit c.args.tally.now drives tells c.args.place c.loop-at.at c.args.wire.now.width c.requires.width c.loop-at-test.true c.has_two.result c.has_two.ensures.value in
    bit_passed c.args.id.now drives c.args.place c.args.wire.now c.loop-at.at c.loop-at-test.true (sym c.if-has_two.false ∙ two) _ (c.loop-at.invariant drives tells)
