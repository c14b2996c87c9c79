use Rattle.std.proofs.Common.{◌∙◌, ap, ◌-◌, ◌+◌}
use Rattle.rtl_check.specs.Tallies.{with_bits}
use Rattle.rtl_check.proofs.Tallying.{bits_from, wire_next}
use Rattle.rtl_check.proofs.bits.count_wire.Goals as goal

pub loop-at-preserved : goal.loop-at-preserved
loop-at-preserved c =
    ap (λ t. with_bits t (bits_from c.args.wire (c.loop-at.at + 1) (c.args.width - (c.loop-at.at + 1)))) c.add.ensures.value
    ∙ wire_next c.args.wire c.loop-at.at c.args.width c.loop-at-test.true c.loop-at.tally _ c.loop-at.invariant
