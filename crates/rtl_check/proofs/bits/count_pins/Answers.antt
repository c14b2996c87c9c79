use Rattle.std.proofs.Common.{◌∙◌}
use Rattle.rtl_check.specs.Tallies.{bits_of_pin}
use Rattle.rtl_check.proofs.Tallying.{counted_next}
use Rattle.rtl_check.proofs.bits.count_pins.Goals as goal

pub loop-pin-preserved : goal.loop-pin-preserved
loop-pin-preserved c = record {
  widths = c.count_pin.ensures.widths ∙ c.loop-pin.invariant.widths;
  counted = λ type is. counted_next (bits_of_pin type) c.args.pins.now c.loop-pin.pin-index c.pin-item.result c.loop-pin-test.true c.pin-item.is c.loop-pin.tally c.count_pin.new.tally _ (c.count_pin.ensures.value type is) (c.loop-pin.invariant.counted type is);
}
