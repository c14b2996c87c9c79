use Rattle.std.proofs.Common.{◌∙◌, ap}
use Rattle.rtl_ir.specs.Signals.{wire_bits}
use Rattle.rtl_check.specs.Tallies.{Tallied}
use Rattle.rtl_check.proofs.Telling.{widths-with_bits}
use Rattle.rtl_check.proofs.bits.count_pin.Goals as goal

pub returns-then-drives_pin-clause-widths : goal.returns-then-drives_pin-clause-widths
returns-then-drives_pin-clause-widths c =
    ap (λ (t : Tallied). t.widths) c.add_all.ensures.value ∙ widths-with_bits (wire_bits c.as_slice-then-drives_pin.result.now) c.args.tally.now
