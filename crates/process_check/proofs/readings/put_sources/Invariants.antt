-- What the places that are left give last, and else what is there so far, is what all give.
use Rattle.std.proofs.Common.{◌≡◌, drop}
use Rattle.std.specs.HashMap.{get_by}
use Rattle.std.specs.Option.{option_or}
use Rattle.rtl_sig.specs.declared.sig.WireBit.{WireBit}
use Rattle.rtl_ir.specs.Assigns.{last_source}
use Rattle.rtl_ir.specs.Follow.{joins}
use Rattle.rtl_ir.specs.Signals.{same_bit}
use Rattle.process_check.proofs.readings.put_sources.Given as goal

abbrev pub invariant-loop-at : goal.invariant-loop-at
invariant-loop-at l =
    (b : WireBit) → option_or (last_source (joins (drop l.at l.left) (drop l.at l.right)) b) (get_by (same_bit b) l.sources) ≡ option_or (last_source (joins l.left l.right) b) (get_by (same_bit b) l.initial.sources)
