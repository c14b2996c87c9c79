-- What the assigns that are left give last, and else what is there so far, is what all give.
use Rattle.std.proofs.Common.{◌≡◌, drop}
use Rattle.std.specs.HashMap.{get_by}
use Rattle.std.specs.Option.{option_or}
use Rattle.rtl_sig.specs.declared.sig.WireBit.{WireBit}
use Rattle.rtl_ir.specs.Assigns.{assigned}
use Rattle.rtl_ir.specs.Signals.{same_bit}
use Rattle.process_check.proofs.readings.sources_of.Given as goal

abbrev pub invariant-loop-line : goal.invariant-loop-line
invariant-loop-line l = (b : WireBit) → option_or (assigned (drop l.line-index l.assigns) b) (get_by (same_bit b) l.sources) ≡ assigned l.assigns b
