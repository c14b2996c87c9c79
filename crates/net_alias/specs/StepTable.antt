-- Tables of what is known of the ways back from bits.
use Rattle.std.specs.Prelude.{◌≡◌, ◌⊎◌, Option, Some, None}
use Rattle.rtl_sig.specs.declared.sig.SigBit.{SigBit}
use Rattle.rtl_sig.specs.declared.sig.SigBit.TheVariants as sig
use Rattle.rtl_sig.specs.declared.sig.WireBit.{WireBit}
use Rattle.net_index.specs.IndexTable.{value_at}
use Rattle.net_index.specs.Numbering.{number_of}
use Rattle.net_alias.specs.declared.step_table.Step.{Step}
use Rattle.net_alias.specs.declared.step_table.StepTable.{StepTable}

-- the step of a bit of a wire: that at its number, or that of the bit by itself where it has no number
abbrev pub at_bit : StepTable → WireBit → Option Step
at_bit table b = value_at table.inside.items table.outside b (number_of table.numbering b)

-- the step of a bit; a constant has none
abbrev pub at_sig : StepTable → SigBit → Option Step
at_sig table (sig.Fixed c) = None
at_sig table (sig.Wire b) = at_bit table b

-- each bit has the step that it had, or it is the bit that has this step now
pub record IsLearnt (old new : StepTable) (bit : SigBit) (step : Step) : Type 0 where
  pub all : (s : SigBit) → (at_sig new s ≡ at_sig old s) ⊎ ((s ≡ bit) × (at_sig new s ≡ Some step))
