-- How often bits stand in lists.
use Rattle.std.specs.Prelude.{◌≡◌, ℕ, ◌+◌, min, max, List, [], ◌∷◌, if◌then◌else◌}
use Rattle.std.specs.HashMap.{get_by}
use Rattle.std.specs.Option.{option_map_or}
use Rattle.rtl_sig.specs.declared.sig.WireBit.{WireBit}
use Rattle.rtl_ir.specs.declared.process.SyncRule.{SyncRule}
use Rattle.rtl_ir.specs.Assigns.{left_bits}
use Rattle.rtl_ir.specs.Signals.{same_bit}
use Rattle.process_trees.specs.Acting.{acts}
use Rattle.process_trees.specs.Numbers.{ByBit}

-- how often a bit stands in a list
abbrev pub times : List WireBit → WireBit → ℕ
times [] b = 0
times (c ∷ cs) b = if same_bit c b then 1 + times cs b else times cs b

-- not, once, or more often
abbrev pub count_in : List WireBit → WireBit → ℕ
count_in bits b = min 2 (times bits b)

-- each bit stands in both lists not, once, or more often
abbrev pub AreAlike : List WireBit → List WireBit → Type 0
AreAlike bits others = (b : WireBit) → count_in bits b ≡ count_in others b

-- how often a bit was counted
abbrev pub counted : ByBit ℕ → WireBit → ℕ
counted counts b = option_map_or (λ n. n) (get_by (same_bit b) counts) 0

-- the table says of each bit whether it stands in the list not, once, or more often
abbrev pub AreCounts : ByBit ℕ → List WireBit → Type 0
AreCounts counts bits = (b : WireBit) → counted counts b ≡ count_in bits b

-- the bits that a rule updates, where it acts
abbrev pub own_bits : SyncRule → List WireBit
own_bits rule = if acts rule then left_bits rule.updates else []

-- these bits, each as often as in the one of both lists that has it more often, as far as it matters
abbrev pub AreRaised : List WireBit → List WireBit → List WireBit → Type 0
AreRaised before own after = (b : WireBit) → count_in after b ≡ max (count_in before b) (count_in own b)

-- the bits given so far, with their counts, where these were given before the rule, and these are those of the rule so far
pub record AreGiven (given : List WireBit) (most here : ByBit ℕ) (before own : List WireBit) : Type 0 where
  pub most_counts : AreCounts most given
  pub own_counts : AreCounts here own
  pub raised : AreRaised before own given
