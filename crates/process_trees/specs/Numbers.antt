-- Bits by their numbers.
use Rattle.std.specs.Prelude.{◌≡◌, ℕ, ◌+◌, List, [], ◌∷◌, Option, Some, None, if◌then◌else◌}
use Rattle.std.specs.HashMap.{HashMap, get_by}
use Rattle.std.specs.declared.hash.BuildHasherDefault.{BuildHasherDefault}
use Rattle.std.specs.declared.hash.FoldHasher.{FoldHasher}
use Rattle.rtl_sig.specs.declared.sig.WireBit.{WireBit}
use Rattle.rtl_ir.specs.Signals.{same_bit}

-- values of bits
abbrev pub ByBit : Type 0 → Type 0
ByBit T = HashMap WireBit T (BuildHasherDefault FoldHasher)

-- the number of a bit among those from a number on, the first where it stands there more than once
abbrev pub number_from : ℕ → List WireBit → WireBit → Option ℕ
number_from at [] b = None
number_from at (c ∷ bits) b = if same_bit c b then Some at else number_from (at + 1) bits b

-- the number of a bit among these
abbrev pub number_in : List WireBit → WireBit → Option ℕ
number_in bits b = number_from 0 bits b

-- the table has the numbers of these bits
abbrev pub AreNumbers : ByBit ℕ → List WireBit → Type 0
AreNumbers numbers bits = (b : WireBit) → get_by (same_bit b) numbers ≡ number_in bits b
