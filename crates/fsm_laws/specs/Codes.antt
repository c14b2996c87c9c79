-- What the code with one bit for each state says of the state.
use Rattle.std.specs.Prelude.{◌≡◌, ◌<◌, ℕ}
use Rattle.rtl_bits.specs.declared.bit.Bit.{Bit}
use Rattle.rtl_bits.specs.declared.bit.Bit.TheVariants.{S0, S1, X}

-- 0 where two bits are known and differ, else x
abbrev pub apart : Bit → Bit → Bit
apart S0 S1 = S0
apart S1 S0 = S0
apart a b = X

-- where all other bits of a code are 0, the one that is left is 1
abbrev pub OneHot : ℕ → (ℕ → Bit) → Type 0
OneHot count u = (i : ℕ) → i < count → ((j : ℕ) → j < count → (j ≡ i → ⊥) → u j ≡ S0) → u i ≡ S1
