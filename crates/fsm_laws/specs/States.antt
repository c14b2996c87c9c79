-- The states of a machine, and the value that a compare becomes.
use Rattle.std.specs.Prelude.{◌≡◌, ◌≤◌, ◌==◌, ◌+◌, ℕ, List, [], ◌∷◌, length, Option, Some, None, slice_get, if◌then◌else◌}
use Rattle.rtl_bits.specs.Knowledge.{AreKnown}
use Rattle.rtl_bits.specs.Numbers.{number_of}
use Rattle.rtl_bits.specs.declared.bit.Bit.{Bit}
use Rattle.rtl_bits.specs.declared.bit.Bit.TheVariants.{S0}

-- states of a width: known bits that stand for different numbers, two at least
pub record AreStates (width : ℕ) (states : List (List Bit)) : Type 0 where
  pub known : (i : ℕ) (s : List Bit) → slice_get states i ≡ Some s → AreKnown s
  pub wide : (i : ℕ) (s : List Bit) → slice_get states i ≡ Some s → length s ≡ width
  pub distinct : (i j : ℕ) (s r : List Bit) → slice_get states i ≡ Some s → slice_get states j ≡ Some r → number_of s ≡ number_of r → i ≡ j
  pub two : 2 ≤ length states

-- the place of the state that is a number, from a place on
abbrev pub state_place : List (List Bit) → ℕ → ℕ → Option ℕ
state_place [] at n = None
state_place (s ∷ states) at n = if number_of s == n then Some at else state_place states (at + 1) n

-- the bit of a code at a place, 0 where there is none
abbrev pub bit_or_zero : (ℕ → Bit) → Option ℕ → Bit
bit_or_zero u None = S0
bit_or_zero u (Some i) = u i
