-- The states of a machine, and the values that it may start from.
use Rattle.std.specs.Prelude.{◌≡◌, ℕ, ◌==◌, nat_le, Bool, true, not, ◌&&◌, ◌||◌, List, ◌++◌, length, Option}
use Rattle.std.specs.List.{list_any, list_all}
use Rattle.rtl_bits.specs.declared.bit.Bit.{Bit}
use Rattle.rtl_bits.specs.Knowledge.{all_known, is_known}
use Rattle.net_model.specs.Fsm.Find.{known_start, option_state}
use Rattle.fsm_find.specs.declared.starts.Starts.{Starts}

-- the reset value is known where there is one, and the start value is known wholly or not at all
abbrev pub are_starts : Option (List Bit) → List Bit → Bool
are_starts reset start =
    list_all all_known (option_state reset) && (all_known start || not (list_any is_known start))

-- so many states a machine may have
abbrev pub is_count : ℕ → Bool
is_count n = nat_le 2 n && nat_le n 64

-- these are the values that a machine may start from
pub record AreStarts (given : Option (List Bit)) (bits : List Bit) (v : Starts) : Type 0 where
  pub test : are_starts given bits ≡ true
  pub reset : v.reset ≡ given
  pub start : v.start ≡ known_start bits

-- known leaves with the values that a machine may start from
abbrev pub with_starts : List (List Bit) → Starts → List (List Bit)
with_starts leaves v = leaves ++ (option_state v.reset ++ option_state v.start)

-- known bits of a width
abbrev pub is_state_of : ℕ → List Bit → Bool
is_state_of width s = (length s == width) && all_known s
