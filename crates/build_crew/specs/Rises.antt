-- How far a counter of builds rises.
use Rattle.std.specs.Prelude.{◌≡◌, ◌≤◌, ℕ}
use Rattle.rtl_bits.specs.Counts.{risen}

-- a counter has risen by at most so many steps
pub record RisesUpTo (most before after : ℕ) : Type 0 where
  pub steps : ℕ
  pub few : steps ≤ most
  pub risen : after ≡ risen before steps
