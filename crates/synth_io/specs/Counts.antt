-- Counts, which are u64 that stay at their last value.
use Rattle.std.specs.Prelude.{◌≡◌, ℕ, ◌+◌, ◌-◌, ◌^◌, ◌≤◌, min, Result, OnOk, OnErr}

-- the number after this one, or the last value of a u64
abbrev pub next_count : ℕ → ℕ
next_count count = min (count + 1) (2 ^ 64 - 1)

-- the count is greater than before, or it is the last value of a u64
abbrev pub HasRisen : ℕ → ℕ → Type 0
HasRisen before now = next_count before ≤ now

-- the count never falls: Ok leaves it as it is, and a failure comes only where it has risen
pub record HasCause {T E : Type 0} (before now : ℕ) (result : Result T E) : Type 0 where
  pub ok : OnOk result (now ≡ before)
  pub failed : OnErr result (HasRisen before now)
  pub never_falls : before ≤ now
