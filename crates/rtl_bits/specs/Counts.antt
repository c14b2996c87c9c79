-- A counter that stays at its last value.
use Rattle.std.specs.Prelude.{ℕ, ◌+◌, ◌-◌, ◌^◌, min, max}

-- the counter after n more steps: the lesser of its last value and the sum. A number above the last value, which no
-- counter has, stays
abbrev pub risen : ℕ → ℕ → ℕ
risen old n = min (old + n) (max old (2 ^ 64 - 1))
