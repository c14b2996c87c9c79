-- How often numbers stand in lists.
use Rattle.std.specs.Prelude.{ℕ, zero, suc, ◌+◌, List, [], ◌∷◌, cond, nat_eq, nat_lt}

-- 1 where the two numbers are equal, else 0
abbrev pub hit : ℕ → ℕ → ℕ
hit x k = cond (nat_eq x k) 1 0

-- how often the number stands in the list
abbrev pub times : ℕ → List ℕ → ℕ
times k [] = 0
times k (x ∷ xs) = hit x k + times k xs

-- 1 where the number is below count, else 0
abbrev pub once_below : ℕ → ℕ → ℕ
once_below k count = cond (nat_lt k count) 1 0

-- at most fuel numbers: first, first + step and so on, below count
abbrev pub every_in : ℕ → ℕ → ℕ → ℕ → List ℕ
every_in zero first step count = []
every_in (suc fuel) first step count = cond (nat_lt first count) (first ∷ every_in fuel (first + step) step count) []

-- the numbers first, first + step and so on, below count
abbrev pub every : ℕ → ℕ → ℕ → List ℕ
every first step count = every_in count first step count
