-- The numbers that digits write.
use Rattle.std.specs.Prelude.{ℕ, ◌+◌, ◌-◌, ◌*◌, ◌^◌, ℤ, pos, negsuc, neg_ℤ, List, [], ◌∷◌, Option, Some, None, Bool, ◌==◌, nat_lt, if◌then◌else◌, fold}

-- the number that digits stand for in a base, the first on top
abbrev pub number_in : ℕ → List ℕ → ℕ
number_in base digits = fold (λ n b. n * base + (b - 48)) 0 digits

-- the number of decimal digits
abbrev pub decimal : List ℕ → ℕ
decimal digits = number_in 10 digits

-- the number of octal digits
abbrev pub octal : List ℕ → ℕ
octal digits = number_in 8 digits

-- decimal digits behind an optional minus
abbrev pub integer : List ℕ → ℤ
integer [] = pos 0
integer (b ∷ bs) = if b == 45 then neg_ℤ (pos (decimal bs)) else pos (decimal (b ∷ bs))

-- -2147483648 to 2147483647
abbrev pub in_range : ℤ → Bool
in_range (pos n) = nat_lt n (2 ^ 31)
in_range (negsuc n) = nat_lt n (2 ^ 31)

-- the integer that a text stands for, where it is in range
abbrev pub int_of : List ℕ → Option ℤ
int_of text = if in_range (integer text) then Some (integer text) else None
