-- The whole numbers that lists of bits stand for. The least significant bit is the first.
use Rattle.std.specs.Prelude.{ℕ, zero, suc, ◌+◌, ◌*◌, ◌/◌, ◌%◌, ◌^◌, ◌==◌, ◌≤◌, ℤ, pos, ◌-ℤ◌, Bool, true, false, if◌then◌else◌, List, [], ◌∷◌, length}
use Rattle.rtl_bits.specs.declared.bit.Bit.{Bit}
use Rattle.rtl_bits.specs.declared.bit.Bit.TheVariants.{S0, S1}
use Rattle.rtl_bits.specs.Knowledge.{AreKnown}

-- what a bit adds at its place: 1 for the bit 1, else nothing
abbrev pub digit_of : Bit → ℕ
digit_of S1 = 1
digit_of b = 0

-- the number that known bits stand for
abbrev pub number_of : List Bit → ℕ
number_of [] = 0
number_of (b ∷ bs) = digit_of b + 2 * number_of bs

-- the lowest bit of a number: 1 where it is odd
abbrev pub low_bit_of : ℕ → Bit
low_bit_of n = if n % 2 == 1 then S1 else S0

-- the low bits of a number, as many as the width says
abbrev pub bits_of : ℕ → ℕ → List Bit
bits_of n zero = []
bits_of n (suc width) = low_bit_of n ∷ bits_of (n / 2) width

-- the most significant bit; of no bits it is 0
abbrev pub top_of : List Bit → Bit
top_of [] = S0
top_of (b ∷ []) = b
top_of (b ∷ c ∷ bs) = top_of (c ∷ bs)

-- whether a bit is 1
abbrev pub is_one : Bit → Bool
is_one S1 = true
is_one b = false

-- the integer that known bits stand for in two's complement: their number, less 2 to the width
-- where the top bit is 1
abbrev pub integer_of : List Bit → ℤ
integer_of bits =
    if is_one (top_of bits)
    then pos (number_of bits) -ℤ pos (2 ^ length bits)
    else pos (number_of bits)

-- the list has a number of at most 128 bits: each bit is known, and there are no more than that
abbrev pub HasNumber : List Bit → Type 0
HasNumber bits = AreKnown bits × (length bits ≤ 128)
