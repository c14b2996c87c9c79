-- The functions of one, two and three bits.
use Rattle.std.specs.Prelude.{◌≡◌}
use Rattle.rtl_bits.specs.declared.bit.Bit.{Bit}
use Rattle.rtl_bits.specs.declared.bit.Bit.TheVariants.{S0, S1, X}

-- a bit as a cell reads it: 0 and 1 stay, all others are x
abbrev pub seen_of : Bit → Bit
seen_of S0 = S0
seen_of S1 = S1
seen_of a = X

-- the common known bit, else x
abbrev pub merge_of : Bit → Bit → Bit
merge_of S0 S0 = S0
merge_of S1 S1 = S1
merge_of a b = X

-- the inverse of a known bit, else x
abbrev pub not_of : Bit → Bit
not_of S0 = S1
not_of S1 = S0
not_of a = X

-- 0 where one is 0, 1 where both are 1, else x
abbrev pub and_of : Bit → Bit → Bit
and_of S0 b = S0
and_of a S0 = S0
and_of S1 S1 = S1
and_of a b = X

-- 1 where one is 1, 0 where both are 0, else x
abbrev pub or_of : Bit → Bit → Bit
or_of S1 b = S1
or_of a S1 = S1
or_of S0 S0 = S0
or_of a b = X

-- 1 where known bits differ, 0 where they are equal, x where one is unknown
abbrev pub xor_of : Bit → Bit → Bit
xor_of S0 S0 = S0
xor_of S0 S1 = S1
xor_of S1 S0 = S1
xor_of S1 S1 = S0
xor_of a b = X

-- a where s is 0, b where s is 1, else what the two have in common
abbrev pub mux_of : Bit → Bit → Bit → Bit
mux_of a b S0 = seen_of a
mux_of a b S1 = seen_of b
mux_of a b s = merge_of a b

-- a bit is plain where it is 0, 1 or x: a cell reads it as itself
abbrev pub IsPlain : Bit → Type 0
IsPlain a = seen_of a ≡ a
