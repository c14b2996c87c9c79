-- Values: a width, an apostrophe, an optional `s`, and bits.
use Rattle.std.specs.Prelude.{ℕ, ◌+◌, List, [], ◌∷◌, ◌++◌, take, drop, map, reverse, replicate, Bool, ◌==◌, if◌then◌else◌, slice_index}
use Rattle.std.specs.List.{prefix_len, take_while}
use Rattle.rtl_bits.specs.declared.bit.Bit.{Bit}
use Rattle.rtl_bits.specs.declared.bit.Bit.TheVariants.{S0, S1, X, Z, M, Dash}
use Rattle.rtl_lex.specs.Bytes.{is_digit}
use Rattle.rtl_lex.specs.Numbers.{decimal}

-- the width that a value gives
abbrev pub width_of : List ℕ → ℕ
width_of text = decimal (take_while is_digit text)

-- what stands behind the apostrophe
abbrev pub tail_of : List ℕ → List ℕ
tail_of text = drop (prefix_len is_digit text + 1) text

-- 1 where an `s` stands at the front
abbrev pub sign_len : List ℕ → ℕ
sign_len bytes = if slice_index bytes 0 == 115 then 1 else 0

-- whether a value has its `s`
abbrev pub is_signed : List ℕ → Bool
is_signed text = sign_len (tail_of text) == 1

-- the bits as they are written, the top one first
abbrev pub written_of : List ℕ → List ℕ
written_of text = drop (sign_len (tail_of text)) (tail_of text)

-- the bit that a byte writes
abbrev pub bit_of : ℕ → Bit
bit_of b =
    if b == 48 then S0
    else (if b == 49 then S1
    else (if b == 120 then X
    else (if b == 122 then Z
    else (if b == 109 then M
    else Dash))))

-- a top 1 is followed upward by 0, any other bit by itself
abbrev pub bit_above : Bit → Bit
bit_above S1 = S0
bit_above bit = bit

-- the bit that fills up a value, given the bits as written: x where there are none
abbrev pub fill_of : List ℕ → Bit
fill_of [] = X
fill_of (top ∷ written) = bit_above (bit_of top)

-- so many bits of a value, bit 0 first: the last written is bit 0, the top ones are cut off, missing ones are filled in
abbrev pub fitted : ℕ → List ℕ → List Bit
fitted width written = take width (map bit_of (reverse written) ++ replicate width (fill_of written))

-- the bits of a value, bit 0 first
abbrev pub bits_of : List ℕ → List Bit
bits_of text = fitted (width_of text) (written_of text)
