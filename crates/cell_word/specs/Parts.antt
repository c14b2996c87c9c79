-- The cells that choose a part of a word by its number, or that put a word at a part.
use Rattle.std.specs.Prelude.{ℕ, zero, suc, ◌+◌, ◌*◌, ◌/◌, ◌%◌, ◌^◌, Bool, true, ◌&&◌, ◌==◌, if◌then◌else◌, List, [], ◌∷◌, ◌++◌, length, map, slice_index_or, Option, Some, None}
use Rattle.std.specs.Option.{unwrap_or}
use Rattle.rtl_bits.specs.declared.bit.Bit.{Bit}
use Rattle.rtl_bits.specs.declared.bit.Bit.TheVariants.{S0, S1, X}
use Rattle.rtl_bits.specs.Knowledge.{all_known}
use Rattle.rtl_bits.specs.Tables.{seen_of, merge_of, and_of}
use Rattle.cell_word.specs.Words.{word_of}

-- a bit may be a digit, 0 or 1: it is not the other one
abbrev pub may_be_digit : Bit → ℕ → Bool
may_be_digit S0 digit = digit == 0
may_be_digit S1 digit = digit == 1
may_be_digit _ digit = true

-- bits may be a number: no known bit differs from the number's
abbrev pub may_be : List Bit → ℕ → Bool
may_be [] number = true
may_be (b ∷ bits) number = may_be_digit b (number % 2) && may_be bits (number / 2)

-- what a bit has in common with those before it, where there are some
abbrev pub merged_with : Option Bit → Bit → Bit
merged_with None b = seen_of b
merged_with (Some a) b = merge_of a b

-- what the first bits that a function gives have in common, of those at whose places a test holds, where there are some
abbrev pub merge_where : (ℕ → Bool) → (ℕ → Bit) → ℕ → Option Bit
merge_where test f zero = None
merge_where test f (suc n) = if test n then Some (merged_with (merge_where test f n) (f n)) else merge_where test f n

-- a bit of `$bmux`: what that bit of all parts of A has in common whose numbers S may be
abbrev pub bmuxed_bit : List Bit → List Bit → ℕ → ℕ → Bit
bmuxed_bit a s width at =
    unwrap_or (merge_where (may_be s) (λ part. slice_index_or a (part * width + at) X) (2 ^ length s)) X

-- `$bmux`: with S known, this is the part whose number S is
abbrev pub bmuxed_of : List Bit → List Bit → ℕ → List Bit
bmuxed_of a s width = word_of (bmuxed_bit a s width) width

-- a bit of A in a part: 0 where S may not be the number of the part, the bit where S is it, else 0 where the bit is 0, and x
abbrev pub placed_bit : List Bit → ℕ → Bit → Bit
placed_bit s part b = if may_be s part then (if all_known s then seen_of b else and_of X b) else S0

-- the first parts, one after another
abbrev pub placed_parts : List Bit → List Bit → ℕ → List Bit
placed_parts a s zero = []
placed_parts a s (suc n) = placed_parts a s n ++ map (placed_bit s n) a

-- `$demux`
abbrev pub demuxed_of : List Bit → List Bit → List Bit
demuxed_of a s = placed_parts a s (2 ^ length s)
