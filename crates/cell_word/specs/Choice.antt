-- The cells that choose or join words.
use Rattle.std.specs.Prelude.{ℕ, ◌+◌, ◌*◌, if◌then◌else◌, ◌==◌, List, ◌++◌, map, count_by, position, slice_index_or}
use Rattle.std.specs.Option.{unwrap_or}
use Rattle.rtl_bits.specs.declared.bit.Bit.{Bit}
use Rattle.rtl_bits.specs.declared.bit.Bit.TheVariants.{X}
use Rattle.rtl_bits.specs.Knowledge.{all_known}
use Rattle.rtl_bits.specs.Tables.{seen_of, mux_of}
use Rattle.rtl_bits.specs.Numbers.{is_one}
use Rattle.cell_word.specs.Words.{word_of, unknown_of}

-- `$mux`: A where S is 0, B where it is 1, else what the two have in common, bit by bit
abbrev pub muxed_of : List Bit → List Bit → Bit → ℕ → List Bit
muxed_of a b s width = word_of (λ at. mux_of (slice_index_or a at X) (slice_index_or b at X) s) width

-- `$bwmux`: bit by bit, A where S is 0, B where it is 1, else what the two have in common
abbrev pub bwmuxed_of : List Bit → List Bit → List Bit → ℕ → List Bit
bwmuxed_of a b s width =
    word_of (λ at. mux_of (slice_index_or a at X) (slice_index_or b at X) (slice_index_or s at X)) width

-- the part of a word from a place on, as wide as a width says
abbrev pub part_of : List Bit → ℕ → ℕ → List Bit
part_of a offset width = word_of (λ at. seen_of (slice_index_or a (offset + at) X)) width

-- `$concat`: A below B
abbrev pub joined_of : List Bit → List Bit → List Bit
joined_of a b = map seen_of (a ++ b)

-- the place of the lowest bit that is 1, 0 where there is none
abbrev pub place_of : List Bit → ℕ
place_of s = unwrap_or (position is_one s) 0

-- `$pmux` of a known S: A where no bit of S is 1, a part of B where one is, else all x
abbrev pub selected_of : List Bit → List Bit → List Bit → ℕ → List Bit
selected_of a b s width =
    if count_by is_one s == 0
    then part_of a 0 width
    else if count_by is_one s == 1 then part_of b (place_of s * width) width else unknown_of width

-- `$pmux`: all x where a bit of S is unknown
abbrev pub picked_of : List Bit → List Bit → List Bit → ℕ → List Bit
picked_of a b s width = if all_known s then selected_of a b s width else unknown_of width
