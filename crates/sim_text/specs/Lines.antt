-- Lines of a stimulus and of a trace: a word for each port, in order of number.
use Rattle.std.specs.Prelude.{ℕ, ◌==◌, Bool, true, false, not, ◌&&◌, ◌||◌, List, [], ◌∷◌, length, map, filter, take, drop, reverse, codes, Option, Some, None, if◌then◌else◌}
use Rattle.std.specs.List.{flat_map, join_with_byte, list_all, slice_split}
use Rattle.std.specs.Str.{bytes_eq}
use Rattle.rtl_bits.specs.declared.bit.Bit.{Bit}
use Rattle.sim_text.specs.Digits.{bit_of, digit_of, is_digit}

-- the word of a port's bits: a digit for each, the most significant first
abbrev pub word_of : List Bit → List ℕ
word_of bits = map digit_of (reverse bits)

-- the words of bits for ports of these widths, one port after another
abbrev pub port_words : List ℕ → List Bit → List (List ℕ)
port_words [] bits = []
port_words (width ∷ widths) bits = word_of (take width bits) ∷ port_words widths (drop width bits)

-- the words of a line of these bits: `-` where there is no port
abbrev pub line_words : List ℕ → List Bit → List (List ℕ)
line_words [] bits = codes "-" ∷ []
line_words (width ∷ widths) bits = port_words (width ∷ widths) bits

-- the line of bits for ports of these widths: its words, with a blank between two
abbrev pub step_line : List ℕ → List Bit → List ℕ
step_line widths bits = join_with_byte 32 (line_words widths bits)

-- a character is a blank or a tab
unfoldable pub is_blank : ℕ → Bool
is_blank c = (c == 32) || (c == 9)

-- the words of a line: what stands between blanks and is not empty
abbrev pub words_of : List ℕ → List (List ℕ)
words_of line = filter (λ word. not (length word == 0)) (slice_split is_blank line)

-- a word has a digit for each bit of a port of this width, and no other character
abbrev pub is_port_word : ℕ → List ℕ → Bool
is_port_word width word = (length word == width) && list_all is_digit word

-- each port has its word, and there is no other word
abbrev pub are_port_words : List ℕ → List (List ℕ) → Bool
are_port_words [] [] = true
are_port_words (width ∷ widths) (word ∷ words) = is_port_word width word && are_port_words widths words
are_port_words [] (word ∷ words) = false
are_port_words (width ∷ widths) [] = false

-- the only word is `-`
abbrev pub is_dash : List (List ℕ) → Bool
is_dash [] = false
is_dash (word ∷ []) = bytes_eq word (codes "-")
is_dash (word ∷ next ∷ words) = false

-- the words are those of a step, for ports of these widths
abbrev pub are_step_words : List ℕ → List (List ℕ) → Bool
are_step_words [] words = is_dash words
are_step_words (width ∷ widths) words = are_port_words (width ∷ widths) words

-- the bits that a word says: that of its last digit first
abbrev pub word_bits : List ℕ → List Bit
word_bits word = map bit_of (reverse word)

-- the bits that the words of a step say, for ports of these widths
abbrev pub step_bits : List ℕ → List (List ℕ) → List Bit
step_bits [] words = []
step_bits (width ∷ widths) words = flat_map word_bits words

-- the bits that a line says for ports of these widths, one port after another, each from its bit 0; none where it is no
-- line of a step
abbrev pub step_of : List ℕ → List ℕ → Option (List Bit)
step_of widths line =
    if are_step_words widths (words_of line) then Some (step_bits widths (words_of line)) else None
