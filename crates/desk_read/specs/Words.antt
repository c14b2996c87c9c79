-- The words of a line.
use Rattle.std.specs.Prelude.{ℕ, ◌==◌, Bool, not, ◌||◌, List, length, filter, drop}
use Rattle.std.specs.List.{prefix_len, slice_split}

-- a byte is a space or a tab
unfoldable pub is_blank : ℕ → Bool
is_blank byte = (byte == 32) || (byte == 9)

-- the words of a line: what stands between blanks and is not empty
abbrev pub words_of : List ℕ → List (List ℕ)
words_of line = filter (λ word. not (length word == 0)) (slice_split is_blank line)

-- all that stands behind the first word of a line, blanks too, where that word has so many bytes
abbrev pub text_behind : ℕ → List ℕ → List ℕ
text_behind count line = drop count (drop (prefix_len is_blank line) line)
