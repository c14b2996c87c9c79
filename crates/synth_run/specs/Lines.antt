-- The lines of an input.
use Rattle.std.specs.Prelude.{ℕ, ◌==◌, Bool, not, List, [], ◌∷◌, ◌++◌, map, if◌then◌else◌}
use Rattle.std.specs.List.{list_all}
use Rattle.std.specs.Io.BufRead.{strip_last}

-- a byte ends a line
abbrev pub is_lf : ℕ → Bool
is_lf byte = byte == 10

-- the lines of bytes that are ended by LF, each without it, and what stands after the last LF
pub record Lines : Type 0 where
  pub ended : List (List ℕ)
  pub rest : List ℕ

-- a byte before the first of these lines
abbrev pub onto_first : ℕ → List (List ℕ) → List ℕ → Lines
onto_first byte [] rest = record { ended = []; rest = byte ∷ rest }
onto_first byte (line ∷ lines) rest = record { ended = (byte ∷ line) ∷ lines; rest = rest }

-- lines with one byte more before them, which is LF and a line of its own, or stands in the first of them
abbrev pub with_byte : ℕ → Lines → Lines
with_byte byte lines =
    if is_lf byte then record { ended = [] ∷ lines.ended; rest = lines.rest } else onto_first byte lines.ended lines.rest

abbrev pub lines_of : List ℕ → Lines
lines_of [] = record { ended = []; rest = [] }
lines_of (byte ∷ bytes) = with_byte byte (lines_of bytes)

-- no LF stands in these bytes
abbrev pub is_unended : List ℕ → Bool
is_unended = list_all (λ byte. not (is_lf byte))

-- the last line of bytes, where it has no LF; its CR is one of its bytes
abbrev pub last_line : List ℕ → List (List ℕ)
last_line [] = []
last_line (byte ∷ bytes) = (byte ∷ bytes) ∷ []

-- lines as a session reads them: one CR before the LF is dropped
abbrev pub read_lines : List (List ℕ) → List (List ℕ)
read_lines = map (strip_last 13)

-- the lines of bytes with their LF
abbrev pub ended_lines : List ℕ → List (List ℕ)
ended_lines bytes = read_lines (lines_of bytes).ended

-- the lines of a whole input
abbrev pub all_lines : List ℕ → List (List ℕ)
all_lines bytes = ended_lines bytes ++ last_line (lines_of bytes).rest
