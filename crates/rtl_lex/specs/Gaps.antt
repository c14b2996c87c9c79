-- What stands between tokens.
use Rattle.std.specs.Prelude.{ℕ, ◌+◌, List, [], ◌∷◌, Bool, false, ◌==◌, ◌||◌, if◌then◌else◌}
use Rattle.rtl_lex.specs.Bytes.{is_blank, is_end}

-- whether a gap goes on over this byte; over: it takes ends of lines too; note: a comment is open
abbrev pub in_gap : Bool → Bool → ℕ → Bool
in_gap over note b = if is_end b then over else (note || is_blank b || b == 35)

-- whether a comment is open behind this byte: `#` opens it, and an end of line closes it
abbrev pub note_after : Bool → ℕ → Bool
note_after note b = if is_end b then false else (note || b == 35)

-- how many bytes of blanks and comments stand at the front; over: of ends of lines too
abbrev pub gap : Bool → Bool → List ℕ → ℕ
gap over note [] = 0
gap over note (b ∷ bs) = if in_gap over note b then gap over (note_after note b) bs + 1 else 0
