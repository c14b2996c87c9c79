-- Places in a text.
use Rattle.std.specs.Prelude.{◌≡◌, ℕ, ◌+◌, ◌≤◌, Bool, not, List, [], ◌∷◌, length, take, ◌==◌, if◌then◌else◌, ◌++◌, codes}
use Rattle.std.specs.List.{list_all}
use Rattle.std.specs.Fmt.{decimal}
use Rattle.rtl_lex.specs.declared.place.Place.{Place}

-- the place behind a byte
abbrev pub behind : Place → ℕ → Place
behind p b = if b == 10 then record { at = p.at + 1; line = p.line + 1; column = 1 } else record { at = p.at + 1; line = p.line; column = p.column + 1 }

-- the place behind these bytes
abbrev pub moved : Place → List ℕ → Place
moved p [] = p
moved p (b ∷ bs) = moved (behind p b) bs

-- no end of line is among these bytes
abbrev pub is_flat : List ℕ → Bool
is_flat bytes = list_all (λ b. not (b == 10)) bytes

-- the place where a text begins
abbrev pub start : Place
start = record { at = 0; line = 1; column = 1 }

-- the place of a byte of the text, or the place behind its last byte
pub record IsPlaceIn (text : List ℕ) (p : Place) : Type 0 where
  pub within : p.at ≤ length text
  pub is : p ≡ moved start (take p.at text)

-- a place as it is printed: the line, a colon and the column
abbrev pub place_text : Place → List ℕ
place_text p = decimal p.line ++ codes ":" ++ decimal p.column
