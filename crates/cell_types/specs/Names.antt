-- tables of names
use Rattle.std.specs.Prelude.{ℕ, Bool, List, [], ◌∷◌, Option, Some, None, if◌then◌else◌, length, take, drop}
use Rattle.std.specs.List.{list_any}
use Rattle.std.specs.Str.{bytes_eq}

-- what the first row with this name names
abbrev pub named : {K : Type 0} → List (List ℕ × K) → List ℕ → Option K
named [] name = None
named (row ∷ rows) name = if bytes_eq name row.0 then Some row.1 else named rows name

-- what the first row names that the text begins with, and the text behind it
abbrev pub prefixed : {K : Type 0} → List (List ℕ × K) → List ℕ → Option (K × List ℕ)
prefixed [] text = None
prefixed (row ∷ rows) text =
    if bytes_eq (take (length row.0) text) row.0
    then Some (row.1, drop (length row.0) text)
    else prefixed rows text

-- the name is one of these
abbrev pub is_among : List (List ℕ) → List ℕ → Bool
is_among names name = list_any (λ text. bytes_eq name text) names
