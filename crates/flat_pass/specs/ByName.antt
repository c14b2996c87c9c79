-- Names with the first places at which they stand.
use Rattle.std.specs.Prelude.{◌≡◌, ℕ, suc, List, [], ◌∷◌, Option, Some, None, map, if◌then◌else◌}
use Rattle.std.specs.Str.{bytes_eq}
use Rattle.std.specs.HashMap.{HashMap, get_by}
use Rattle.std.specs.declared.hash.FoldHasher.{FoldHasher}
use Rattle.std.specs.declared.hash.BuildHasherDefault.{BuildHasherDefault}
use Rattle.std.proofs.Common.{Bor}
use Rattle.flat_pass.specs.declared.by_name.ByName.{ByName}

-- what stands behind references to names
abbrev pub names_now : List (Bor (List ℕ)) → List (List ℕ)
names_now names = map (λ (n : Bor (List ℕ)). n.now) names

-- a table with names as its keys
abbrev pub Named : Type 0 → Type 0
Named A = HashMap (Bor (List ℕ)) A (BuildHasherDefault FoldHasher)

-- what a table has at a name
abbrev pub at_name : {A : Type 0} → Named A → List ℕ → Option A
at_name table name = get_by (λ (k : Bor (List ℕ)). bytes_eq name k.now) table

-- the first place of a name among these, where they are counted from a number on
abbrev pub place_from : ℕ → List (List ℕ) → List ℕ → Option ℕ
place_from at [] name = None
place_from at (n ∷ names) name = if bytes_eq n name then Some at else place_from (suc at) names name

-- the table has these names, each with its first place
abbrev pub ArePlaces : ByName → List (List ℕ) → Type 0
ArePlaces table names = (name : List ℕ) → at_name table.places name ≡ place_from 0 names name
