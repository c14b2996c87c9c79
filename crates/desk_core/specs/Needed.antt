-- What a command that needs the netlist needs of the kept keys, and what it leaves of their ages.
use Rattle.std.specs.Prelude.{◌≡◌, ℕ, ◌+◌, List, [], ◌∷◌, Bool, true, false, Option, Some, None, if◌then◌else◌, ◌&&◌, ◌==◌, map, nat_lt}
use Rattle.std.specs.List.{list_any, range_with_len}
use Rattle.std.specs.Option.{is_none}
use Rattle.rtl_sig.specs.Names.{has_name, AreDistinct}
use Rattle.result_cache.specs.Filled.{new_count}
use Rattle.build_crew.specs.Kept.{HasStill}
use Rattle.desk_core.specs.declared.ages.Ages.{Ages}
use Rattle.desk_core.specs.declared.needed.Needed.{Needed}
use Rattle.desk_core.specs.Ages.{kept_in, oldest, texts_of}

-- of each key of a table, whether it is one of these
abbrev pub marks_of : List (List ℕ) → List (List ℕ) → List Bool
marks_of needed keys = map (has_name needed) keys

-- of so many places, whether each is one of these
abbrev pub places_marked : List ℕ → ℕ → List Bool
places_marked places count = map (λ at. list_any (λ place. place == at) places) (range_with_len 0 count)

-- whether a place counts as new: it is marked and has no age
abbrev pub is_new_place : Bool → Option ℕ → Bool
is_new_place mark age = mark && is_none age

-- an age after a command that needed the netlist, by whether it needed the key
abbrev pub age_after : Bool → Option ℕ → Option ℕ
age_after true age = Some 0
age_after false None = None
age_after false (Some age) = if nat_lt age oldest then Some (age + 1) else None

-- the ages after it
abbrev pub ages_after : List Bool → List (Option ℕ) → List (Option ℕ)
ages_after [] ages = []
ages_after (mark ∷ marks) [] = []
ages_after (mark ∷ marks) (age ∷ ages) = age_after mark age ∷ ages_after marks ages

-- how many of the marked places have no age
abbrev pub new_places : List Bool → List (Option ℕ) → ℕ
new_places [] ages = 0
new_places (mark ∷ marks) [] = 0
new_places (mark ∷ marks) (age ∷ ages) = (if is_new_place mark age then 1 else 0) + new_places marks ages

-- a key of the greatest age that is not needed is too old after it
abbrev pub is_too_old : Bool → Option ℕ → Bool
is_too_old true age = false
is_too_old false None = false
is_too_old false (Some age) = if nat_lt age oldest then false else true

-- the keys of a table that are too old after it
abbrev pub too_old : List Bool → List (List ℕ) → List (Option ℕ) → List (List ℕ)
too_old marks [] ages = []
too_old [] (key ∷ keys) ages = []
too_old (mark ∷ marks) (key ∷ keys) [] = []
too_old (mark ∷ marks) (key ∷ keys) (age ∷ ages) =
    if is_too_old mark age then key ∷ too_old marks keys ages else too_old marks keys ages

-- what a command needs that needs these keys: each has one place in the table, and is marked there; so many are not kept, and
-- these are too old after it
pub record IsNeeded (texts : List (List ℕ)) (ages : Ages) (needed : Needed) : Type 0 where
  pub there : HasStill texts ages.keys
  pub distinct : AreDistinct ages.keys
  pub marks : needed.marks.items ≡ marks_of texts ages.keys
  pub built : needed.built ≡ new_count (texts_of (kept_in ages.keys ages.ages.items)) texts
  pub gone : needed.too_old.items ≡ too_old needed.marks.items ages.keys ages.ages.items
