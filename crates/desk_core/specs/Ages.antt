-- The ages of kept keys.
use Rattle.std.specs.Prelude.{◌≡◌, ℕ, ◌+◌, ◌-◌, ◌≤◌, List, [], ◌∷◌, Bool, ◌&&◌, Option, Some, None, if◌then◌else◌, count_by, length, map, nat_lt, slice_get}
use Rattle.std.specs.Cmp.Lexicographic.{slice_cmp}
use Rattle.std.specs.Option.{is_none}
use Rattle.std.specs.Ordering.{nat_cmp, match_ordering}
use Rattle.desk_core.specs.State.{KeptKey}

-- the texts of kept keys
abbrev pub texts_of : List KeptKey → List (List ℕ)
texts_of kept = map (λ k. k.key) kept

-- a kept key of this age
abbrev pub aged : List ℕ → ℕ → KeptKey
aged key age = record { key = key; age = age }

-- kept keys in rising order with this one; where its text is one of theirs, it takes that one's place
abbrev pub with_kept : KeptKey → List KeptKey → List KeptKey
with_kept new [] = new ∷ []
with_kept new (k ∷ kept) = match_ordering (slice_cmp nat_cmp new.key k.key) (new ∷ k ∷ kept) (new ∷ kept) (k ∷ with_kept new kept)

-- the greatest age of a kept key
abbrev pub oldest : ℕ
oldest = 7

-- kept keys, each older by one; one whose age would pass the greatest is kept no more
abbrev pub older : List KeptKey → List KeptKey
older [] = []
older (k ∷ kept) = if nat_lt k.age oldest then aged k.key (k.age + 1) ∷ older kept else older kept

-- kept keys with each of these, which are new or new again
abbrev pub with_new : List KeptKey → List (List ℕ) → List KeptKey
with_new kept [] = kept
with_new kept (key ∷ keys) = with_new (with_kept (aged key 0) kept) keys

-- the kept keys after a command that needed these: they have age 0, and each other is older by one
abbrev pub kept_after : List (List ℕ) → List KeptKey → List KeptKey
kept_after needed kept = with_new (older kept) needed

-- the kept keys of a table: those of its keys that have an age, in rising order
abbrev pub kept_in : List (List ℕ) → List (Option ℕ) → List KeptKey
kept_in [] ages = []
kept_in (key ∷ keys) [] = []
kept_in (key ∷ keys) (None ∷ ages) = kept_in keys ages
kept_in (key ∷ keys) (Some age ∷ ages) = with_kept (aged key age) (kept_in keys ages)

-- no age passes the greatest
abbrev pub AreYoung : List (Option ℕ) → Type 0
AreYoung ages = (at age : ℕ) → slice_get ages at ≡ Some (Some age) → age ≤ oldest

-- the keys of a table that have an age
abbrev pub aged_keys : List (List ℕ) → List (Option ℕ) → List (List ℕ)
aged_keys [] ages = []
aged_keys (key ∷ keys) [] = []
aged_keys (key ∷ keys) (None ∷ ages) = aged_keys keys ages
aged_keys (key ∷ keys) (Some age ∷ ages) = key ∷ aged_keys keys ages

-- how many places have no age
abbrev pub unaged_count : List (Option ℕ) → ℕ
unaged_count ages = count_by is_none ages

-- whether more than 16 places have no age, and more of them than have one
abbrev pub is_sparse : List (Option ℕ) → Bool
is_sparse ages = nat_lt 16 (unaged_count ages) && nat_lt (length ages - unaged_count ages) (unaged_count ages)

-- the keys of a table that is made anew where it is sparse
abbrev pub compact_keys : List (List ℕ) → List (Option ℕ) → List (List ℕ)
compact_keys keys ages = if is_sparse ages then aged_keys keys ages else keys
