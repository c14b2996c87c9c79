-- The filled keys of a shard, in rising order, and shards of which no key is held.
use Rattle.std.specs.Prelude.{◌≢◌, ℕ, not, List, [], ◌∷◌, filter}
use Rattle.std.specs.Cmp.Lexicographic.{slice_cmp}
use Rattle.std.specs.Option.{is_some}
use Rattle.std.specs.Ordering.{nat_cmp, match_ordering}
use Rattle.std.specs.Set.{distinct_count}
use Rattle.std.specs.Str.{bytes_eq}
use Rattle.rtl_sig.specs.Names.{has_name}
use Rattle.result_cache.specs.History.{held}
use Rattle.result_cache.specs.Stored.{Contents, value_at, mode_at}

-- keys in rising order with one more; where it is one of them they stay as they are
abbrev pub with_key : List ℕ → List (List ℕ) → List (List ℕ)
with_key key [] = key ∷ []
with_key key (k ∷ keys) = match_ordering (slice_cmp nat_cmp key k) (key ∷ k ∷ keys) (k ∷ keys) (k ∷ with_key key keys)

-- these keys in rising order, each once
abbrev pub in_rising_order : List (List ℕ) → List (List ℕ)
in_rising_order [] = []
in_rising_order (key ∷ keys) = with_key key (in_rising_order keys)

-- keys in rising order with each of these
abbrev pub with_keys : List (List ℕ) → List (List ℕ) → List (List ℕ)
with_keys keys [] = keys
with_keys keys (key ∷ more) = with_keys (with_key key keys) more

-- how many of these, each once, are not among the keys
abbrev pub new_count : List (List ℕ) → List (List ℕ) → ℕ
new_count keys more = distinct_count bytes_eq (filter (λ key. not (has_name keys key)) more)

module _ {V : Type 0} where
  -- the filled keys, in rising order
  abbrev pub filled_keys : Contents V → List (List ℕ)
  filled_keys s = in_rising_order (filter (λ key. is_some (value_at s key)) s.keys)

  -- no seat holds a key
  abbrev pub HoldsNone : Contents V → Type 0
  HoldsNone s = (key : List ℕ) (seat : ℕ) → mode_at s key ≢ held seat
