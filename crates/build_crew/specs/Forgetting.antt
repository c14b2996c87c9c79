-- Seats of a cache, of which one gives up values.
use Rattle.std.specs.Prelude.{◌≡◌, ℕ, ◌<◌, List, [], ◌∷◌, filter, length, not, suc}
use Rattle.atomic_table.specs.Seated.{TableId}
use Rattle.rtl_sig.specs.Names.{has_name}
use Rattle.result_cache.specs.Counts.{claims}
use Rattle.result_cache.specs.declared.call.Call.{Call}
use Rattle.result_cache.specs.declared.shard.Forget.{Forget}
use Rattle.result_cache.specs.Meet.{HasMet, Share}
use Rattle.result_cache.specs.Seats.{Seated, HasForgot}
use Rattle.build_crew.specs.Kept.{AreAllSeats, kept_by, times_by, given_back}

-- a seat was to give up the values of these keys, one after another, and got an answer for each
abbrev pub GaveUp : {V : Type 0} → (V → List ℕ → Type 0) → List (List ℕ) → Seated → Seated → Type 0
GaveUp stands_for [] old new = new ≡ old
GaveUp {V} stands_for (key ∷ keys) old new =
    (mid : Seated) × (answer : Forget V) × HasForgot stands_for old mid key answer × GaveUp stands_for keys mid new

-- keys without these
abbrev pub without : List (List ℕ) → List (List ℕ) → List (List ℕ)
without gone keys = filter (λ key. not (has_name gone key)) keys

-- all seats of a cache of so many shards, which shared one history of each; the first was to give up the values of these
-- keys, and then all met
pub record AreForgetting (V : Type 0) (stands_for : V → List ℕ → Type 0) (cache : TableId) (shards : ℕ)
    (gone : List (List ℕ)) (first mid : Seated) (others news : List Seated) : Type 0 where
  pub some : 0 < shards
  pub all : AreAllSeats cache (suc (length others)) shards 0 (first ∷ others)
  pub shared : Share shards (first ∷ others)
  pub gave_up : GaveUp stands_for gone first mid
  pub met : (i : ℕ) → i < shards → (log : List Call) × HasMet i log (mid ∷ others) news

-- what this leaves: the keys that are kept are those that were, without these; the seats are all seats of the cache still,
-- claimed no key more, and gave no ticket back
pub record HasForgotten (cache : TableId) (shards : ℕ) (gone : List (List ℕ)) (olds news : List Seated) : Type 0 where
  pub kept : kept_by news ≡ without gone (kept_by olds)
  pub all : AreAllSeats cache (length olds) shards 0 news
  pub claimed : (key : List ℕ) → times_by claims key news ≡ times_by claims key olds
  pub given : given_back news ≡ given_back olds
