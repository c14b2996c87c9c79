-- The keys that the seats of a cache have filled, and whose values they have not given up.
use Rattle.std.specs.Prelude.{◌≡◌, ℕ, ◌+◌, List, [], ◌∷◌, ◌++◌, Bool, true, filter, nat_lt}
use Rattle.atomic_table.specs.Seated.{TableId}
use Rattle.rtl_sig.specs.Names.{has_name}
use Rattle.result_cache.specs.declared.call.Act.{Act}
use Rattle.result_cache.specs.declared.call.Act.TheVariants.{Fill}
use Rattle.result_cache.specs.declared.call.Call.{Call}
use Rattle.result_cache.specs.Filled.{in_rising_order}
use Rattle.result_cache.specs.Counts.{drops, fills, give_backs, count_of, times_of}
use Rattle.result_cache.specs.Seats.{Seated, IsIdle}

-- keys with one more before them, where the call on it filled it
abbrev pub with_filled : List ℕ → Act → List (List ℕ) → List (List ℕ)
with_filled key (Fill number) keys = key ∷ keys
with_filled key other keys = keys

-- the keys that calls filled, in their order
abbrev pub filled_in : List Call → List (List ℕ)
filled_in [] = []
filled_in (c ∷ calls) = with_filled c.key c.act (filled_in calls)

-- the keys that seats filled
abbrev pub filled_by : List Seated → List (List ℕ)
filled_by [] = []
filled_by (s ∷ seats) = filled_in s.calls ++ filled_by seats

-- so many of the calls of seats on a key count
abbrev pub times_by : (Act → ℕ) → List ℕ → List Seated → ℕ
times_by counts key [] = 0
times_by counts key (s ∷ seats) = times_of counts key s.calls + times_by counts key seats

-- how many tickets seats gave back
abbrev pub given_back : List Seated → ℕ
given_back [] = 0
given_back (s ∷ seats) = count_of give_backs s.calls + given_back seats

-- these are the seats of a cache from number k on, and none of them has a ticket
abbrev pub AreAllSeats : TableId → ℕ → ℕ → ℕ → List Seated → Type 0
AreAllSeats cache callers shards k [] = k ≡ callers
AreAllSeats cache callers shards k (s ∷ seats) =
    IsIdle cache s × (s.number ≡ k) × (s.callers ≡ callers) × (s.shards ≡ shards)
    × AreAllSeats cache callers shards (k + 1) seats

-- seats keep a key that they filled more often than they gave its value up
abbrev pub is_kept_by : List Seated → List ℕ → Bool
is_kept_by seats key = nat_lt (times_by drops key seats) (times_by fills key seats)

-- the keys that are kept: those of the filled ones that the seats keep, in rising order
abbrev pub kept_by : List Seated → List (List ℕ)
kept_by seats = in_rising_order (filter (is_kept_by seats) (filled_by seats))

-- each text that was among kept ones is among them still
abbrev pub HasStill : List (List ℕ) → List (List ℕ) → Type 0
HasStill before after = (text : List ℕ) → has_name before text ≡ true → has_name after text ≡ true
