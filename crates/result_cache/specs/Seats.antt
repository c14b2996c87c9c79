-- What contracts see of a seat, and what each of its calls does to it.
use Rattle.std.specs.Prelude.{◌≡◌, ◌≢◌, ℕ, zero, suc, ◌+◌, ◌-◌, ◌^◌, ◌<◌, List, [], ◌∷◌, ◌++◌, min, slice_index_or}
use Rattle.atomic_table.specs.Seated.{TableId}
use Rattle.result_cache.specs.declared.call.Act.{Act}
use Rattle.result_cache.specs.declared.call.Act.TheVariants.{Hit, Busy, Yours, Fill, Forget}
use Rattle.result_cache.specs.declared.call.Call.{Call}
use Rattle.result_cache.specs.declared.shard.Claim as claim
use Rattle.result_cache.specs.declared.shard.Claim.TheVariants as reply
use Rattle.result_cache.specs.declared.shard.Forget as forget
use Rattle.result_cache.specs.declared.shard.Forget.TheVariants as answer
use Rattle.result_cache.specs.declared.view.Known.{Known}
use Rattle.result_cache.specs.declared.view.View.{View}
use Rattle.result_cache.specs.Counts.{claims, fills, give_backs, drops, count_of}
use Rattle.result_cache.specs.History.{Mode, IsLegal, call, free, held, state_after}
use Rattle.result_cache.specs.Tickets.{calls_by, has_ticket, HoldsNoTicket}
use Rattle.result_cache.specs.Shared.{StartsWith, AreBelow, shard_of, on_shard, newcomer, nobody, view_of, seat_of}

-- which cache the seat is of and how many seats and shards that has, the seat's number, the calls that it made, and the history that it has seen of each shard
pub record Seated : Type 0 where
  pub cache : TableId
  pub number : ℕ
  pub callers : ℕ
  pub shards : ℕ
  pub calls : List Call
  pub seen : List (List Call)

-- what is known of a seat, without its cache
abbrev pub known_of : Seated → Known
known_of s = record { number = s.number; callers = s.callers; shards = s.shards; calls = s.calls; seen = s.seen }

-- the seat of this cache of which this is known
abbrev pub seat_at : TableId → Known → Seated
seat_at cache k = record { cache = cache; number = k.number; callers = k.callers; shards = k.shards; calls = k.calls; seen = k.seen }

-- the one view of a seat
abbrev pub first_view : List View → View
first_view [] = view_of (nobody ∷ [])
first_view (v ∷ views) = v

-- the seat of this cache that has this view
abbrev pub seated_of : TableId → List View → Seated
seated_of cache views = seat_at cache (seat_of (first_view views))

-- a number that stays at the last value of its type
abbrev pub capped : ℕ → ℕ
capped n = min n (2 ^ 64 - 1)

-- what holds of every seat: its view is of this seat alone, its number is that of one of the cache's seats, and its counts are those of its calls
pub record IsSeat (cache : TableId) (number claimed filled given_back dropped : ℕ) (views : List View) : Type 0 where
  pub view_is : views ≡ view_of (seat_of (first_view views) ∷ []) ∷ []
  pub number_is : (seat_of (first_view views)).number ≡ number
  pub below : number < (seat_of (first_view views)).callers
  pub shards_are : (seat_of (first_view views)).shards ≡ cache.slots
  pub claims_are : claimed ≡ capped (count_of claims (seat_of (first_view views)).calls)
  pub fills_are : filled ≡ capped (count_of fills (seat_of (first_view views)).calls)
  pub give_backs_are : given_back ≡ capped (count_of give_backs (seat_of (first_view views)).calls)
  pub drops_are : dropped ≡ capped (count_of drops (seat_of (first_view views)).calls)

-- that many seats that made no call and have seen the empty history of each shard, numbered from n on
abbrev pub new_seats_from : TableId → ℕ → ℕ → ℕ → ℕ → List Seated
new_seats_from cache callers shards n zero = []
new_seats_from cache callers shards n (suc more) = seat_at cache (newcomer callers shards n) ∷ new_seats_from cache callers shards (n + 1) more

-- the seats of a new cache, in the order of their numbers
abbrev pub new_seats : TableId → ℕ → ℕ → List Seated
new_seats cache callers shards = new_seats_from cache callers shards 0 callers

-- the seat made no call
pub record IsNew (number : ℕ) (cache : TableId) (k : Known) : Type 0 where
  pub number_is : k.number ≡ number
  pub below : number < k.callers
  pub shards_are : k.shards ≡ cache.slots
  pub no_calls : k.calls ≡ []

-- these are seats of the cache
abbrev pub AreSeatsOf : TableId → List Seated → Type 0
AreSeatsOf cache [] = Unit {0}
AreSeatsOf cache (s ∷ seats) = (s.cache ≡ cache) × AreSeatsOf cache seats

-- what the seat has seen of shard i
abbrev pub seen_of : Seated → ℕ → List Call
seen_of s i = slice_index_or s.seen i []

-- the shard of a key
abbrev pub shard_at : Seated → List ℕ → ℕ
shard_at s key = shard_of s.shards key

-- the seat's cache, its number and its calls stay
pub record KeepsCalls (old new : Seated) : Type 0 where
  pub cache : new.cache ≡ old.cache
  pub number : new.number ≡ old.number
  pub callers : new.callers ≡ old.callers
  pub shards : new.shards ≡ old.shards
  pub calls : new.calls ≡ old.calls

-- the seat made this call: its number stays and its list of calls grows by this call alone. What it has seen of the key's shard is legal, begins with what it had seen before, ends with the call, has the calls of seats of the cache alone, and has under the seat's number just the calls that it made on this shard. What it has seen of the other shards stays
pub record Made (old new : Seated) (key : List ℕ) (act : Act) : Type 0 where
  pub cache : new.cache ≡ old.cache
  pub number : new.number ≡ old.number
  pub callers : new.callers ≡ old.callers
  pub shards : new.shards ≡ old.shards
  pub calls : new.calls ≡ old.calls ++ call old.number key act ∷ []
  pub between : List Call
  pub grows : seen_of new (shard_at old key) ≡ (seen_of old (shard_at old key) ++ between) ++ call old.number key act ∷ []
  pub legal : IsLegal (seen_of new (shard_at old key))
  pub numbers : AreBelow old.callers (seen_of new (shard_at old key))
  pub own : calls_by old.number (seen_of new (shard_at old key)) ≡ on_shard old.shards (shard_at old key) new.calls
  pub others : (j : ℕ) → j ≢ shard_at old key → seen_of new j ≡ seen_of old j

-- the seat made a claim, with this reply: a value that stands for the key, another seat's number, or this seat's ticket for the key
abbrev pub HasClaimed : {V : Type 0} → (V → List ℕ → Type 0) → Seated → Seated → List ℕ → claim.Claim V → Type 0
HasClaimed stands_for old new key (reply.Hit value) = stands_for value key × ((number : ℕ) × Made old new key (Hit number))
HasClaimed stands_for old new key (reply.Busy by) = (by ≢ old.number) × Made old new key (Busy by)
HasClaimed stands_for old new key (reply.Yours ticket) = (ticket.seat ≡ old.number) × (ticket.key ≡ key) × Made old new key Yours

-- the seat filled the key: the number of the value is that of the calls before
abbrev pub HasFilled : Seated → Seated → List ℕ → Type 0
HasFilled old new key = (number : ℕ) × Made old new key (Fill number)

-- the seat looked at the key's shard, in which the key had a mode of which this holds. Its number and its calls stay; what it has seen of the key's shard is legal, begins with what it had seen before, and has under its number just its calls; what it has seen of the other shards stays
pub record HasLooked (old new : Seated) (key : List ℕ) (P : Mode ℕ → Type 0) : Type 0 where
  pub kept : KeepsCalls old new
  pub grows : StartsWith (seen_of new (shard_at old key)) (seen_of old (shard_at old key))
  pub legal : IsLegal (seen_of new (shard_at old key))
  pub numbers : AreBelow old.callers (seen_of new (shard_at old key))
  pub own : calls_by old.number (seen_of new (shard_at old key)) ≡ on_shard old.shards (shard_at old key) old.calls
  pub others : (j : ℕ) → j ≢ shard_at old key → seen_of new j ≡ seen_of old j
  pub mode_is : P (state_after (seen_of new (shard_at old key)) key)

-- no seat but this one holds a key of this mode
abbrev pub NoOtherHolds : ℕ → Mode ℕ → Type 0
NoOtherHolds seat mode = (by : ℕ) → mode ≡ held by → by ≡ seat

-- the seat waited until no other seat held the key
abbrev pub HasWaited : Seated → Seated → List ℕ → Type 0
HasWaited old new key = HasLooked old new key (NoOtherHolds old.number)

-- the seat gave up the value of a key, with this answer: the value, which stands for the key; or it saw that the key is free, or that the seat of this number holds it
abbrev pub HasForgot : {V : Type 0} → (V → List ℕ → Type 0) → Seated → Seated → List ℕ → forget.Forget V → Type 0
HasForgot stands_for old new key (answer.Dropped value) = stands_for value key × ((number : ℕ) × Made old new key (Forget number))
HasForgot stands_for old new key answer.Free = HasLooked old new key (λ mode. mode ≡ free)
HasForgot stands_for old new key (answer.Busy by) = HasLooked old new key (λ mode. mode ≡ held by)

-- the seat's cache, its number and its tickets stay
pub record KeepsTickets (old new : Seated) : Type 0 where
  pub cache : new.cache ≡ old.cache
  pub number : new.number ≡ old.number
  pub tickets : (key : List ℕ) → has_ticket new.calls key ≡ has_ticket old.calls key

-- the seat is of this cache, and has no ticket
abbrev pub IsIdle : TableId → Seated → Type 0
IsIdle cache s = (s.cache ≡ cache) × HoldsNoTicket s.calls

-- so are all of these
abbrev pub AreIdle : TableId → List Seated → Type 0
AreIdle cache [] = Unit {0}
AreIdle cache (s ∷ seats) = IsIdle cache s × AreIdle cache seats
