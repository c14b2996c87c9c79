-- Shards behind locks, and what the seats know of them. The lock of shard i is word i of a table, whose slot i holds the shard.
use Rattle.std.specs.Prelude.{◌≡◌, ◌≢◌, ℕ, zero, suc, ◌+◌, ◌%◌, ◌<◌, List, [], ◌∷◌, ◌++◌, Bool, true, false, if◌then◌else◌, ◌==◌, length, drop, map, replicate, sum, slice_index, slice_index_or, slice_set}
use mathlib.Core.Option.{some, none}
use lib.ListN.{get_elem?}
use Rattle.atomic_table.specs.Table.{State, Me}
use Rattle.result_cache.specs.declared.call.Call.{Call}
use Rattle.result_cache.specs.declared.view.Known.{Known}
use Rattle.result_cache.specs.declared.view.View.{View}
use Rattle.result_cache.specs.History.{IsLegal}
use Rattle.result_cache.specs.Tickets.{calls_by}
use Rattle.result_cache.specs.Stored.{Contents}

-- the history begins with what was seen
abbrev pub StartsWith : List Call → List Call → Type 0
StartsWith log seen = (more : List Call) × (log ≡ seen ++ more)

-- each call stands under a number below n
abbrev pub AreBelow : ℕ → List Call → Type 0
AreBelow n [] = Unit {0}
AreBelow n (c ∷ calls) = (c.seat < n) × AreBelow n calls

-- a key's shard, of so many: the sum of the bytes of its text modulo their number
abbrev pub shard_of : ℕ → List ℕ → ℕ
shard_of shards key = sum key % shards

-- those of the calls that are on keys of shard i
abbrev pub on_shard : ℕ → ℕ → List Call → List Call
on_shard shards i [] = []
on_shard shards i (c ∷ calls) = if shard_of shards c.key == i then c ∷ on_shard shards i calls else on_shard shards i calls

-- each call is the seat's, and on a key of shard i
abbrev pub AreOf : ℕ → ℕ → ℕ → List Call → Type 0
AreOf shards i seat [] = Unit {0}
AreOf shards i seat (c ∷ calls) = (c.seat ≡ seat) × (shard_of shards c.key ≡ i) × AreOf shards i seat calls

-- what a seat has seen of shard i
abbrev pub seen_at : Known → ℕ → List Call
seen_at k i = slice_index_or k.seen i []

-- a seat that made no call, and has seen the empty history of each shard
abbrev pub newcomer : ℕ → ℕ → ℕ → Known
newcomer callers shards number = record { number = number; callers = callers; shards = shards; calls = []; seen = replicate shards [] }

-- that many newcomers, numbered from n on
abbrev pub newcomers : ℕ → ℕ → ℕ → ℕ → List Known
newcomers callers shards n zero = []
newcomers callers shards n (suc more) = newcomer callers shards n ∷ newcomers callers shards (n + 1) more

-- the view of a thread that steps for these seats, and holds no lock
abbrev pub view_of : List Known → View
view_of seats = record { seats = seats; busy = false; at = 0; log = [] }

-- the view of a thread that steps for one seat, and took the lock of shard i as its history was this
abbrev pub holding : Known → ℕ → List Call → View
holding k i log = record { seats = k ∷ []; busy = true; at = i; log = log }

-- the view of all seats, before they are handed out
abbrev pub all_seats : ℕ → ℕ → View
all_seats callers shards = view_of (newcomers callers shards 0 callers)

-- stands for the first seat where there is none
abbrev pub nobody : Known
nobody = newcomer 0 0 0

-- the first of the seats
abbrev pub first_of : List Known → Known
first_of [] = nobody
first_of (k ∷ seats) = k

-- the seats without the first
abbrev pub rest_of : List Known → List Known
rest_of [] = []
rest_of (k ∷ seats) = seats

-- the first of the seats of a view
abbrev pub seat_of : View → Known
seat_of v = first_of v.seats

-- the view without its first seat
abbrev pub others : View → View
others v = view_of (rest_of v.seats)

-- the view of its first seat alone
abbrev pub alone : View → View
alone v = view_of (seat_of v ∷ [])

-- the seats of both views, those of the second before those of the first
abbrev pub together : View → View → View
together v w = view_of (w.seats ++ v.seats)

-- P holds of each seat
abbrev pub EachSeat : (Known → Type 0) → List Known → Type 0
EachSeat P [] = Unit {0}
EachSeat P (k ∷ seats) = P k × EachSeat P seats

-- none of the seats has this number
abbrev pub NoneHas : ℕ → List Known → Type 0
NoneHas n [] = Unit {0}
NoneHas n (k ∷ seats) = (k.number ≢ n) × NoneHas n seats

-- no two of the seats have one number
abbrev pub AreApart : List Known → Type 0
AreApart [] = Unit {0}
AreApart (k ∷ seats) = NoneHas k.number seats × AreApart seats

-- what holds of a seat that the view p steps for, where the shards have these histories: each history begins with what the seat has seen, and has just the seat's calls under its number
pub record Sits (logs : ℕ → List Call) (place : ℕ → ℕ) (callers shards p : ℕ) (k : Known) : Type 0 where
  pub there : p ≡ place k.number
  pub callers_are : k.callers ≡ callers
  pub shards_are : k.shards ≡ shards
  pub wide : length k.seen ≡ shards
  pub begins : (i : ℕ) → StartsWith (logs i) (seen_at k i)
  pub own : (i : ℕ) → calls_by k.number (logs i) ≡ on_shard shards i k.calls

-- what holds of the view p: its seats sit, and what it holds is its own
pub record Fits (logs : ℕ → List Call) (place owner : ℕ → ℕ) (out : ℕ → Type 0) (callers shards p : ℕ) (v : View) : Type 0 where
  pub apart : AreApart v.seats
  pub seats : EachSeat (Sits logs place callers shards p) v.seats
  pub locked : v.busy ≡ true → (p ≡ owner v.at) × (logs v.at ≡ v.log) × out v.at

-- the rule: each shard has one legal history, whose calls stand under the numbers of seats, and which is that of the shard while its lock is free; all views fit to these histories. Each seat is stepped for by one view, each lock is held by one view
pub record Keeps (V : Type 0) (callers shards : ℕ) (s : State (Contents V) View) : Type 0 where
  pub logs : ℕ → List Call
  pub place : ℕ → ℕ
  pub owner : ℕ → ℕ
  pub words_are : length s.words ≡ shards + shards
  pub homes_are : length s.homes ≡ shards
  pub legal : (i : ℕ) → IsLegal (logs i)
  pub numbers : (i : ℕ) → AreBelow callers (logs i)
  pub home : (i : ℕ) → i < shards → slice_index s.words i ≡ 0 → (y : Contents V) × (get_elem? s.homes i ≡ some (some y))
  pub same : (i : ℕ) (y : Contents V) → get_elem? s.homes i ≡ some (some y) → y.history ≡ logs i
  pub fits : (p : ℕ) (v : View) → get_elem? s.views p ≡ some v → Fits logs place owner (λ i. get_elem? s.homes i ≡ some none) callers shards p v

-- this history of shard i is legal, has the calls of seats of the cache alone, begins with what the seat has seen, and has just the seat's calls under its number
pub record Agrees (log : List Call) (i : ℕ) (k : Known) : Type 0 where
  pub legal : IsLegal log
  pub numbers : AreBelow k.callers log
  pub begins : StartsWith log (seen_at k i)
  pub own : calls_by k.number log ≡ on_shard k.shards i k.calls
  pub wide : length k.seen ≡ k.shards
  pub within : i < k.shards

-- the thread steps for the seat k, and took the lock of shard i, with the shard
pub record Entered (V : Type 0) (k : Known) (i : ℕ) (me : Me (Contents V) View) : Type 0 where
  pub y : Contents V
  pub me_is : me ≡ (holding k i y.history, (i, y) ∷ [])
  pub agrees : Agrees y.history i k

-- the lock was free, and is taken, with the shard; or it was not
abbrev pub TakenIf : (V : Type 0) → ℕ → Bool → Me (Contents V) View → Me (Contents V) View → Type 0
TakenIf V i true me me' = (y : Contents V) × (me' ≡ (holding (seat_of me.0) i y.history, (i, y) ∷ [])) × Agrees y.history i (seat_of me.0)
TakenIf V i false me me' = me' ≡ me

-- the lock is taken, or was not free, by the number that was found in its word
abbrev pub Taken : (V : Type 0) → ℕ → Me (Contents V) View → ℕ → Me (Contents V) View → Type 0
Taken V i me found me' = TakenIf V i (found == 0) me me'

-- the history of the shard that is held
abbrev pub held_history : {V : Type 0} → List (ℕ × Contents V) → List Call
held_history [] = []
held_history (x ∷ xs) = x.1.history

-- the seat made these calls, and has seen this history of shard i
abbrev pub seat_after : Known → ℕ → List Call → List Call → Known
seat_after k i more log = record k { calls = k.calls ++ more; seen = slice_set k.seen i log }

-- the view of who gives a lock back: the seat made the calls that are new in the shard's history, and has seen all of it
abbrev pub released : {V : Type 0} → Me (Contents V) View → View
released me = view_of (seat_after (seat_of me.0) me.0.at (drop (length me.0.log) (held_history me.1)) (held_history me.1) ∷ [])

-- the lock is given back, with the calls that were made under it
abbrev pub Given : (V : Type 0) → Me (Contents V) View → Me (Contents V) View → Type 0
Given V me me' = me' ≡ (released me, [])

-- the lock is given back, and the seat is as it was
abbrev pub GivenUp : (V : Type 0) → Me (Contents V) View → Me (Contents V) View → Type 0
GivenUp V me me' = me' ≡ (alone me.0, [])

-- the seat has seen this history of shard i
abbrev pub with_seen : ℕ → List Call → Known → Known
with_seen i log k = record k { seen = slice_set k.seen i log }

-- each seat of the view has seen the whole history of shard i
abbrev pub Looked : (V : Type 0) → ℕ → Me (Contents V) View → Me (Contents V) View → Type 0
Looked V i me me' = (log : List Call) × EachSeat (Agrees log i) me.0.seats × (me' ≡ (view_of (map (with_seen i log) me.0.seats), []))

-- the thread holds the shard i, on which the seat made these calls since it took the lock
pub record MayGive (V : Type 0) (i : ℕ) (me : Me (Contents V) View) : Type 0 where
  pub k : Known
  pub log : List Call
  pub y : Contents V
  pub more : List Call
  pub me_is : me ≡ (holding k i log, (i, y) ∷ [])
  pub grown : y.history ≡ log ++ more
  pub own : AreOf k.shards i k.number more
  pub legal : IsLegal y.history
  pub below : k.number < k.callers

-- the thread holds the shard i as it was when it took the lock
pub record MayGiveUp (V : Type 0) (i : ℕ) (me : Me (Contents V) View) : Type 0 where
  pub k : Known
  pub y : Contents V
  pub me_is : me ≡ (holding k i y.history, (i, y) ∷ [])

-- the thread holds the shard i, of which P holds
abbrev pub Holds : (V : Type 0) → ℕ → Me (Contents V) View → (Contents V → Type 0) → Type 0
Holds V i me P = (y : Contents V) × (me.1 ≡ (i, y) ∷ []) × P y

-- the thread holds the shard i, which changes as P says
abbrev pub Swaps : (V : Type 0) → ℕ → Me (Contents V) View → Me (Contents V) View → (Contents V → Contents V → Type 0) → Type 0
Swaps V i me me' P = (y : Contents V) × (z : Contents V) × (me.1 ≡ (i, y) ∷ []) × (me' ≡ (me.0, (i, z) ∷ [])) × P y z

-- no call was made on any of the shards
abbrev pub AreUncalled : {V : Type 0} → List (Contents V) → Type 0
AreUncalled [] = Unit {0}
AreUncalled (x ∷ xs) = (x.history ≡ []) × AreUncalled xs
