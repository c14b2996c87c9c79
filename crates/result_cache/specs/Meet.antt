-- Seats that look at each shard together.
use Rattle.std.specs.Prelude.{◌≡◌, ℕ, ◌<◌, ◌≤◌, List, [], ◌∷◌, length}
use Rattle.result_cache.specs.declared.call.Call.{Call}
use Rattle.result_cache.specs.declared.view.Known.{Known}
use Rattle.result_cache.specs.History.{IsLegal}
use Rattle.result_cache.specs.Shared.{AreBelow, on_shard, seen_at, EachSeat, Agrees}
use Rattle.result_cache.specs.Seats.{Seated, known_of, seen_of, KeepsCalls}
use Rattle.result_cache.specs.Tickets.{calls_by}

-- the seat has seen these histories of the first n shards; all else stays
pub record SeesTo (n : ℕ) (logs : ℕ → List Call) (old new : Known) : Type 0 where
  pub number : new.number ≡ old.number
  pub callers : new.callers ≡ old.callers
  pub shards : new.shards ≡ old.shards
  pub calls : new.calls ≡ old.calls
  pub wide : length new.seen ≡ length old.seen
  pub seen : (i : ℕ) → i < n → seen_at new i ≡ logs i
  pub later : (i : ℕ) → n ≤ i → seen_at new i ≡ seen_at old i

-- each of the seats has
abbrev pub AllSeeTo : ℕ → (ℕ → List Call) → List Known → List Known → Type 0
AllSeeTo n logs [] [] = Unit {0}
AllSeeTo n logs (k ∷ olds) (k' ∷ news) = SeesTo n logs k k' × AllSeeTo n logs olds news
AllSeeTo n logs [] (k' ∷ news) = ⊥
AllSeeTo n logs (k ∷ olds) [] = ⊥

-- the seats looked at the first n shards: there are histories that agree with each of them, and that each has seen
pub record LookedTo (n : ℕ) (olds news : List Known) : Type 0 where
  pub logs : ℕ → List Call
  pub see : AllSeeTo n logs olds news
  pub agree : (i : ℕ) → i < n → EachSeat (Agrees (logs i) i) olds

-- the same of seats that are not lent to a pass
abbrev pub SeatsSeeTo : ℕ → (ℕ → List Call) → List Seated → List Seated → Type 0
SeatsSeeTo n logs [] [] = Unit {0}
SeatsSeeTo n logs (s ∷ olds) (t ∷ news) = (t.cache ≡ s.cache) × SeesTo n logs (known_of s) (known_of t) × SeatsSeeTo n logs olds news
SeatsSeeTo n logs [] (t ∷ news) = ⊥
SeatsSeeTo n logs (s ∷ olds) [] = ⊥

-- this history of shard i agrees with each of these seats
abbrev pub SeatsAgree : List Call → ℕ → List Seated → Type 0
SeatsAgree log i [] = Unit {0}
SeatsAgree log i (s ∷ seats) = Agrees log i (known_of s) × SeatsAgree log i seats

-- the seats of a pass and others looked together at the first n shards
pub record Gathered (n : ℕ) (olds news : List Known) (others others' : List Seated) : Type 0 where
  pub logs : ℕ → List Call
  pub see : AllSeeTo n logs olds news
  pub others_see : SeatsSeeTo n logs others others'
  pub agree : (i : ℕ) → i < n → EachSeat (Agrees (logs i) i) olds
  pub others_agree : (i : ℕ) → i < n → SeatsAgree (logs i) i others

-- the seats have met at shard i: each has seen this history of it, which is legal, begins with what each of them had seen before, and has under each of their numbers just the calls that this seat made there. Their numbers and calls stay
abbrev pub HasMet : ℕ → List Call → List Seated → List Seated → Type 0
HasMet i log [] [] = Unit {0}
HasMet i log (s ∷ olds) (t ∷ news) = KeepsCalls s t × Agrees log i (known_of s) × (seen_of t i ≡ log) × HasMet i log olds news
HasMet i log [] (t ∷ news) = ⊥
HasMet i log (s ∷ olds) [] = ⊥

-- the seat has seen this whole history of shard i, which is legal, has calls of the cache's seats alone, and has under the seat's number just its calls
pub record HasSeen (i : ℕ) (log : List Call) (s : Seated) : Type 0 where
  pub seen : seen_of s i ≡ log
  pub legal : IsLegal log
  pub numbers : AreBelow s.callers log
  pub own : calls_by s.number log ≡ on_shard s.shards i s.calls

-- so has each of these
abbrev pub AllSaw : ℕ → List Call → List Seated → Type 0
AllSaw i log [] = Unit {0}
AllSaw i log (s ∷ seats) = HasSeen i log s × AllSaw i log seats

-- the seats share one history of each shard
abbrev pub Share : ℕ → List Seated → Type 0
Share shards seats = (i : ℕ) → i < shards → (log : List Call) × AllSaw i log seats
