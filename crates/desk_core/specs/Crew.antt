-- Workers that take jobs from deques and build their keys over one cache: one list of events, in which each event is a call on the cache or on a deque.
use Rattle.std.specs.Prelude.{◌≡◌, ◌≢◌, ℕ, ◌+◌, List, [], ◌∷◌, ◌++◌, Option, Some, if◌then◌else◌, slice_get, slice_set}
use Rattle.std.specs.Str.{bytes_eq}
use Rattle.result_cache.specs.History.{Mode, free, held, filled}

-- what a worker has in hand: nothing, a job, or a job with the ticket of its key; or it has stopped
pub data Hand : Type 0 where
  empty : Hand
  job : ℕ → Hand
  ticket : ℕ → Hand
  stopped : Hand

-- a crew: a deque of jobs and a hand for each worker, the mode of each key, the outputs by the numbers of their jobs, the jobs that were given up, and how many keys were built
pub record Crew (R : Type 0) : Type 0 where
  pub deques : List (List ℕ)
  pub hands : List Hand
  pub keys : List ℕ → Mode R
  pub outputs : List (Option R)
  pub given_up : List ℕ
  pub builds : ℕ

-- an event, of a worker: it puts a job on its deque; it takes the first job of its own deque, or of that of another; it claims the key of its job, or looks whether another holds it; it fills the key with a result, or gives it back; it stops
pub data Event (R : Type 0) : Type 0 where
  push : ℕ → ℕ → Event R
  pop : ℕ → Event R
  steal : ℕ → ℕ → Event R
  claim : ℕ → Event R
  look : ℕ → Event R
  fill : ℕ → R → Event R
  give_back : ℕ → Event R
  stop : ℕ → Event R

module _ {R : Type 0} where
  -- the modes of keys, with this one for the key
  abbrev pub with_mode : (List ℕ → Mode R) → List ℕ → Mode R → List ℕ → Mode R
  with_mode keys key mode q = if bytes_eq key q then mode else keys q

  -- the worker has this in hand
  abbrev pub Has : Crew R → ℕ → Hand → Type 0
  Has s w hand = slice_get s.hands w ≡ Some hand

  -- the worker takes the first job of the deque of u
  abbrev pub TakesFrom : Crew R → ℕ → ℕ → Crew R → Type 0
  TakesFrom s w u s' =
      (j : ℕ) × (rest : List ℕ) × Has s w empty × (slice_get s.deques u ≡ Some (j ∷ rest))
      × (s' ≡ record s { deques = slice_set s.deques u rest; hands = slice_set s.hands w (job j) })

  -- the answer to the claim of job j's key, by its mode: a key that is free gives the ticket, one that another worker holds changes nothing, and the value of one that is filled is the output
  abbrev pub IsAnswered : List ℕ → Crew R → ℕ → ℕ → Mode R → Crew R → Type 0
  IsAnswered key s w j free s' = s' ≡ record s { hands = slice_set s.hands w (ticket j); keys = with_mode s.keys key (held w) }
  IsAnswered key s w j (held by) s' = (by ≢ w) × (s' ≡ s)
  IsAnswered key s w j (filled v) s' = s' ≡ record s { hands = slice_set s.hands w empty; outputs = slice_set s.outputs j (Some v) }

  -- an event takes a crew from one state to the other, where it is allowed: job j has the key key_of j, and a result stands for the keys of which it is the value
  abbrev pub IsCrewStep : (R → List ℕ → Type 0) → (ℕ → List ℕ) → Event R → Crew R → Crew R → Type 0
  IsCrewStep stands_for key_of (push w j) s s' =
      (jobs : List ℕ) × (slice_get s.deques w ≡ Some jobs) × (s' ≡ record s { deques = slice_set s.deques w (jobs ++ j ∷ []) })
  IsCrewStep stands_for key_of (pop w) s s' = TakesFrom s w w s'
  IsCrewStep stands_for key_of (steal w u) s s' = TakesFrom s w u s'
  IsCrewStep stands_for key_of (claim w) s s' = (j : ℕ) × Has s w (job j) × IsAnswered (key_of j) s w j (s.keys (key_of j)) s'
  IsCrewStep stands_for key_of (look w) s s' = (j : ℕ) × Has s w (job j) × (s' ≡ s)
  IsCrewStep stands_for key_of (fill w v) s s' =
      (j : ℕ) × Has s w (ticket j) × stands_for v (key_of j)
      × (s' ≡ record s {
        hands = slice_set s.hands w empty;
        keys = with_mode s.keys (key_of j) (filled v);
        outputs = slice_set s.outputs j (Some v);
        builds = s.builds + 1;
      })
  IsCrewStep stands_for key_of (give_back w) s s' =
      (j : ℕ) × Has s w (ticket j)
      × (s' ≡ record s {
        hands = slice_set s.hands w stopped;
        keys = with_mode s.keys (key_of j) free;
        given_up = j ∷ s.given_up;
      })
  IsCrewStep stands_for key_of (stop w) s s' = Has s w empty × (s' ≡ record s { hands = slice_set s.hands w stopped })
