-- Runs of a crew, and what holds of each, whatever the order of its events.
use Rattle.std.specs.Prelude.{◌≡◌, ◌≢◌, ℕ, ◌+◌, ◌<◌, ◌≤◌, List, [], ◌∷◌, Bool, true, false, not, ◌&&◌, Option, None, Some, cond, length, map, replicate, slice_get, slice_index_or}
use Rattle.std.specs.List.{list_all, range_with_len}
use Rattle.std.specs.Option.{is_some}
use Rattle.rtl_sig.specs.Names.{AreDistinct, has_name}
use Rattle.result_cache.specs.Filled.{new_count, with_keys}
use Rattle.work_crew.specs.Times.{hit, times}
use Rattle.result_cache.specs.History.{Mode, free, held, filled}
use Rattle.desk_core.specs.Crew.{Hand, empty, job, ticket, stopped, Crew, Event, push, Has, IsCrewStep}

-- how often the job is in deques
abbrev pub in_deques : ℕ → List (List ℕ) → ℕ
in_deques j [] = 0
in_deques j (deque ∷ deques) = times j deque + in_deques j deques

-- how often the job is in a hand
abbrev pub in_hand : ℕ → Hand → ℕ
in_hand j empty = 0
in_hand j (job i) = hit i j
in_hand j (ticket i) = hit i j
in_hand j stopped = 0

-- how often it is in hands
abbrev pub in_hands : ℕ → List Hand → ℕ
in_hands j [] = 0
in_hands j (hand ∷ hands) = in_hand j hand + in_hands j hands

module _ {R : Type 0} where
  -- the event puts another job on a deque
  abbrev pub PutsOther : ℕ → Event R → Type 0
  PutsOther j (push w i) = i ≢ j
  PutsOther j other = ⊥

  -- so does each of these
  abbrev pub AllPutOthers : ℕ → List (Event R) → Type 0
  AllPutOthers j [] = Unit {0}
  AllPutOthers j (e ∷ events) = PutsOther j e × AllPutOthers j events

  -- the event may come behind these: the jobs are the numbers below count, and each is put on a deque once, before any other event
  abbrev pub MayFollow : ℕ → List (Event R) → Event R → Type 0
  MayFollow count earlier (push w j) = (j < count) × AllPutOthers j earlier
  MayFollow count earlier other = Unit {0}

  -- behind these events, the last of which stands first, the others take a crew from one state to another, one after another
  abbrev pub AreCrewSteps : (R → List ℕ → Type 0) → (ℕ → List ℕ) → ℕ → List (Event R) → List (Event R) → Crew R → Crew R → Type 0
  AreCrewSteps stands_for key_of count earlier [] s s' = s ≡ s'
  AreCrewSteps stands_for key_of count earlier (e ∷ events) s s' =
      MayFollow count earlier e × ((between : Crew R) × IsCrewStep stands_for key_of e s between × AreCrewSteps stands_for key_of count (e ∷ earlier) events between s')

  -- a crew of so many workers before the first event: no worker has a job, no job is done or given up, no key is held, and each value stands for its key
  pub record IsReady (stands_for : R → List ℕ → Type 0) (workers count : ℕ) (s : Crew R) : Type 0 where
    pub deques : s.deques ≡ replicate workers []
    pub hands : s.hands ≡ replicate workers empty
    pub outputs : s.outputs ≡ replicate count None
    pub given_up : s.given_up ≡ []
    pub builds : s.builds ≡ 0
    pub none_held : (key : List ℕ) (w : ℕ) → s.keys key ≢ held w
    pub stand : (key : List ℕ) (v : R) → s.keys key ≡ filled v → stands_for v key

  -- a run of a crew of so many workers over so many jobs
  pub record IsCrewRun (stands_for : R → List ℕ → Type 0) (key_of : ℕ → List ℕ) (workers count : ℕ) (first : Crew R) (events : List (Event R)) (last : Crew R) : Type 0 where
    pub ready : IsReady stands_for workers count first
    pub steps : AreCrewSteps stands_for key_of count [] events first last

  -- how often the events put the job on a deque
  abbrev pub pushes : ℕ → List (Event R) → ℕ
  pushes j [] = 0
  pushes j (push w i ∷ events) = hit i j + pushes j events
  pushes j (other ∷ events) = pushes j events

  -- 1 where the job is done
  abbrev pub done : ℕ → List (Option R) → ℕ
  done j outputs = cond (is_some (slice_index_or outputs j None)) 1 0

  -- in how many places the job is: in deques, in hands, done, and given up
  abbrev pub places : ℕ → Crew R → ℕ
  places j s = in_deques j s.deques + in_hands j s.hands + done j s.outputs + times j s.given_up

  -- whether a key of this mode is filled
  abbrev pub is_filled : Mode R → Bool
  is_filled free = false
  is_filled (held w) = false
  is_filled (filled v) = true

  -- these keys, each once, are those that are filled and were not at first
  pub record AreFilledSince (keys : List (List ℕ)) (first s : Crew R) : Type 0 where
    pub distinct : AreDistinct keys
    pub since : (key : List ℕ) → has_name keys key ≡ is_filled (s.keys key) && not (is_filled (first.keys key))

  -- what holds after events, whatever their order
  pub record CrewHolds (stands_for : R → List ℕ → Type 0) (key_of : ℕ → List ℕ) (first : Crew R) (events : List (Event R)) (s : Crew R) : Type 0 where
    -- a job that was put on a deque is in just one place, and no other job is in any
    pub one_place : (j : ℕ) → (places j s ≡ pushes j events) × (pushes j events ≤ 1)
    -- at most one worker has the ticket of a key, and it is the one that holds the key
    pub one_holder : (w u i j : ℕ) → Has s w (ticket i) → Has s u (ticket j) → key_of i ≡ key_of j → w ≡ u
    pub holds : (w j : ℕ) → Has s w (ticket j) → s.keys (key_of j) ≡ held w
    -- each output is the value of its job's key
    pub outputs : (j : ℕ) (v : R) → slice_get s.outputs j ≡ Some (Some v) → stands_for v (key_of j)
    -- as many keys were built as were filled since the start
    pub built : List (List ℕ)
    pub builds : s.builds ≡ length built
    pub since : AreFilledSince built first s

  -- the filled keys are these
  abbrev pub KnowsFilled : List (List ℕ) → Crew R → Type 0
  KnowsFilled kept s = (key : List ℕ) → has_name kept key ≡ is_filled (s.keys key)

  -- each job is done
  abbrev pub AllDone : Crew R → Type 0
  AllDone s = list_all is_some s.outputs ≡ true

  -- as many keys were built as one thread builds where these are kept, and the same keys are kept after it
  pub record AgreesAlone (key_of : ℕ → List ℕ) (count : ℕ) (kept : List (List ℕ)) (s : Crew R) : Type 0 where
    pub len : length s.outputs ≡ count
    pub builds : s.builds ≡ new_count kept (map key_of (range_with_len 0 count))
    pub filled : KnowsFilled (with_keys kept (map key_of (range_with_len 0 count))) s
