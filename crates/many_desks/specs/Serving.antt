-- What desks make of the seats that serve them.
use Rattle.std.specs.Prelude.{◌≡◌, ℕ, ◌+◌, List, [], ◌∷◌, Some, length}
use Rattle.std.specs.List.{slice_get}
use Rattle.result_cache.specs.Seats.{Seated}
use Rattle.work_crew.specs.Outcome.{Finished}
use Rattle.many_desks.specs.Replies.{Replies}

module _ {S C R : Type 0} (steps : C → S → R → S → Type 0) (does : C → S → Seated → Seated → ℕ → Type 0) where
  -- commands that are answered so, from this state on, take this seat to that one with so many ticks
  abbrev pub Does : S → List C → List R → Seated → Seated → ℕ → Type 0
  Does before [] [] old new n = (old ≡ new) × (n ≡ 0)
  Does before (command ∷ commands) (reply ∷ replies) old new n =
      (between : S) × (seat : Seated) × (a : ℕ) × (b : ℕ) × steps command before reply between
      × does command before old seat a × Does between commands replies seat new b × (n ≡ a + b)
  Does before commands replies old new n = ⊥

  -- so do those of the list at this place
  abbrev pub DoesDesk : S → List (List C) → ℕ → List R → Seated → Seated → ℕ → Type 0
  DoesDesk first lists k replies old new n =
      (commands : List C) × (slice_get lists k ≡ Some commands) × Does first commands replies old new n

-- the desk of the list at this place has these replies
abbrev pub RepliesDesk : {S C R : Type 0} → (C → S → R → S → Type 0) → S → List (List C) → ℕ → List R → Type 0
RepliesDesk {C = C} steps first lists k replies =
    (commands : List C) × (slice_get lists k ≡ Some commands) × Replies steps first commands replies

module _ {S C R : Type 0} (steps : C → S → R → S → Type 0) (does : C → S → Seated → Seated → ℕ → Type 0) where
  -- each of the lists was served once, by the seat in whose row its number is taken: the seats are what the commands of
  -- their lists make of them, and the meter rose by the sum of their ticks
  abbrev pub HaveServed : S → List (List C) → List (List R) → List (List ℕ) → List Seated → List Seated → ℕ → ℕ → Type 0
  HaveServed first lists answers taken olds news old now =
      Finished (RepliesDesk steps first lists) (DoesDesk steps does first lists) (length lists) answers taken olds news
      old now
