-- What a crew leaves: the outputs by number, and what each token went through.
use Rattle.std.specs.Prelude.{◌≡◌, ℕ, ◌+◌, ◌≤◌, List, [], ◌∷◌, ◌++◌, length, ◌⊎◌, Some}
use Rattle.std.specs.List.{slice_get, concat}
use Rattle.rtl_bits.specs.Counts.{risen}
use Rattle.work_crew.specs.Times.{times, once_below}
use Rattle.work_crew.specs.Along.{Ran, numbers_of}

-- what one token went through: jobs with their outputs, then at most one that failed
pub record Way (O : Type 0) : Type 0 where
  pub done : List (ℕ × O)
  pub failed : List ℕ
  pub ticks : ℕ

-- the numbers of all jobs that they went through
abbrev pub all_numbers : {O : Type 0} → List (Way O) → List ℕ
all_numbers [] = []
all_numbers (g ∷ gs) = (numbers_of g.done ++ g.failed) ++ all_numbers gs

-- the ticks of all of them
abbrev pub all_ticks : {O : Type 0} → List (Way O) → ℕ
all_ticks [] = 0
all_ticks (g ∷ gs) = g.ticks + all_ticks gs

-- each token went its way
abbrev pub AllGone : {O T : Type 0} → (ℕ → O → T → T → ℕ → Type 0) → (ℕ → T → T → ℕ → Type 0) → List (Way O) → List T → List T → Type 0
AllGone does fails [] [] [] = Unit {0}
AllGone does fails (g ∷ gs) (t ∷ ts) (u ∷ us) = Ran does fails g.done g.failed t u g.ticks × AllGone does fails gs ts us
AllGone does fails gs ts us = ⊥

-- the jobs of these numbers, with the outputs that items has for them, take t to u with n ticks
abbrev pub Went : {O T : Type 0} → (ℕ → O → T → T → ℕ → Type 0) → List O → List ℕ → T → T → ℕ → Type 0
Went does items [] t u n = (t ≡ u) × (n ≡ 0)
Went {O} {T} does items (k ∷ ks) t u n = (o : O) × (m : T) × (a : ℕ) × (b : ℕ) × (slice_get items k ≡ Some o) × does k o t m a × Went does items ks m u b × (n ≡ a + b)

-- each token went along its list
abbrev pub AllWent : {O T : Type 0} → (ℕ → O → T → T → ℕ → Type 0) → List O → List (List ℕ) → List T → List T → ℕ → Type 0
AllWent does items [] [] [] n = n ≡ 0
AllWent does items (l ∷ ls) (t ∷ ts) (u ∷ us) n = (a : ℕ) × (b : ℕ) × Went does items l t u a × AllWent does items ls ts us b × (n ≡ a + b)
AllWent does items ls ts us n = ⊥

module _ {O T : Type 0} where
  -- all jobs were done: the outputs by number, each of which fits; the lists of jobs hold each number below count
  -- once, and no other; each token is what the jobs of its list make of it, and the meter rose by the sum of the ticks
  pub record Finished (output_fits : ℕ → O → Type 0) (does : ℕ → O → T → T → ℕ → Type 0) (count : ℕ) (items : List O) (taken : List (List ℕ)) (ts us : List T) (old now : ℕ) : Type 0 where
    pub len : length items ≡ count
    pub fit : (k : ℕ) (o : O) → slice_get items k ≡ Some o → output_fits k o
    pub each_once : (k : ℕ) → times k (concat taken) ≡ once_below k count
    pub ticks : ℕ
    pub went : AllWent does items taken ts us ticks
    pub meter : now ≡ risen old ticks

  -- it ended early: each token went through jobs and then at most one that failed, no number stands twice, and the
  -- meter rose by the sum of the ticks
  pub record Stopped (does : ℕ → O → T → T → ℕ → Type 0) (fails : ℕ → T → T → ℕ → Type 0) (count : ℕ) (ts us : List T) (old now : ℕ) : Type 0 where
    pub ways : List (Way O)
    pub gone : AllGone does fails ways ts us
    pub once : (k : ℕ) → times k (all_numbers ways) ≤ once_below k count
    pub meter : now ≡ risen old (all_ticks ways)

-- the jobs that were answered Ok, with their outputs
abbrev pub all_done : {O : Type 0} → List (Way O) → List (ℕ × O)
all_done [] = []
all_done (g ∷ gs) = g.done ++ all_done gs

-- the numbers of these, for each token
abbrev pub all_taken : {O : Type 0} → List (Way O) → List (List ℕ)
all_taken [] = []
all_taken (g ∷ gs) = numbers_of g.done ∷ all_taken gs

-- the numbers of those that failed
abbrev pub all_failed : {O : Type 0} → List (Way O) → List ℕ
all_failed [] = []
all_failed (g ∷ gs) = g.failed ++ all_failed gs

-- the pair is in the list
abbrev pub InPairs : {O : Type 0} → ℕ → O → List (ℕ × O) → Type 0
InPairs k o [] = ⊥
InPairs k o (x ∷ xs) = ((x.0 ≡ k) × (x.1 ≡ o)) ⊎ InPairs k o xs
