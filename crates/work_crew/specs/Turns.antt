-- What a worker does that takes jobs from deques.
use Rattle.std.specs.Prelude.{◌≡◌, ℕ, ◌+◌, List, ◌++◌}
use Rattle.rtl_bits.specs.Counts.{risen}
use Rattle.work_crew.specs.Times.{times}
use Rattle.work_crew.specs.Along.{Along, Ran, AllFit, numbers_of}

module _ {O T : Type 0} where
  -- a worker on its way: what it did since it began. Before and after say how often it has taken each job
  pub record OnItsWay (does : ℕ → O → T → T → ℕ → Type 0) (token_fits : T → Type 0) (output_fits : ℕ → O → Type 0) (done : List (ℕ × O)) (t u : T) (old now : ℕ) (before after : ℕ → ℕ) : Type 0 where
    pub ticks : ℕ
    pub meter : now ≡ risen old ticks
    pub along : Along does done t u ticks
    pub token : token_fits u
    pub outputs : AllFit output_fits done
    pub numbers : (k : ℕ) → before k + times k (numbers_of done) ≡ after k

  -- a worker that stopped: what it went through is just what it took
  pub record WentThrough (does : ℕ → O → T → T → ℕ → Type 0) (fails : ℕ → T → T → ℕ → Type 0) (done : List (ℕ × O)) (t u : T) (old now : ℕ) (before after : ℕ → ℕ) : Type 0 where
    pub ticks : ℕ
    pub failed : List ℕ
    pub meter : now ≡ risen old ticks
    pub ran : Ran does fails done failed t u ticks
    pub numbers : (k : ℕ) → before k + times k (numbers_of done ++ failed) ≡ after k
