-- What a worker needs, and what it leaves.
use Rattle.std.specs.Prelude.{◌≡◌, ℕ, ◌<◌, List, []}
use Rattle.work_crew.specs.declared.seat.Seat.{Seat}
use Rattle.work_crew.specs.Reach.{Thief, CanTake, SameReach, IsReachBelow, took}
use Rattle.work_crew.specs.Along.{AllFit, numbers_of}
use Rattle.work_crew.specs.Turns.{WentThrough}

module _ {J O T L : Type 0} where
  -- a worker that has done nothing may take jobs of these deques; each number that was put there is a job
  pub record MayWork (is_job : J → ℕ → Type 0) (token_fits : J → T → Type 0) (jobs : J) (thieves : List Thief) (s : Seat O L) (t : T) : Type 0 where
    pub count : ℕ
    pub jobs_are : (k : ℕ) → k < count → is_job jobs k
    pub below : IsReachBelow count s.reach
    pub can : CanTake thieves s.reach
    pub token : token_fits jobs t
    pub none_taken : s.worked.taken.items ≡ []
    pub none_done : s.worked.done.items ≡ []

  -- the worker went through just the jobs that it took, and the last of them may have failed
  pub record HasWorked (token_fits : J → T → Type 0) (output_fits : J → ℕ → O → Type 0) (does : J → ℕ → O → T → T → ℕ → Type 0) (fails : J → ℕ → T → T → ℕ → Type 0) (jobs : J) (thieves : List Thief) (s w : Seat O L) (t u : T) : Type 0 where
    pub token : token_fits jobs u
    pub taken : w.worked.taken.items ≡ numbers_of w.worked.done.items
    pub fit : AllFit (output_fits jobs) w.worked.done.items
    pub can : CanTake thieves w.reach
    pub same : SameReach s.reach w.reach
    pub went : WentThrough (does jobs) (fails jobs) w.worked.done.items t u s.meter w.meter (λ k. took k s.reach) (λ k. took k w.reach)
