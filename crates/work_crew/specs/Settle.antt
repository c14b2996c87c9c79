-- The deques of all workers, and what their owners know once all passes have ended.
use Rattle.std.specs.Prelude.{◌≡◌, ℕ, ◌+◌, List, [], ◌∷◌}
use Rattle.std.proofs.Common.{Global, Vec}
use Rattle.crossbeam_deque.specs.Handles.{Pass, IsPassOf, worker_deque, worker_port, worker_view}
use Rattle.crossbeam_deque.specs.declared.handles.Worker.{Worker}
use Rattle.work_crew.specs.declared.deque.Hand.{Hand}
use Rattle.work_crew.specs.Times.{times}
use Rattle.work_crew.specs.Reach.{tally}

module _ {T A P : Type 0} where
  -- each pass is of the deque at its place, whose owner has the first port
  abbrev pub Owned : List (Worker T A Hand P) → List (Pass T Hand A) → Type 0
  Owned [] [] = Unit {0}
  Owned (o ∷ os) (n ∷ ns) = (worker_port o ≡ 0) × IsPassOf (worker_deque o) n × Owned os ns
  Owned os ns = ⊥

  -- the passes of each worker are of these deques
  abbrev pub AllOwned : List (Worker T A Hand P) → List (Vec (Pass T Hand A) Global) → Type 0
  AllOwned os [] = Unit {0}
  AllOwned os (r ∷ rs) = Owned os r.items × AllOwned os rs

  -- how often the owners have taken the job
  abbrev pub taken_by : ℕ → List (Worker T A Hand P) → ℕ
  taken_by k [] = 0
  taken_by k (o ∷ os) = times k (worker_view o).taken + taken_by k os

  -- how often the owners have put the job
  abbrev pub put_by : ℕ → List (Worker T A Hand P) → ℕ
  put_by k [] = 0
  put_by k (o ∷ os) = times k (worker_view o).put + put_by k os

  -- the same deques, on which the same jobs were put
  abbrev pub SameOwners : List (Worker T A Hand P) → List (Worker T A Hand P) → Type 0
  SameOwners [] [] = Unit {0}
  SameOwners (o ∷ os) (p ∷ ps) = (worker_deque p ≡ worker_deque o) × (worker_port p ≡ worker_port o) × ((worker_view p).put ≡ (worker_view o).put) × SameOwners os ps
  SameOwners os ps = ⊥

  -- each owner has the first port
  abbrev pub AllFirst : List (Worker T A Hand P) → Type 0
  AllFirst [] = Unit {0}
  AllFirst (o ∷ os) = (worker_port o ≡ 0) × AllFirst os

-- how often the job was taken with the passes of all workers
abbrev pub tallies : {T A : Type 0} → ℕ → List (Vec (Pass T Hand A) Global) → ℕ
tallies k [] = 0
tallies k (r ∷ rs) = tally k r.items + tallies k rs
