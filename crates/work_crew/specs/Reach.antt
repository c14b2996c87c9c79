-- What a worker reaches of the deques: its own, and a pass of each.
use Rattle.std.specs.Prelude.{◌≡◌, ℕ, ◌+◌, ◌<◌, ◌≤◌, List, [], ◌∷◌, length, Bool}
use Rattle.std.proofs.Common.{Global}
use Rattle.crossbeam_deque.specs.Handles.{Pass, view, IsPassOf, stealer_deque, worker_flavor, worker_view, SameWorker}
use Rattle.crossbeam_deque.specs.declared.handles.Stealer.{Stealer}
use Rattle.crossbeam_deque.specs.declared.handles.Worker.{Worker}
use Rattle.work_crew.specs.declared.deque.Hand.{Hand}
use Rattle.work_crew.specs.declared.deque.Once.{Once}
use Rattle.work_crew.specs.declared.reach.Reach.{Reach}
use Rattle.work_crew.specs.Times.{hit, times}
use Rattle.work_crew.specs.Hands.{IsBelow}

-- the end of a deque that one worker has
abbrev pub Owner : Type 0
Owner = Worker ℕ Global Hand Once

-- a deque as other workers see it
abbrev pub Thief : Type 0
Thief = Stealer ℕ Global Hand Once

-- what a worker carries for a deque
abbrev pub Note : Type 0
Note = Pass ℕ Hand Global

-- each pass is of the deque at its place
abbrev pub Paired : {T A V P : Type 0} → List (Stealer T A V P) → List (Pass T V A) → Type 0
Paired [] [] = Unit {0}
Paired (s ∷ ss) (n ∷ ns) = IsPassOf (stealer_deque s) n × Paired ss ns
Paired ss ns = ⊥

-- how often the job was taken with the passes
abbrev pub tally : {T A : Type 0} → ℕ → List (Pass T Hand A) → ℕ
tally k [] = 0
tally k (n ∷ ns) = times k (view n).taken + tally k ns

-- no job more was taken with the passes
abbrev pub TakesNone : {T A : Type 0} → List (Pass T Hand A) → List (Pass T Hand A) → Type 0
TakesNone old new = (k : ℕ) → tally k new ≡ tally k old

-- this job was taken with the passes, once, and no other
abbrev pub TakesOne : {T A : Type 0} → List (Pass T Hand A) → List (Pass T Hand A) → ℕ → Type 0
TakesOne old new x = (k : ℕ) → tally k new ≡ tally k old + hit x k

-- of each deque, whether no more is put, and what was put
abbrev pub puts_of : {T A : Type 0} → List (Pass T Hand A) → List (Bool × List ℕ)
puts_of [] = []
puts_of (n ∷ ns) = ((view n).fixed, (view n).put) ∷ puts_of ns

-- on none of the deques more is put, and what was put is below count
abbrev pub AreBelow : ℕ → List (Bool × List ℕ) → Type 0
AreBelow count [] = Unit {0}
AreBelow count (p ∷ ps) = IsBelow count p.0 p.1 × AreBelow count ps

-- how often the worker has taken the job
abbrev pub took : ℕ → Reach → ℕ
took k r = times k (worker_view r.owner).taken + tally k r.notes.items

-- no more is put on any deque, and what was put is below count
abbrev pub IsReachBelow : ℕ → Reach → Type 0
IsReachBelow count r = IsBelow count (worker_view r.owner).fixed (worker_view r.owner).put × AreBelow count (puts_of r.notes.items)

-- a worker that may take jobs of its own deque and of all others
pub record CanTake (thieves : List Thief) (r : Reach) : Type 0 where
  pub number : r.number < length thieves
  pub few : length thieves ≤ 64
  pub flavor : worker_flavor r.owner ≡ 0
  pub paired : Paired thieves r.notes.items

-- the same worker with the same deques, on which the same jobs were put
pub record SameReach (r s : Reach) : Type 0 where
  pub number : s.number ≡ r.number
  pub owner : SameWorker r.owner s.owner
  pub fixed : (worker_view s.owner).fixed ≡ (worker_view r.owner).fixed
  pub put : (worker_view s.owner).put ≡ (worker_view r.owner).put
  pub notes : puts_of s.notes.items ≡ puts_of r.notes.items
