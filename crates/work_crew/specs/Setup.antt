-- What a crew begins with: deques with the jobs, passes of them, and workers that have done nothing.
use Rattle.std.specs.Prelude.{◌≡◌, ℕ, suc, ◌≤◌, List, [], ◌∷◌, true, length, replicate, None}
use Rattle.std.specs.Vec.{vec_capacity}
use Rattle.std.proofs.Common.{Global, Vec}
use Rattle.crossbeam_deque.specs.Handles.{view, IsPassOf, stealer_deque, worker_deque, worker_flavor, worker_port, worker_view, SameWorker}
use Rattle.work_crew.specs.declared.seat.Seat.{Seat}
use Rattle.work_crew.specs.declared.seat.Worked.{Worked}
use Rattle.work_crew.specs.declared.setup.Room.{Room}
use Rattle.work_crew.specs.Times.{every}
use Rattle.work_crew.specs.Hands.{hand}
use Rattle.work_crew.specs.Reach.{Owner, Thief, Note}

-- the owner of a deque on which these jobs lie, of which none was taken
pub record IsDealt (jobs : List ℕ) (o : Owner) : Type 0 where
  pub port : worker_port o ≡ 0
  pub flavor : worker_flavor o ≡ 0
  pub put : (worker_view o).put ≡ jobs
  pub none_taken : (worker_view o).taken ≡ []

-- the jobs below count are dealt out, one to each owner in turn
abbrev pub AreDealt : ℕ → ℕ → ℕ → List Owner → Type 0
AreDealt first step count [] = Unit {0}
AreDealt first step count (o ∷ os) = IsDealt (every first step count) o × AreDealt (suc first) step count os

-- no more is put on any of the deques
abbrev pub AllFixed : List Owner → Type 0
AllFixed [] = Unit {0}
AllFixed (o ∷ os) = ((worker_view o).fixed ≡ true) × AllFixed os

-- the same deques, each as its owner and as other workers see it
abbrev pub AreThieves : List Owner → List Thief → Type 0
AreThieves [] [] = Unit {0}
AreThieves (o ∷ os) (s ∷ ss) = (stealer_deque s ≡ worker_deque o) × AreThieves os ss
AreThieves os ss = ⊥

-- the same owner, who has put and taken the same jobs
pub record KeepsOwner (o p : Owner) : Type 0 where
  pub same : SameWorker o p
  pub put : (worker_view p).put ≡ (worker_view o).put
  pub taken : (worker_view p).taken ≡ (worker_view o).taken

abbrev pub KeepsOwners : List Owner → List Owner → Type 0
KeepsOwners [] [] = Unit {0}
KeepsOwners (o ∷ os) (p ∷ ps) = KeepsOwner o p × KeepsOwners os ps
KeepsOwners os ps = ⊥

-- a pass of the owner's deque, which has all jobs that were put, and with which none was taken
pub record IsNoted (o : Owner) (n : Note) : Type 0 where
  pub pass : IsPassOf (worker_deque o) n
  pub view_is : view n ≡ hand true (worker_view o).put []

abbrev pub AreNoted : List Owner → List Note → Type 0
AreNoted [] [] = Unit {0}
AreNoted (o ∷ os) (n ∷ ns) = IsNoted o n × AreNoted os ns
AreNoted os ns = ⊥

-- the passes of each worker are such passes of all deques
abbrev pub AllNoted : List Owner → List (Vec Note Global) → Type 0
AllNoted os [] = Unit {0}
AllNoted os (r ∷ rs) = AreNoted os r.items × AllNoted os rs

-- workers that have done nothing
abbrev pub AllIdle : {O : Type 0} → List (Worked O) → Type 0
AllIdle [] = Unit {0}
AllIdle (w ∷ ws) = (w.taken.items ≡ []) × (w.done.items ≡ []) × AllIdle ws

module _ {O L : Type 0} where
  -- the workers, numbered from j: each has a deque, its passes, and a part of the meter
  abbrev pub seats_of : ℕ → List Owner → List (Vec Note Global) → List (Worked O) → List (Seat O L)
  seats_of j (o ∷ os) (r ∷ rs) (w ∷ ws) = record { reach = record { number = j; owner = o; notes = r }; worked = w; meter = 0 } ∷ seats_of (suc j) os rs ws
  seats_of j os rs ws = []

  -- all that a crew needs
  pub record IsSetUp (workers count : ℕ) (room : Room O L) : Type 0 where
    pub owners : List Owner
    pub rows : List (Vec Note Global)
    pub works : List (Worked O)
    pub seats : room.seats.items ≡ seats_of 0 owners rows works
    pub dealt : AreDealt 0 workers count owners
    pub fixed : AllFixed owners
    pub noted : AllNoted owners rows
    pub thieves : AreThieves owners room.thieves.items
    pub idle : AllIdle works
    pub owners_len : length owners ≡ workers
    pub rows_len : length rows ≡ workers
    pub works_len : length works ≡ workers
    pub places : room.places.items ≡ replicate count None
    pub lists : (room.lists.items ≡ []) × (workers ≤ vec_capacity room.lists)
    pub items : (room.items.items ≡ []) × (count ≤ vec_capacity room.items)
    pub owners_left : (room.owners.items ≡ []) × (workers ≤ vec_capacity room.owners)
    pub rows_left : (room.rows.items ≡ []) × (workers ≤ vec_capacity room.rows)
