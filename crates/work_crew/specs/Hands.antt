-- What the passes of one deque have put and taken, and the rule over them: each job that is put is taken at most once.
use Rattle.std.specs.Prelude.{◌≡◌, ℕ, ◌+◌, ◌≤◌, List, [], ◌∷◌, ◌++◌, Bool, true, false}
use Rattle.work_crew.specs.declared.deque.Hand.{Hand}
use Rattle.work_crew.specs.Times.{times}

abbrev pub hand : Bool → List ℕ → List ℕ → Hand
hand fixed put taken = record { fixed = fixed; put = put; taken = taken }

-- how often all of them have taken the job
abbrev pub total : ℕ → List Hand → ℕ
total k [] = 0
total k (v ∷ vs) = times k v.taken + total k vs

-- the owner's hand, which is the first
abbrev pub owner_of : List Hand → Hand
owner_of [] = hand false [] []
owner_of (v ∷ vs) = v

-- a hand that is fixed has all jobs that the owner put, and the owner puts no more
abbrev pub Knows : Hand → Hand → Type 0
Knows owner v = v.fixed ≡ true → (owner.fixed ≡ true) × (v.put ≡ owner.put)

abbrev pub AllKnow : Hand → List Hand → Type 0
AllKnow owner [] = Unit {0}
AllKnow owner (v ∷ vs) = Knows owner v × AllKnow owner vs

-- what was taken and what is left is what the owner put
pub record AtMostOnce (items : List ℕ) (views : List Hand) : Type 0 where
  pub counted : (k : ℕ) → total k views + times k items ≡ times k (owner_of views).put
  pub known : AllKnow (owner_of views) views

-- these jobs were taken, and a hand that is fixed had them among those that were put
pub record Took (v : Hand) (xs : List ℕ) (w : Hand) : Type 0 where
  pub after : w ≡ hand v.fixed v.put (v.taken ++ xs)
  pub among : v.fixed ≡ true → (k : ℕ) → times k xs ≤ times k v.put

-- no more is put, and what was put is below count
pub record IsBelow (count : ℕ) (fixed : Bool) (put : List ℕ) : Type 0 where
  pub is_fixed : fixed ≡ true
  pub below : (k : ℕ) → count ≤ k → times k put ≡ 0
