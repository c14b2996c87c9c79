-- Owners and passes, from the back.
use Rattle.std.proofs.Common.{Global, Vec, ◌≡◌, ℕ, suc, ◌+◌, List, [], ◌∷◌, ◌++◌, length, refl, sym, ap, ◌∙◌, subst, arith}
use Rattle.crossbeam_deque.specs.Handles.{Pass, view, IsPassOf, worker_deque, worker_port, worker_view}
use Rattle.crossbeam_deque.specs.declared.handles.Worker.{Worker}
use Rattle.work_crew.specs.declared.deque.Hand.{Hand}
use Rattle.work_crew.specs.Times.{times}
use Rattle.work_crew.specs.Reach.{tally}
use Rattle.work_crew.specs.Settle.{Owned, AllOwned, SameOwners, AllFirst, taken_by, put_by, tallies}

module _ {T A P : Type 0} where
  pub owned_snoc : (os : List (Worker T A Hand P)) (ns : List (Pass T Hand A)) (o : Worker T A Hand P) (n : Pass T Hand A) → Owned (os ++ o ∷ []) (ns ++ n ∷ []) → Owned os ns × (worker_port o ≡ 0) × IsPassOf (worker_deque o) n
  owned_snoc [] [] o n h = (tt, h.0, h.1)
  owned_snoc (x ∷ os) (y ∷ ns) o n h = let r = owned_snoc os ns o n h.2 in ((h.0, h.1, r.0), r.1, r.2)
  owned_snoc [] (y ∷ []) o n h = absurd h.2
  owned_snoc [] (y ∷ z ∷ ns) o n h = absurd h.2
  owned_snoc (x ∷ []) [] o n h = absurd h.2
  owned_snoc (x ∷ z ∷ os) [] o n h = absurd h.2

  pub same_refl : (os : List (Worker T A Hand P)) → SameOwners os os
  same_refl [] = tt
  same_refl (o ∷ os) = (refl, refl, refl, same_refl os)

  pub same_snoc : (os ps : List (Worker T A Hand P)) (o p : Worker T A Hand P) → SameOwners os ps → worker_deque p ≡ worker_deque o → worker_port p ≡ worker_port o → (worker_view p).put ≡ (worker_view o).put → SameOwners (os ++ o ∷ []) (ps ++ p ∷ [])
  same_snoc [] [] o p h a b c = (a, b, c, tt)
  same_snoc (x ∷ os) (y ∷ ps) o p h a b c = (h.0, h.1, h.2, same_snoc os ps o p h.3 a b c)
  same_snoc [] (y ∷ ps) o p h a b c = absurd h
  same_snoc (x ∷ os) [] o p h a b c = absurd h

  pub same_length : (os ps : List (Worker T A Hand P)) → SameOwners os ps → length ps ≡ length os
  same_length [] [] h = refl
  same_length (x ∷ os) (y ∷ ps) h = ap suc (same_length os ps h.3)
  same_length [] (y ∷ ps) h = absurd h
  same_length (x ∷ os) [] h = absurd h

  pub taken_snoc : (k : ℕ) (os : List (Worker T A Hand P)) (o : Worker T A Hand P) → taken_by k (os ++ o ∷ []) ≡ taken_by k os + times k (worker_view o).taken
  taken_snoc k [] o = omega arith
  taken_snoc k (x ∷ os) o = let e = taken_snoc k os o in omega arith

  pub put_snoc : (k : ℕ) (os : List (Worker T A Hand P)) (o : Worker T A Hand P) → put_by k (os ++ o ∷ []) ≡ put_by k os + times k (worker_view o).put
  put_snoc k [] o = omega arith
  put_snoc k (x ∷ os) o = let e = put_snoc k os o in omega arith

  pub first_snoc : (os : List (Worker T A Hand P)) (o : Worker T A Hand P) → AllFirst (os ++ o ∷ []) → AllFirst os × (worker_port o ≡ 0)
  first_snoc [] o h = (tt, h.0)
  first_snoc (x ∷ os) o h = let r = first_snoc os o h.1 in ((h.0, r.0), r.1)

pub tally_snoc : {T A : Type 0} (k : ℕ) (ns : List (Pass T Hand A)) (n : Pass T Hand A) → tally k (ns ++ n ∷ []) ≡ tally k ns + times k (view n).taken
tally_snoc k [] n = omega arith
tally_snoc k (x ∷ ns) n = let e = tally_snoc k ns n in omega arith

module _ {T A P : Type 0} where
  pub put_same : (k : ℕ) (os ps : List (Worker T A Hand P)) → SameOwners os ps → put_by k ps ≡ put_by k os
  put_same k [] [] h = refl
  put_same k (o ∷ os) (p ∷ ps) h = let e = ap (times k) h.2 in let i = put_same k os ps h.3 in omega arith
  put_same k [] (p ∷ ps) h = absurd h
  put_same k (o ∷ os) [] h = absurd h

  pub first_same : (os ps : List (Worker T A Hand P)) → SameOwners os ps → AllFirst os → AllFirst ps
  first_same [] [] h f = tt
  first_same (o ∷ os) (p ∷ ps) h f = (h.1 ∙ f.0, first_same os ps h.3 f.1)
  first_same [] (p ∷ ps) h f = absurd h
  first_same (o ∷ os) [] h f = absurd h

  pub owned_same : (os ps : List (Worker T A Hand P)) (ns : List (Pass T Hand A)) → SameOwners os ps → Owned os ns → Owned ps ns
  owned_same [] [] ns h f = f
  owned_same (o ∷ os) (p ∷ ps) [] h f = absurd f
  owned_same (o ∷ os) (p ∷ ps) (n ∷ ns) h f = (h.1 ∙ f.0, subst (λ d. IsPassOf d n) (sym h.0) f.1, owned_same os ps ns h.3 f.2)
  owned_same [] (p ∷ ps) ns h f = absurd h
  owned_same (o ∷ os) [] ns h f = absurd h

  pub rows_same : (os ps : List (Worker T A Hand P)) (rs : List (Vec (Pass T Hand A) Global)) → SameOwners os ps → AllOwned os rs → AllOwned ps rs
  rows_same os ps [] h f = tt
  rows_same os ps (r ∷ rs) h f = (owned_same os ps r.items h f.0, rows_same os ps rs h f.1)

  pub rows_snoc : (os : List (Worker T A Hand P)) (rs : List (Vec (Pass T Hand A) Global)) (r : Vec (Pass T Hand A) Global) → AllOwned os (rs ++ r ∷ []) → AllOwned os rs × Owned os r.items
  rows_snoc os [] r h = (tt, h.0)
  rows_snoc os (x ∷ rs) r h = let i = rows_snoc os rs r h.1 in ((h.0, i.0), i.1)

pub tallies_snoc : {T A : Type 0} (k : ℕ) (rs : List (Vec (Pass T Hand A) Global)) (r : Vec (Pass T Hand A) Global) → tallies k (rs ++ r ∷ []) ≡ tallies k rs + tally k r.items
tallies_snoc k [] r = omega arith
tallies_snoc k (x ∷ rs) r = let i = tallies_snoc k rs r in omega arith

module _ {T A P : Type 0} where
  pub same_trans : (os ps qs : List (Worker T A Hand P)) → SameOwners os ps → SameOwners ps qs → SameOwners os qs
  same_trans [] [] [] h i = tt
  same_trans (o ∷ os) (p ∷ ps) (q ∷ qs) h i = (i.0 ∙ h.0, i.1 ∙ h.1, i.2 ∙ h.2, same_trans os ps qs h.3 i.3)
  same_trans [] [] (q ∷ qs) h i = absurd i
  same_trans [] (p ∷ ps) qs h i = absurd h
  same_trans (o ∷ os) [] qs h i = absurd h
  same_trans (o ∷ os) (p ∷ ps) [] h i = absurd i
