-- In how many places the jobs of a crew are, as its lists change.
use Rattle.std.proofs.Common.{◌≡◌, ◌≢◌, ◌⊎◌, inl, inr, ℕ, zero, suc, ◌+◌, ◌<◌, ◌≤◌, List, [], ◌∷◌, ◌++◌, length, set, slice_get, Option, Some, None, refl, sym, ap, ◌∙◌, arith}
use Rattle.std.specs.Prelude.{replicate}
use Rattle.work_crew.specs.Times.{hit, times}
use Rattle.work_crew.proofs.Counting.{same_or, eq_one, ne_none}
use Rattle.desk_core.specs.Crew.{Hand, empty, Event, push, pop, steal, claim, look, fill, give_back, stop}
use Rattle.desk_core.specs.CrewRuns.{AllPutOthers, pushes, in_deques, in_hand, in_hands, done}

module _ {A : Type 0} where
  pub set_same : (xs : List A) (at : ℕ) (x y : A) → slice_get xs at ≡ Some y → slice_get (set xs at x) at ≡ Some x
  set_same [] at x y h = absurd (let no : None ≡ Some y = h in cc)
  set_same (z ∷ xs) zero x y h = refl
  set_same (z ∷ xs) (suc at) x y h = set_same xs at x y h

  pub set_other : (xs : List A) (at k : ℕ) (x : A) → k ≢ at → slice_get (set xs at x) k ≡ slice_get xs k
  set_other [] at k x ne = refl
  set_other (y ∷ xs) zero zero x ne = absurd (ne refl)
  set_other (y ∷ xs) zero (suc k) x ne = refl
  set_other (y ∷ xs) (suc at) zero x ne = refl
  set_other (y ∷ xs) (suc at) (suc k) x ne = set_other xs at k x (λ e. ne (ap suc e))

  -- what stands at a place after one was put there: that one, or what stood there
  pub set_either : (xs : List A) (at k : ℕ) (x y z : A) → slice_get xs at ≡ Some y → slice_get (set xs at x) k ≡ Some z → ((k ≡ at) × (z ≡ x)) ⊎ ((k ≢ at) × (slice_get xs k ≡ Some z))
  set_either xs at k x y z had is = by (same_or k at)
    where
      by : (k ≡ at) ⊎ (k ≢ at) → ((k ≡ at) × (z ≡ x)) ⊎ ((k ≢ at) × (slice_get xs k ≡ Some z))
      by (inl e) =
          let both : Some z ≡ Some x = sym is ∙ ap (slice_get (set xs at x)) e ∙ set_same xs at x y had in
          inl (e, (let q : z ≡ x = cc in q))
      by (inr ne) = inr (ne, sym (set_other xs at k x ne) ∙ is)

-- one deque becomes another
pub in_deques-set : (k : ℕ) (ds : List (List ℕ)) (u : ℕ) (old new : List ℕ) → slice_get ds u ≡ Some old → in_deques k (set ds u new) + times k old ≡ in_deques k ds + times k new
in_deques-set k [] u old new h = absurd (let no : None ≡ Some old = h in cc)
in_deques-set k (d ∷ ds) zero old new h = let e : d ≡ old = cc in let f = ap (times k) e in omega (arith, f)
in_deques-set k (d ∷ ds) (suc u) old new h = let e = in_deques-set k ds u old new h in omega (arith, e)

-- one hand becomes another
pub in_hands-set : (k : ℕ) (hs : List Hand) (w : ℕ) (old new : Hand) → slice_get hs w ≡ Some old → in_hands k (set hs w new) + in_hand k old ≡ in_hands k hs + in_hand k new
in_hands-set k [] w old new h = absurd (let no : None ≡ Some old = h in cc)
in_hands-set k (x ∷ hs) zero old new h = let e : x ≡ old = cc in let f = ap (in_hand k) e in omega (arith, f)
in_hands-set k (x ∷ hs) (suc w) old new h = let e = in_hands-set k hs w old new h in omega (arith, e)

-- what is in one hand is in hands
pub in_hands-get : (k : ℕ) (hs : List Hand) (w : ℕ) (x : Hand) → slice_get hs w ≡ Some x → in_hand k x ≤ in_hands k hs
in_hands-get k [] w x h = absurd (let no : None ≡ Some x = h in cc)
in_hands-get k (y ∷ hs) zero x h = let e : y ≡ x = cc in let f = ap (in_hand k) e in omega (arith, f)
in_hands-get k (y ∷ hs) (suc w) x h = let e = in_hands-get k hs w x h in omega (arith, e)

pub times_snoc : (k : ℕ) (xs : List ℕ) (x : ℕ) → times k (xs ++ x ∷ []) ≡ times k xs + hit x k
times_snoc k [] x = omega arith
times_snoc k (y ∷ xs) x = let e = times_snoc k xs x in omega (arith, e)

-- no job is anywhere
pub none_in_deques : (k n : ℕ) → in_deques k (replicate n []) ≡ 0
none_in_deques k zero = refl
none_in_deques k (suc n) = let e = none_in_deques k n in omega (arith, e)

pub none_in_hands : (k n : ℕ) → in_hands k (replicate n empty) ≡ 0
none_in_hands k zero = refl
none_in_hands k (suc n) = let e = none_in_hands k n in omega (arith, e)

module _ {R : Type 0} where
  -- a job that was not done becomes done
  pub done-set : (k j : ℕ) (os : List (Option R)) (v : R) → j < length os → done j os ≡ 0 → done k (set os j (Some v)) ≡ done k os + hit j k
  done-set k j os v lt none = by (same_or k j)
    where
      at_same : (os : List (Option R)) (j : ℕ) → j < length os → done j (set os j (Some v)) ≡ 1
      at_same [] j lt = absurd (omega (arith, lt))
      at_same (o ∷ os) zero lt = refl
      at_same (o ∷ os) (suc j) lt = at_same os j (omega (arith, lt))

      at_other : (os : List (Option R)) (j k : ℕ) → k ≢ j → done k (set os j (Some v)) ≡ done k os
      at_other [] j k ne = refl
      at_other (o ∷ os) zero zero ne = absurd (ne refl)
      at_other (o ∷ os) zero (suc k) ne = refl
      at_other (o ∷ os) (suc j) zero ne = refl
      at_other (o ∷ os) (suc j) (suc k) ne = at_other os j k (λ e. ne (ap suc e))

      by : (k ≡ j) ⊎ (k ≢ j) → done k (set os j (Some v)) ≡ done k os + hit j k
      by (inl e) =
          let one = at_same os j lt in
          let a : done k (set os j (Some v)) ≡ 1 = ap (λ (n : ℕ). done n (set os j (Some v))) e ∙ one in
          let b : done k os ≡ 0 = ap (λ (n : ℕ). done n os) e ∙ none in
          let h = eq_one j k (sym e) in
          omega (arith, a, b, h)
      by (inr ne) = let a = at_other os j k ne in let h = ne_none j k (λ e. ne (sym e)) in omega (arith, a, h)

  -- events that put others on deques do not put this one
  pub none_put : (j : ℕ) (events : List (Event R)) → AllPutOthers j events → pushes j events ≡ 0
  none_put j [] h = refl
  none_put j (push w i ∷ events) h = let a = ne_none i j h.0 in let b = none_put j events h.1 in omega (arith, a, b)
  none_put j (pop w ∷ events) h = absurd h.0
  none_put j (steal w u ∷ events) h = absurd h.0
  none_put j (claim w ∷ events) h = absurd h.0
  none_put j (look w ∷ events) h = absurd h.0
  none_put j (fill w v ∷ events) h = absurd h.0
  none_put j (give_back w ∷ events) h = absurd h.0
  none_put j (stop w ∷ events) h = absurd h.0

pub none_done : (R : Type 0) (k n : ℕ) → done {R = R} k (replicate n None) ≡ 0
none_done R zero zero = refl
none_done R (suc k) zero = refl
none_done R zero (suc n) = refl
none_done R (suc k) (suc n) = none_done R k n
