-- How often numbers stand in lists.
use Rattle.std.proofs.Common.{◌≡◌, ◌≢◌, ◌⊎◌, inl, inr, ℕ, zero, suc, ◌+◌, ◌%◌, ◌<◌, ◌≤◌, List, [], ◌∷◌, ◌++◌, true, false, nat_eq, nat_lt, refl, sym, ap, ◌∙◌, subst, arith}
use Rattle.std.proofs.Math.Nat.{add-mod_right}
use Rattle.std.proofs.lemmas.Bool.Decides.{nat_tests}
use Rattle.work_crew.specs.Times.{hit, times, once_below, every_in, every}

pub eq_one : (a b : ℕ) → a ≡ b → hit a b ≡ 1
eq_one a b h = rw (is a b h) refl
  where
    is : (a b : ℕ) → a ≡ b → nat_eq a b ≡ true
    is a b h = grind (arith, nat_tests)

pub ne_none : (a b : ℕ) → a ≢ b → hit a b ≡ 0
ne_none a b h = rw (is a b h) refl
  where
    is : (a b : ℕ) → a ≢ b → nat_eq a b ≡ false
    is a b h = grind (arith, nat_tests)

nat_lt_is : (a b : ℕ) → a < b → nat_lt a b ≡ true
nat_lt_is a b h = grind (arith, nat_tests)

nat_lt_not : (a b : ℕ) → b ≤ a → nat_lt a b ≡ false
nat_lt_not a b h = grind (arith, nat_tests)

pub lt_once : (k count : ℕ) → k < count → once_below k count ≡ 1
lt_once k count h = rw (nat_lt_is k count h) refl

pub ge_none : (k count : ℕ) → count ≤ k → once_below k count ≡ 0
ge_none k count h = rw (nat_lt_not k count h) refl

pub same_or : (a b : ℕ) → (a ≡ b) ⊎ (a ≢ b)
same_or zero zero = inl refl
same_or zero (suc b) = inr (λ e. omega arith)
same_or (suc a) zero = inr (λ e. omega arith)
same_or (suc a) (suc b) = up (same_or a b)
  where
    up : (a ≡ b) ⊎ (a ≢ b) → (suc a ≡ suc b) ⊎ (suc a ≢ suc b)
    up (inl e) = inl (ap suc e)
    up (inr n) = inr (λ e. n (omega arith))

pub below_or : (a b : ℕ) → (a < b) ⊎ (b ≤ a)
below_or zero zero = inr (omega arith)
below_or zero (suc b) = inl (omega arith)
below_or (suc a) zero = inr (omega arith)
below_or (suc a) (suc b) = up (below_or a b)
  where
    up : (a < b) ⊎ (b ≤ a) → (suc a < suc b) ⊎ (suc b ≤ suc a)
    up (inl e) = inl (omega arith)
    up (inr e) = inr (omega arith)

pub zero_or : (n : ℕ) → (n ≡ 0) ⊎ (1 ≤ n)
zero_or zero = inl refl
zero_or (suc n) = inr (omega arith)

pub times_append : (k : ℕ) (xs ys : List ℕ) → times k (xs ++ ys) ≡ times k xs + times k ys
times_append k [] ys = omega arith
times_append k (x ∷ xs) ys = let e = times_append k xs ys in omega arith

pub every_step : (fuel next step count : ℕ) → next < count → every_in (suc fuel) next step count ≡ next ∷ every_in fuel (next + step) step count
every_step fuel next step count l = rw (nat_lt_is next count l) refl

pub every_end : (fuel next step count : ℕ) → count ≤ next → every_in fuel next step count ≡ []
every_end zero next step count l = refl
every_end (suc fuel) next step count l = rw (nat_lt_not next count l) refl

-- of the numbers first, first + step and so on, each stands at most once, is below count, and is at one place of each step
pub every_facts : (fuel first step count k : ℕ) → 0 < step → (times k (every_in fuel first step count) ≤ once_below k count) × (1 ≤ times k (every_in fuel first step count) → (first ≤ k) × (k % step ≡ first % step))
every_facts zero first step count k some = (omega arith, λ h. absurd (omega arith))
every_facts (suc f) first step count k some = by_end (every_facts f (first + step) step count k some) (below_or first count)
  where
    Facts : List ℕ → Type 0
    Facts xs = (times k xs ≤ once_below k count) × (1 ≤ times k xs → (first ≤ k) × (k % step ≡ first % step))

    Later : Type 0
    Later = (times k (every_in f (first + step) step count) ≤ once_below k count) × (1 ≤ times k (every_in f (first + step) step count) → (first + step ≤ k) × (k % step ≡ (first + step) % step))

    by_same : Later → first < count → (first ≡ k) ⊎ (first ≢ k) → Facts (first ∷ every_in f (first + step) step count)
    by_same r l (inl e) =
        let one = eq_one first k e in
        let b = lt_once k count (omega arith) in
        let none : times k (every_in f (first + step) step count) ≡ 0 = at_none (times k (every_in f (first + step) step count)) (λ h. let q = (r.1 h).0 in omega arith) in
        (omega arith, λ h. (omega arith, ap (λ a. a % step) (sym e)))
      where
        at_none : (n : ℕ) → (1 ≤ n → ⊥) → n ≡ 0
        at_none zero h = refl
        at_none (suc n) h = absurd (h (omega arith))
    by_same r l (inr n) =
        let none = ne_none first k n in
        (let p = r.0 in omega arith, λ h. let q = r.1 (omega arith) in (let a = q.0 in omega arith, q.1 ∙ add-mod_right first step))

    by_end : Later → (first < count) ⊎ (count ≤ first) → Facts (every_in (suc f) first step count)
    by_end r (inl l) = subst Facts (sym (every_step f first step count l)) (by_same r l (same_or first k))
    by_end r (inr e) = subst Facts (sym (every_end (suc f) first step count e)) (omega arith, λ h. absurd (omega arith))

-- none of them is at or above count
pub every_below : (first step count k : ℕ) → 0 < step → count ≤ k → times k (every first step count) ≡ 0
every_below first step count k some l =
    let a = (every_facts count first step count k some).0 in
    let b = ge_none k count l in
    omega arith
