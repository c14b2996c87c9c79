-- The one of some places that passes a test.
use Rattle.std.proofs.Common.{◌≡◌, ℕ, zero, suc, ◌+◌, ◌<◌, Bool, true, false, List, [], ◌∷◌, length, get_or, drop, Option, Some, None, refl, sym, ◌∙◌, ap, arith, add-one, zero-add, cond}
use Rattle.std.specs.Prelude.{if◌then◌else◌, ◌==◌, count_by, find}
use Rattle.std.specs.Option.{is_some}
use Rattle.std.proofs.lemmas.Bool.{true≢false, false≢true, eqb-true}
use Rattle.std.proofs.lemmas.List.Sums.{sum_by-cons}
use Rattle.std.proofs.Math.Seq.{drop-cons}

-- the next item and those behind it
pub front : {A : Type 0} (xs : List A) (i : ℕ) (d : A) → i < length xs → drop i xs ≡ get_or xs i d ∷ drop (i + 1) xs
front xs i d h = drop-cons xs i d h ∙ ap (λ n. get_or xs i d ∷ drop n xs) (sym (add-one i))

-- the one of these that passes, where this was found before
abbrev pub only : {A : Type 0} → (A → Bool) → Option A → List A → Option A
only f found [] = found
only f None (x ∷ xs) = if f x then only f (Some x) xs else only f None xs
only f (Some y) (x ∷ xs) = if f x then None else only f (Some y) xs

pub first_passes : {A : Type 0} (f : A → Bool) (found : Option A) (x : A) (xs : List A) → f x ≡ true → is_some found ≡ false → only f found (x ∷ xs) ≡ only f (Some x) xs
first_passes f None x xs e none = rw e refl
first_passes f (Some y) x xs e none = absurd (true≢false none)

pub second_passes : {A : Type 0} (f : A → Bool) (found : Option A) (x : A) (xs : List A) → f x ≡ true → is_some found ≡ true → only f found (x ∷ xs) ≡ None
second_passes f None x xs e some = absurd (false≢true some)
second_passes f (Some y) x xs e some = rw e refl

pub passes_not : {A : Type 0} (f : A → Bool) (found : Option A) (x : A) (xs : List A) → f x ≡ false → only f found (x ∷ xs) ≡ only f found xs
passes_not f None x xs e = rw e refl
passes_not f (Some y) x xs e = rw e refl

one_more : (n : ℕ) → ((1 + n) == 1) ≡ (n == 0)
one_more zero = refl
one_more (suc n) = by ((1 + suc n) == 1) (suc n == 0) refl refl
  where
    by : (s t : Bool) → ((1 + suc n) == 1) ≡ s → (suc n == 0) ≡ t → s ≡ t
    by false false e f = refl
    by true t e f = absurd (let h : 1 + suc n ≡ 1 = eqb-true (1 + suc n) 1 e in omega arith)
    by false true e f = absurd (let h : suc n ≡ 0 = eqb-true (suc n) 0 f in omega arith)

none_more : (n : ℕ) → ((1 + n) == 0) ≡ false
none_more n = by ((1 + n) == 0) refl
  where
    by : (s : Bool) → ((1 + n) == 0) ≡ s → s ≡ false
    by false e = refl
    by true e = absurd (let h : 1 + n ≡ 0 = eqb-true (1 + n) 0 e in omega arith)

no_other : {A : Type 0} (f : A → Bool) (y : A) (xs : List A) → only f (Some y) xs ≡ (if count_by f xs == 0 then Some y else None)
no_other f y [] = refl
no_other f y (x ∷ xs) = by (f x) (no_other f y xs) ∙ ap (λ n. if n == 0 then Some y else None) (sym (sum_by-cons (λ z. cond (f z) 1 0) x xs))
  where
    by : (t : Bool) → only f (Some y) xs ≡ (if count_by f xs == 0 then Some y else None)
        → (if t then None else only f (Some y) xs) ≡ (if ((if t then 1 else 0) + count_by f xs) == 0 then Some y else None)
    by true rest = rw (none_more (count_by f xs)) refl
    by false rest = rw zero-add rest

pub only_one : {A : Type 0} (f : A → Bool) (xs : List A) → only f None xs ≡ (if count_by f xs == 1 then find f xs else None)
only_one f [] = refl
only_one f (x ∷ xs) = by (f x) (only_one f xs) ∙ ap (λ n. if n == 1 then find f (x ∷ xs) else None) (sym (sum_by-cons (λ z. cond (f z) 1 0) x xs))
  where
    by : (t : Bool) → only f None xs ≡ (if count_by f xs == 1 then find f xs else None)
        → (if t then only f (Some x) xs else only f None xs) ≡ (if ((if t then 1 else 0) + count_by f xs) == 1 then (if t then Some x else find f xs) else None)
    by true rest = rw (one_more (count_by f xs)) (no_other f x xs)
    by false rest = rw zero-add rest
