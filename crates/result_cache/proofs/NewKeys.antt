-- Keys that are put among keys in rising order, one after another, and how many of them are new.
use Rattle.std.proofs.Common.{◌≡◌, ℕ, zero, suc, ◌+◌, ◌≤◌, List, [], ◌∷◌, ◌++◌, Bool, true, false, not, cond, ◌&&◌, ◌||◌, length, filter, refl, sym, ap, ◌∙◌, subst, arith, true≢false}
use Rattle.std.specs.Prelude.{map}
use Rattle.std.specs.List.{range_with_len}
use Rattle.std.specs.Set.{distinct_count, unique_keys}
use Rattle.std.specs.Str.{bytes_eq}
use Rattle.std.proofs.lemmas.List.FromFn.{length-map-range_with_len, map-range_with_len_more}
use Rattle.std.proofs.lemmas.Map.Made.{distinct_count-le}
use Rattle.rtl_sig.specs.Names.{has_name}
use Rattle.result_cache.specs.Filled.{with_key, with_keys, new_count}
use Rattle.result_cache.proofs.Keys.{bytes_same, bytes_true}
use Rattle.result_cache.proofs.Rising.{among_with, among_filtered}

-- one for a key that is not there
abbrev pub fresh : Bool → ℕ
fresh known = cond known 0 1

pub with_keys_snoc : (keys more : List (List ℕ)) (key : List ℕ) → with_keys keys (more ++ key ∷ []) ≡ with_key key (with_keys keys more)
with_keys_snoc keys [] key = refl
with_keys_snoc keys (k ∷ more) key = with_keys_snoc (with_key k keys) more key

regrouped : (a b c : Bool) → ((a || b) || c) ≡ (b || (a || c))
regrouped true true c = refl
regrouped true false c = refl
regrouped false b c = refl

-- a key is among them where it was, or is one of those that were put
pub among_keys : (q : List ℕ) (keys more : List (List ℕ)) → has_name (with_keys keys more) q ≡ (has_name keys q || has_name more q)
among_keys q keys [] = none (has_name keys q)
  where
    none : (a : Bool) → a ≡ (a || false)
    none true = refl
    none false = refl
among_keys q keys (k ∷ more) =
    among_keys q (with_key k keys) more ∙ ap (λ (b : Bool). b || has_name more q) (among_with q k keys) ∙ regrouped (bytes_eq q k) (has_name keys q) (has_name more q)

-- what was among them is among them still
pub still_among : (keys more : List (List ℕ)) (q : List ℕ) → has_name keys q ≡ true → has_name (with_keys keys more) q ≡ true
still_among keys more q is = among_keys q keys more ∙ ap (λ (b : Bool). b || has_name more q) is

among_snoc : (q x : List ℕ) (xs : List (List ℕ)) → has_name (xs ++ x ∷ []) q ≡ (has_name xs q || bytes_eq q x)
among_snoc q x [] = one (bytes_eq q x)
  where
    one : (a : Bool) → (a || false) ≡ a
    one true = refl
    one false = refl
among_snoc q x (y ∷ xs) = ap (λ (b : Bool). bytes_eq q y || b) (among_snoc q x xs) ∙ grouped (bytes_eq q y) (has_name xs q) (bytes_eq q x)
  where
    grouped : (a b c : Bool) → (a || (b || c)) ≡ ((a || b) || c)
    grouped true b c = refl
    grouped false b c = refl

bytes_turned : (a b : List ℕ) → bytes_eq a b ≡ bytes_eq b a
bytes_turned a b = by (bytes_eq a b) refl (bytes_eq b a) refl
  where
    by : (s : Bool) → bytes_eq a b ≡ s → (t : Bool) → bytes_eq b a ≡ t → s ≡ t
    by true is true back = refl
    by true is false back = absurd (true≢false (sym (bytes_same b a (sym (bytes_true a b is))) ∙ back))
    by false is true back = absurd (true≢false (sym (bytes_same a b (sym (bytes_true b a back))) ∙ is))
    by false is false back = refl

count_snoc : (xs : List (List ℕ)) (x : List ℕ) → distinct_count bytes_eq (xs ++ x ∷ []) ≡ distinct_count bytes_eq xs + fresh (has_name xs x)
count_snoc [] x = refl
count_snoc (z ∷ zs) x = ap (λ (t : Bool). length (cond t (unique_keys bytes_eq (zs ++ x ∷ [])) (z ∷ unique_keys bytes_eq (zs ++ x ∷ [])))) (among_snoc z x zs)
    ∙ by (has_name zs z) refl (bytes_eq z x) refl (count_snoc zs x)
  where
    same : bytes_eq z x ≡ true → (a : Bool) → has_name zs z ≡ a → has_name zs x ≡ a
    same is a has = ap (has_name zs) (sym (bytes_true z x is)) ∙ has

    by : (a : Bool) → has_name zs z ≡ a → (b : Bool) → bytes_eq z x ≡ b → distinct_count bytes_eq (zs ++ x ∷ []) ≡ distinct_count bytes_eq zs + fresh (has_name zs x)
        → length (cond (a || b) (unique_keys bytes_eq (zs ++ x ∷ [])) (z ∷ unique_keys bytes_eq (zs ++ x ∷ []))) ≡ length (cond a (unique_keys bytes_eq zs) (z ∷ unique_keys bytes_eq zs)) + fresh (bytes_eq x z || has_name zs x)
    by true has true is rest =
        rest ∙ ap (λ (t : Bool). distinct_count bytes_eq zs + fresh t) (same is true has ∙ sym (ap (λ (t : Bool). t || has_name zs x) (bytes_turned x z ∙ is)))
    by true has false is rest =
        rest ∙ ap (λ (t : Bool). distinct_count bytes_eq zs + fresh t) (sym (ap (λ (t : Bool). t || has_name zs x) (bytes_turned x z ∙ is)))
    by false has true is rest =
        let one : distinct_count bytes_eq (zs ++ x ∷ []) ≡ distinct_count bytes_eq zs + 1 = rest ∙ ap (λ (t : Bool). distinct_count bytes_eq zs + fresh t) (same is false has) in
        let none : fresh (bytes_eq x z || has_name zs x) ≡ 0 = ap (λ (t : Bool). fresh (t || has_name zs x)) (bytes_turned x z ∙ is) in
        omega (arith, one, none)
    by false has false is rest =
        let last : fresh (bytes_eq x z || has_name zs x) ≡ fresh (has_name zs x) = ap (λ (t : Bool). fresh (t || has_name zs x)) (bytes_turned x z ∙ is) in
        omega (arith, rest, last)

filter_snoc : (p : List ℕ → Bool) (xs : List (List ℕ)) (x : List ℕ) → filter p (xs ++ x ∷ []) ≡ cond (p x) (filter p xs ++ x ∷ []) (filter p xs)
filter_snoc p [] x = refl
filter_snoc p (y ∷ xs) x = by (p y) (p x) (filter_snoc p xs x)
  where
    by : (a b : Bool) → filter p (xs ++ x ∷ []) ≡ cond b (filter p xs ++ x ∷ []) (filter p xs)
        → cond a (y ∷ filter p (xs ++ x ∷ [])) (filter p (xs ++ x ∷ [])) ≡ cond b (cond a (y ∷ filter p xs) (filter p xs) ++ x ∷ []) (cond a (y ∷ filter p xs) (filter p xs))
    by true true h = ap (λ (l : List (List ℕ)). y ∷ l) h
    by true false h = ap (λ (l : List (List ℕ)). y ∷ l) h
    by false b h = h

-- one more key is new where it is not among those that were put
pub new_snoc : (keys xs : List (List ℕ)) (x : List ℕ) → new_count keys (xs ++ x ∷ []) ≡ new_count keys xs + fresh (has_name (with_keys keys xs) x)
new_snoc keys xs x = ap (distinct_count bytes_eq) (filter_snoc is_new xs x) ∙ by (has_name keys x) refl
  where
    is_new : List ℕ → Bool
    is_new key = not (has_name keys key)

    by : (b : Bool) → has_name keys x ≡ b
        → distinct_count bytes_eq (cond (not (has_name keys x)) (filter (λ key. not (has_name keys key)) xs ++ x ∷ []) (filter (λ key. not (has_name keys key)) xs)) ≡ new_count keys xs + fresh (has_name (with_keys keys xs) x)
    by true is =
        ap (λ (b : Bool). distinct_count bytes_eq (cond (not b) (filter (λ key. not (has_name keys key)) xs ++ x ∷ []) (filter (λ key. not (has_name keys key)) xs))) is
        ∙ (let none : fresh (has_name (with_keys keys xs) x) ≡ 0 = ap (λ (b : Bool). fresh b) (still_among keys xs x is) in omega (arith, none))
    by false is =
        ap (λ (b : Bool). distinct_count bytes_eq (cond (not b) (filter (λ key. not (has_name keys key)) xs ++ x ∷ []) (filter (λ key. not (has_name keys key)) xs))) is
        ∙ count_snoc (filter (λ key. not (has_name keys key)) xs) x
        ∙ ap (λ (b : Bool). new_count keys xs + fresh b)
        (among_filtered (λ key. not (has_name keys key)) x xs
        ∙ ap (λ (b : Bool). has_name xs x && not b) is ∙ kept (has_name xs x)
        ∙ sym (among_keys x keys xs ∙ ap (λ (b : Bool). b || has_name xs x) is))
      where
        kept : (a : Bool) → (a && true) ≡ a
        kept true = refl
        kept false = refl

filter_few : (p : List ℕ → Bool) (xs : List (List ℕ)) → length (filter p xs) ≤ length xs
filter_few p [] = omega arith
filter_few p (x ∷ xs) = by (p x) (filter_few p xs)
  where
    by : (b : Bool) → length (filter p xs) ≤ length xs → length (cond b (x ∷ filter p xs) (filter p xs)) ≤ suc (length xs)
    by true h = omega (arith, h)
    by false h = omega (arith, h)

pub new_few : (keys xs : List (List ℕ)) → new_count keys xs ≤ length xs
new_few keys xs =
    let a = distinct_count-le bytes_eq (filter (λ key. not (has_name keys key)) xs) in
    let b = filter_few (λ key. not (has_name keys key)) xs in
    omega (arith, a, b)

-- the keys that a function gives for the numbers below n
abbrev pub keys_below : (ℕ → List ℕ) → ℕ → List (List ℕ)
keys_below f n = map f (range_with_len 0 n)

pub below_more : (f : ℕ → List ℕ) (n : ℕ) → keys_below f (n + 1) ≡ keys_below f n ++ f n ∷ []
below_more f n = map-range_with_len_more f 0 n n (omega arith)

pub new_below_few : (keys : List (List ℕ)) (f : ℕ → List ℕ) (n : ℕ) → new_count keys (keys_below f n) ≤ n
new_below_few keys f n = let a = new_few keys (keys_below f n) in let b = length-map-range_with_len f 0 n in omega (arith, a, b)

-- more keys have as many new ones or more
pub new_below : (keys : List (List ℕ)) (f : ℕ → List ℕ) (a more : ℕ) → new_count keys (keys_below f a) ≤ new_count keys (keys_below f (a + more))
new_below keys f a zero = subst (λ n. new_count keys (keys_below f a) ≤ new_count keys (keys_below f n)) (let e : a ≡ a + 0 = omega arith in e) (omega arith)
new_below keys f a (suc more) =
    let before = new_below keys f a more in
    let last = ap (new_count keys) (below_more f (a + more)) ∙ new_snoc keys (keys_below f (a + more)) (f (a + more)) in
    let n : new_count keys (keys_below f (a + more)) ≤ new_count keys (keys_below f (a + more + 1)) = omega (arith, last) in
    let e : a + more + 1 ≡ a + suc more = omega arith in
    subst (λ k. new_count keys (keys_below f a) ≤ new_count keys (keys_below f k)) e (omega (arith, before, n))
