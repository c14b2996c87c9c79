-- Calls of one seat, and calls on one shard, in longer histories.
use Rattle.std.proofs.Common.{◌≡◌, ◌≢◌, ℕ, zero, suc, ◌<◌, List, [], ◌∷◌, ◌++◌, length, set, get_or, replicate, Bool, true, false, cond, eqb, eq-eqb, refl, sym, ap, ◌∙◌, ⊎_elim, arith}
use Rattle.std.proofs.lemmas.Bool.Decides.{eqb_tells}
use Rattle.result_cache.specs.declared.call.Call.{Call}
use Rattle.result_cache.specs.Tickets.{calls_by}
use Rattle.result_cache.specs.Shared.{AreBelow, shard_of, on_shard, AreOf}

pub append_none : {A : Type 0} (xs : List A) → xs ++ [] ≡ xs
append_none [] = refl
append_none (x ∷ xs) = ap (λ r. x ∷ r) (append_none xs)

pub by-append : (n : ℕ) (xs ys : List Call) → calls_by n (xs ++ ys) ≡ calls_by n xs ++ calls_by n ys
by-append n [] ys = refl
by-append n (x ∷ xs) ys =
    let P : Bool → Type 0 = λ t. cond t (x ∷ calls_by n (xs ++ ys)) (calls_by n (xs ++ ys)) ≡ cond t (x ∷ calls_by n xs) (calls_by n xs) ++ calls_by n ys in
    elim (eqb x.seat n) as P [ true ↦ ap (λ r. x ∷ r) (by-append n xs ys) | false ↦ by-append n xs ys ]

pub on-append : (m i : ℕ) (xs ys : List Call) → on_shard m i (xs ++ ys) ≡ on_shard m i xs ++ on_shard m i ys
on-append m i [] ys = refl
on-append m i (x ∷ xs) ys =
    let P : Bool → Type 0 = λ t. cond t (x ∷ on_shard m i (xs ++ ys)) (on_shard m i (xs ++ ys)) ≡ cond t (x ∷ on_shard m i xs) (on_shard m i xs) ++ on_shard m i ys in
    elim (eqb (shard_of m x.key) i) as P [ true ↦ ap (λ r. x ∷ r) (on-append m i xs ys) | false ↦ on-append m i xs ys ]

pub by_all : (m i n : ℕ) (xs : List Call) → AreOf m i n xs → calls_by n xs ≡ xs
by_all m i n [] h = refl
by_all m i n (x ∷ xs) h = rw (eq-eqb x.seat n h.0) (ap (λ r. x ∷ r) (by_all m i n xs h.2))

pub by_none : (m i n k : ℕ) (xs : List Call) → AreOf m i n xs → n ≢ k → calls_by k xs ≡ []
by_none m i n k [] h ne = refl
by_none m i n k (x ∷ xs) h ne = ⊎_elim (λ (t : (eqb x.seat k ≡ true) × (x.seat ≡ k)). absurd (ne (sym h.0 ∙ t.1))) (λ (t : (eqb x.seat k ≡ false) × (x.seat ≢ k)). rw (t.0) (by_none m i n k xs h.2 ne)) (eqb_tells x.seat k)

pub on_all : (m i n : ℕ) (xs : List Call) → AreOf m i n xs → on_shard m i xs ≡ xs
on_all m i n [] h = refl
on_all m i n (x ∷ xs) h = rw (eq-eqb (shard_of m x.key) i h.1) (ap (λ r. x ∷ r) (on_all m i n xs h.2))

pub on_none : (m i n j : ℕ) (xs : List Call) → AreOf m i n xs → i ≢ j → on_shard m j xs ≡ []
on_none m i n j [] h ne = refl
on_none m i n j (x ∷ xs) h ne = ⊎_elim (λ (t : (eqb (shard_of m x.key) j ≡ true) × (shard_of m x.key ≡ j)). absurd (ne (sym h.1 ∙ t.1))) (λ (t : (eqb (shard_of m x.key) j ≡ false) × (shard_of m x.key ≢ j)). rw (t.0) (on_none m i n j xs h.2 ne)) (eqb_tells (shard_of m x.key) j)

pub below-append : (n : ℕ) (xs ys : List Call) → AreBelow n xs → AreBelow n ys → AreBelow n (xs ++ ys)
below-append n [] ys h k = k
below-append n (x ∷ xs) ys h k = (h.0, below-append n xs ys h.1 k)

pub below_all : (m i n callers : ℕ) (xs : List Call) → AreOf m i n xs → n < callers → AreBelow callers xs
below_all m i n callers [] h l = tt
below_all m i n callers (x ∷ xs) h l = (let e = h.0 in omega arith, below_all m i n callers xs h.2 l)

-- lists of histories

pub list_here : (xs : List (List Call)) (i : ℕ) (x : List Call) → i < length xs → get_or (set xs i x) i [] ≡ x
list_here [] i x l = absurd (omega arith)
list_here (y ∷ ys) zero x l = refl
list_here (y ∷ ys) (suc i) x l = list_here ys i x (omega arith)

pub list_else : (xs : List (List Call)) (i j : ℕ) (x : List Call) → j ≢ i → get_or (set xs i x) j [] ≡ get_or xs j []
list_else [] i j x ne = refl
list_else (y ∷ ys) zero zero x ne = absurd (ne refl)
list_else (y ∷ ys) zero (suc j) x ne = refl
list_else (y ∷ ys) (suc i) zero x ne = refl
list_else (y ∷ ys) (suc i) (suc j) x ne = list_else ys i j x (λ e. ne (ap suc e))

pub none_seen : (e : List Call) (n i : ℕ) → get_or (replicate n e) i e ≡ e
none_seen e zero i = refl
none_seen e (suc n) zero = refl
none_seen e (suc n) (suc i) = none_seen e n i

pub length_none : (e : List Call) (n : ℕ) → length (replicate n e) ≡ n
length_none e zero = refl
length_none e (suc n) = ap suc (length_none e n)
