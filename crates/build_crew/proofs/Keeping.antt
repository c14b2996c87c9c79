-- The keys that are kept once a crew is done.
use Rattle.std.proofs.Common.{◌≡◌, ◌≢◌, ◌⊎◌, inl, inr, ℕ, zero, suc, ◌+◌, ◌<◌, ◌≤◌, List, [], ◌∷◌, ◌++◌, Bool, true, false, true≢false, not, cond, ◌||◌, ◌&&◌, length, filter, refl, sym, ap, ◌∙◌, arith}
use Rattle.std.specs.Cmp.{IsEquivalence}
use Rattle.std.specs.Set.{unique_keys}
use Rattle.std.specs.Str.{bytes_eq}
use Rattle.std.proofs.lemmas.Map.Made.{length-from_keys, length-le_from_is_member}
use Rattle.rtl_sig.specs.Names.{AreDistinct, has_name}
use Rattle.result_cache.specs.Filled.{in_rising_order, new_count, with_keys}
use Rattle.result_cache.specs.Counts.{drops, fills}
use Rattle.result_cache.specs.Seats.{Seated}
use Rattle.result_cache.proofs.Keys.{bytes_same, bytes_true, bytes_other, none_of, distinct_of, differ_of}
use Rattle.result_cache.proofs.NewKeys.{among_keys}
use Rattle.result_cache.proofs.Rising.{rising_order, same_rising, among_filtered}
use Rattle.work_crew.specs.Times.{hit, times, once_below}
use Rattle.work_crew.proofs.Counting.{same_or, below_or, eq_one, ne_none, lt_once, ge_none, times_append}
use Rattle.build_crew.specs.Calls.{one_if}
use Rattle.build_crew.specs.Kept.{HasStill, filled_by, times_by, is_kept_by, kept_by}
use Rattle.build_crew.proofs.Counts.{Tallies, kept_tells}
use Rattle.build_crew.proofs.Going.{Find, built_of, all_built}

-- the sum over the numbers of a list
abbrev pub total : (ℕ → ℕ) → List ℕ → ℕ
total w [] = 0
total w (x ∷ xs) = w x + total w xs

-- the sum over the numbers below n
abbrev pub summed : (ℕ → ℕ) → ℕ → ℕ
summed w zero = 0
summed w (suc n) = summed w n + w n

pub summed_same : (f g : ℕ → ℕ) (n : ℕ) → ((k : ℕ) → k < n → f k ≡ g k) → summed f n ≡ summed g n
summed_same f g zero h = refl
summed_same f g (suc n) h = let a = summed_same f g n (λ k l. h k (omega (arith, l))) in let b = h n (omega arith) in omega (arith, a, b)

pub summed_front : (f : ℕ → ℕ) (n : ℕ) → summed f (suc n) ≡ f 0 + summed (λ k. f (suc k)) n
summed_front f zero = omega arith
summed_front f (suc n) = let e = summed_front f n in omega (arith, e)

-- a number that stands in a list parts it
parted : (k : ℕ) (xs : List ℕ) → 1 ≤ times k xs → (front : List ℕ) × (back : List ℕ) × (xs ≡ front ++ k ∷ back)
parted k [] h = absurd (omega (arith, h))
parted k (x ∷ xs) h = by (same_or x k) (parted k xs)
  where
    by : (x ≡ k) ⊎ (x ≢ k) → (1 ≤ times k xs → (front : List ℕ) × (back : List ℕ) × (xs ≡ front ++ k ∷ back)) → (front : List ℕ) × (back : List ℕ) × ((x ∷ xs) ≡ front ++ k ∷ back)
    by (inl e) later = ([], xs, ap (λ (n : ℕ). n ∷ xs) e)
    by (inr ne) later = let z = ne_none x k ne in let r = later (omega (arith, h, z)) in (x ∷ r.0, r.1, ap (λ (l : List ℕ). x ∷ l) r.2)

summed_over : (w : ℕ → ℕ) (xs : List ℕ) (k : ℕ) (ys : List ℕ) → total w (xs ++ k ∷ ys) ≡ w k + total w (xs ++ ys)
summed_over w [] k ys = refl
summed_over w (x ∷ xs) k ys = let e = summed_over w xs k ys in omega (arith, e)

-- a list that holds each number below count once sums as they do
pub permuted : (w : ℕ → ℕ) (count : ℕ) (xs : List ℕ) → ((k : ℕ) → times k xs ≡ once_below k count) → total w xs ≡ summed w count
permuted w zero [] h = refl
permuted w zero (x ∷ xs) h =
    let a = h x in let b = eq_one x x refl in let c = ge_none x 0 (omega arith) in absurd (omega (arith, a, b, c))
permuted w (suc n) xs h = by (parted n xs (let a = h n in let b = lt_once n (suc n) (omega arith) in omega (arith, a, b))) (permuted w n)
  where
    by : ((front : List ℕ) × (back : List ℕ) × (xs ≡ front ++ n ∷ back)) → ((ys : List ℕ) → ((k : ℕ) → times k ys ≡ once_below k n) → total w ys ≡ summed w n) → total w xs ≡ summed w n + w n
    by (front, back, is) later =
        let rest = later (front ++ back) (λ k. other k (below_or k n) (same_or k n)) in
        let all = ap (total w) is ∙ summed_over w front n back in
        omega (arith, rest, all)
      where
        parts : (k : ℕ) → times k xs ≡ times k (front ++ back) + hit n k
        parts k =
            let a = ap (times k) is ∙ times_append k front (n ∷ back) in
            let b = times_append k front back in
            omega (arith, a, b)

        other : (k : ℕ) → (k < n) ⊎ (n ≤ k) → (k ≡ n) ⊎ (k ≢ n) → times k (front ++ back) ≡ once_below k n
        other k (inl lt) same =
            let a = parts k in let b = h k in let c = lt_once k (suc n) (omega (arith, lt)) in let d = lt_once k n lt in let e = ne_none n k (λ e. omega (arith, lt, e)) in
            omega (arith, a, b, c, d, e)
        other k (inr le) (inl e) =
            let a = parts k in let b = h k in let c = lt_once k (suc n) (omega (arith, e)) in let d = ge_none k n le in let f = eq_one n k (sym e) in
            omega (arith, a, b, c, d, f)
        other k (inr le) (inr ne) =
            let a = parts k in let b = h k in let c = ge_none k (suc n) (omega (arith, le, ne)) in let d = ge_none k n le in
            omega (arith, a, b, c, d)

bytes_laws : IsEquivalence bytes_eq
bytes_laws = record {
  refl = λ x. bytes_same x x refl;
  symm = λ x y. turned x y (bytes_eq x y) refl;
  congr = λ x y z e. ap (λ (k : List ℕ). bytes_eq k z) (bytes_true x y e);
}
  where
    turned : (x y : List ℕ) (a : Bool) → bytes_eq x y ≡ a → bytes_eq x y ≡ bytes_eq y x
    turned x y true e = e ∙ sym (bytes_same y x (sym (bytes_true x y e)))
    turned x y false e = e ∙ sym (bytes_other x y e)

-- the keys that were built
abbrev pub built_keys : List Find → List (List ℕ)
built_keys [] = []
built_keys (x ∷ xs) = cond x.1 (x.0 ∷ built_keys xs) (built_keys xs)

length_built : (xs : List Find) → length (built_keys xs) ≡ all_built xs
length_built [] = refl
length_built (x ∷ xs) = by x.1 (length_built xs)
  where
    by : (b : Bool) → length (built_keys xs) ≡ all_built xs → length (cond b (x.0 ∷ built_keys xs) (built_keys xs)) ≡ one_if b + all_built xs
    by true e = omega (arith, e)
    by false e = omega (arith, e)

-- whether a key was built, and how often
built_tells : (q : List ℕ) (xs : List Find) → ((built_of q xs ≡ 0) × (has_name (built_keys xs) q ≡ false)) ⊎ ((1 ≤ built_of q xs) × (has_name (built_keys xs) q ≡ true))
built_tells q [] = inl (refl, refl)
built_tells q (x ∷ xs) = by x.1 (bytes_eq q x.0) refl (built_tells q xs)
  where
    Tells : Bool → Type 0
    Tells b = ((cond b (one_if (bytes_eq x.0 q)) 0 + built_of q xs ≡ 0) × (has_name (cond b (x.0 ∷ built_keys xs) (built_keys xs)) q ≡ false))
        ⊎ ((1 ≤ cond b (one_if (bytes_eq x.0 q)) 0 + built_of q xs) × (has_name (cond b (x.0 ∷ built_keys xs) (built_keys xs)) q ≡ true))

    by : (b : Bool) → (t : Bool) → bytes_eq q x.0 ≡ t → ((built_of q xs ≡ 0) × (has_name (built_keys xs) q ≡ false)) ⊎ ((1 ≤ built_of q xs) × (has_name (built_keys xs) q ≡ true)) → Tells b
    by false t e (inl r) = let a = r.0 in inl (omega (arith, a), r.1)
    by false t e (inr r) = let a = r.0 in inr (omega (arith, a), r.1)
    by true true e r =
        let here : one_if (bytes_eq x.0 q) ≡ 1 = ap one_if (bytes_same x.0 q (sym (bytes_true q x.0 e))) in
        inr (omega (arith, here), ap (λ (b : Bool). b || has_name (built_keys xs) q) e)
    by true false e (inl r) =
        let here : one_if (bytes_eq x.0 q) ≡ 0 = ap one_if (bytes_other q x.0 e) in
        let a = r.0 in inl (omega (arith, here, a), ap (λ (b : Bool). b || has_name (built_keys xs) q) e ∙ r.1)
    by true false e (inr r) = let a = r.0 in inr (omega (arith, a), ap (λ (b : Bool). b || has_name (built_keys xs) q) e ∙ r.1)

-- each key that was built was built once
distinct_built : (xs : List Find) → ((q : List ℕ) → built_of q xs ≤ 1) → AreDistinct (built_keys xs)
distinct_built [] h = distinct_of [] tt
distinct_built (x ∷ xs) h = by x.1 refl (distinct_built xs (λ q. let a = h q in omega (arith, a)))
  where
    by : (b : Bool) → x.1 ≡ b → AreDistinct (built_keys xs) → AreDistinct (cond b (x.0 ∷ built_keys xs) (built_keys xs))
    by false e d = d
    by true e d = distinct_of (x.0 ∷ built_keys xs) (none_of x.0 (built_keys xs) (absent (built_tells x.0 xs)), differ_of (built_keys xs) d)
      where
        absent : ((built_of x.0 xs ≡ 0) × (has_name (built_keys xs) x.0 ≡ false)) ⊎ ((1 ≤ built_of x.0 xs) × (has_name (built_keys xs) x.0 ≡ true)) → has_name (built_keys xs) x.0 ≡ false
        absent (inl r) = r.1
        absent (inr r) =
            let a = h x.0 in let b = r.0 in
            let here : cond x.1 (one_if (bytes_eq x.0 x.0)) 0 ≡ 1 = ap (λ (b : Bool). cond b (one_if (bytes_eq x.0 x.0)) 0) e ∙ ap one_if (bytes_same x.0 x.0 refl) in
            absurd (omega (arith, a, b, here))

-- the keys of a list, each once
unique_has : (q : List ℕ) (xs : List (List ℕ)) → has_name xs q ≡ true → has_name (unique_keys bytes_eq xs) q ≡ true
unique_has q [] h = h
unique_has q (x ∷ xs) h = by (has_name xs x) refl (bytes_eq q x) refl (unique_has q xs)
  where
    by : (b : Bool) → has_name xs x ≡ b → (t : Bool) → bytes_eq q x ≡ t → (has_name xs q ≡ true → has_name (unique_keys bytes_eq xs) q ≡ true)
        → has_name (cond b (unique_keys bytes_eq xs) (x ∷ unique_keys bytes_eq xs)) q ≡ true
    by true m true e later = later (ap (has_name xs) (bytes_true q x e) ∙ m)
    by true m false e later = later (sym (ap (λ (b : Bool). b || has_name xs q) e) ∙ h)
    by false m true e later = ap (λ (b : Bool). b || has_name (unique_keys bytes_eq xs) q) e
    by false m false e later = ap (λ (b : Bool). b || has_name (unique_keys bytes_eq xs) q) e ∙ later (sym (ap (λ (b : Bool). b || has_name xs q) e) ∙ h)

-- each key is one of these
abbrev pub AllAmong : List (List ℕ) → List Find → Type 0
AllAmong keys [] = Unit {0}
AllAmong keys (x ∷ xs) = (has_name keys x.0 ≡ true) × AllAmong keys xs

among_built : (keys : List (List ℕ)) (q : List ℕ) (xs : List Find) → AllAmong keys xs → has_name (built_keys xs) q ≡ true → has_name keys q ≡ true
among_built keys q [] h is = absurd (true≢false (sym is))
among_built keys q (x ∷ xs) h is = by x.1 (bytes_eq q x.0) refl is (among_built keys q xs h.1)
  where
    by : (b : Bool) (t : Bool) → bytes_eq q x.0 ≡ t → has_name (cond b (x.0 ∷ built_keys xs) (built_keys xs)) q ≡ true → (has_name (built_keys xs) q ≡ true → has_name keys q ≡ true) → has_name keys q ≡ true
    by false t e is later = later is
    by true true e is later = ap (has_name keys) (bytes_true q x.0 e) ∙ h.0
    by true false e is later = later (sym (ap (λ (b : Bool). b || has_name (built_keys xs) q) e) ∙ is)

and_true : (a b : Bool) → a ≡ true → b ≡ true → (a && b) ≡ true
and_true a b e f = ap (λ (x : Bool). x && b) e ∙ f

and_parts : (a b : Bool) → (a && b) ≡ true → (a ≡ true) × (b ≡ true)
and_parts true b e = (refl, e)
and_parts false b e = absurd (true≢false (sym e))

not_true : (a : Bool) → not a ≡ true → a ≡ false
not_true true e = absurd (true≢false (sym e))
not_true false e = refl

same_bools : (a b : Bool) → (a ≡ true → b ≡ true) → (b ≡ true → a ≡ true) → a ≡ b
same_bools true b f g = sym (f refl)
same_bools false true f g = g refl
same_bools false false f g = refl

-- a key is kept by seats, or it is not
abbrev KeptOrNot : List ℕ → List Seated → Type 0
KeptOrNot q seats = ((times_by fills q seats ≤ times_by drops q seats) × (has_name (kept_by seats) q ≡ false)) ⊎ ((times_by drops q seats + 1 ≤ times_by fills q seats) × (has_name (kept_by seats) q ≡ true))

-- seats found these and gave up no value, and no key is filled again before its value is given up
module _ (keys : List (List ℕ)) (xs : List Find) (olds news : List Seated)
    (filled : (q : List ℕ) → times_by fills q news ≡ times_by fills q olds + built_of q xs)
    (dropped : (q : List ℕ) → times_by drops q news ≡ times_by drops q olds)
    (tallied : (q : List ℕ) → Tallies q olds news) (among : AllAmong keys xs) where
  abbrev new_keys : List (List ℕ)
  new_keys = filter (λ key. not (has_name (kept_by olds) key)) keys

  built_once : (q : List ℕ) → built_of q xs ≤ 1
  built_once q = let a = filled q in let b = (tallied q).once in let c = (tallied q).first in let d = dropped q in omega (arith, a, b, c, d)

  -- a key that was built was not kept, and is one of the keys
  built_new : (q : List ℕ) → has_name (built_keys xs) q ≡ true → has_name new_keys q ≡ true
  built_new q is =
      among_filtered (λ key. not (has_name (kept_by olds) key)) q keys
      ∙ and_true (has_name keys q) (not (has_name (kept_by olds) q)) (among_built keys q xs among is) (ap not (absent (built_tells q xs) (kept_tells q olds)))
    where
      absent : ((built_of q xs ≡ 0) × (has_name (built_keys xs) q ≡ false)) ⊎ ((1 ≤ built_of q xs) × (has_name (built_keys xs) q ≡ true))
          → KeptOrNot q olds → has_name (kept_by olds) q ≡ false
      absent (inl r) k = absurd (true≢false (sym is ∙ r.1))
      absent (inr r) (inl k) = k.1
      absent (inr r) (inr k) = let a = filled q in let b = (tallied q).once in let c = r.0 in let d = k.0 in let e = dropped q in absurd (omega (arith, a, b, c, d, e))

  pub built_few : all_built xs ≤ new_count (kept_by olds) keys
  built_few =
      let a = length_built xs in
      let b : length (built_keys xs) ≤ length (unique_keys bytes_eq new_keys) =
      length-le_from_is_member bytes_laws (built_keys xs) (unique_keys bytes_eq new_keys) (distinct_built xs built_once) (λ q is. unique_has q new_keys (built_new q is)) in
      omega (arith, a, b)

  pub kept_still : HasStill (kept_by olds) (kept_by news)
  kept_still q is = by (kept_tells q olds) (kept_tells q news)
    where
      by : KeptOrNot q olds
          → KeptOrNot q news → has_name (kept_by news) q ≡ true
      by (inl k) m = absurd (true≢false (sym is ∙ k.1))
      by (inr k) (inr m) = m.1
      by (inr k) (inl m) = let a = filled q in let b = k.0 in let c = m.0 in let d = dropped q in absurd (omega (arith, a, b, c, d))

  -- and each of the keys is filled
  module _ (there : (q : List ℕ) → has_name keys q ≡ true → times_by drops q news + 1 ≤ times_by fills q news) where
    new_built : (q : List ℕ) → has_name new_keys q ≡ true → has_name (built_keys xs) q ≡ true
    new_built q is = by (built_tells q xs) (kept_tells q olds)
      where
        both : (has_name keys q ≡ true) × (not (has_name (kept_by olds) q) ≡ true)
        both = and_parts (has_name keys q) (not (has_name (kept_by olds) q)) (sym (among_filtered (λ key. not (has_name (kept_by olds) key)) q keys) ∙ is)

        by : ((built_of q xs ≡ 0) × (has_name (built_keys xs) q ≡ false)) ⊎ ((1 ≤ built_of q xs) × (has_name (built_keys xs) q ≡ true))
            → KeptOrNot q olds → has_name (built_keys xs) q ≡ true
        by (inr r) k = r.1
        by (inl r) (inl k) = let a = filled q in let b = r.0 in let c = k.0 in let d = there q both.0 in let e = dropped q in absurd (omega (arith, a, b, c, d, e))
        by (inl r) (inr k) = absurd (true≢false (sym k.1 ∙ not_true (has_name (kept_by olds) q) both.1))

    pub built_all : all_built xs ≡ new_count (kept_by olds) keys
    built_all =
        sym (length_built xs)
        ∙ length-from_keys bytes_laws (built_keys xs) new_keys (distinct_built xs built_once)
        (λ q. same_bools (has_name (built_keys xs) q) (has_name new_keys q) (built_new q) (new_built q))

    -- keys in rising order with others are keys in rising order
    in_order : (xs more : List (List ℕ)) → (ys : List (List ℕ)) × (with_keys (in_rising_order xs) more ≡ in_rising_order ys)
    in_order xs [] = (xs, refl)
    in_order xs (key ∷ more) = in_order (key ∷ xs) more

    pub kept_all : kept_by news ≡ with_keys (kept_by olds) keys
    kept_all = by (in_order (filter (is_kept_by olds) (filled_by olds)) keys)
      where
        same : (q : List ℕ) → has_name (kept_by news) q ≡ has_name (with_keys (kept_by olds) keys) q
        same q = same_bools (has_name (kept_by news) q) (has_name (with_keys (kept_by olds) keys) q) (to (kept_tells q news) (kept_tells q olds) (built_tells q xs)) back
          where
            all : has_name (with_keys (kept_by olds) keys) q ≡ (has_name (kept_by olds) q || has_name keys q)
            all = among_keys q (kept_by olds) keys

            or_right : (a b : Bool) → b ≡ true → (a || b) ≡ true
            or_right true b e = refl
            or_right false b e = e

            to : KeptOrNot q news
                → KeptOrNot q olds
                → ((built_of q xs ≡ 0) × (has_name (built_keys xs) q ≡ false)) ⊎ ((1 ≤ built_of q xs) × (has_name (built_keys xs) q ≡ true))
                → has_name (kept_by news) q ≡ true → has_name (with_keys (kept_by olds) keys) q ≡ true
            to (inl n) o b is = absurd (true≢false (sym is ∙ n.1))
            to (inr n) (inr o) b is = all ∙ ap (λ (x : Bool). x || has_name keys q) o.1
            to (inr n) (inl o) (inr b) is = all ∙ or_right (has_name (kept_by olds) q) (has_name keys q) (among_built keys q xs among b.1)
            to (inr n) (inl o) (inl b) is = let a = filled q in let c = n.0 in let d = o.0 in let e = b.0 in let f = dropped q in absurd (omega (arith, a, c, d, e, f))

            filled_news : times_by drops q news + 1 ≤ times_by fills q news → KeptOrNot q news → has_name (kept_by news) q ≡ true
            filled_news some (inl n) = let a = n.0 in absurd (omega (arith, a, some))
            filled_news some (inr n) = n.1

            back : has_name (with_keys (kept_by olds) keys) q ≡ true → has_name (kept_by news) q ≡ true
            back is = by (has_name (kept_by olds) q) refl
              where
                by : (b : Bool) → has_name (kept_by olds) q ≡ b → has_name (kept_by news) q ≡ true
                by true e = kept_still q e
                by false e = filled_news (there q (sym (ap (λ (x : Bool). x || has_name keys q) e) ∙ sym all ∙ is)) (kept_tells q news)

        by : ((ys : List (List ℕ)) × (with_keys (kept_by olds) keys ≡ in_rising_order ys)) → kept_by news ≡ with_keys (kept_by olds) keys
        by (ys, is) =
            same_rising (kept_by news) (in_rising_order ys) (rising_order (filter (is_kept_by news) (filled_by news))) (rising_order ys) (λ q. same q ∙ ap (λ (l : List (List ℕ)). has_name l q) is) ∙ sym is
