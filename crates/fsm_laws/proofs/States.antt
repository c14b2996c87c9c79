-- Codes of states: of constants, and what a compare of the state becomes.
use Rattle.std.proofs.Common.{◌≡◌, ◌<◌, ◌≤◌, ℕ, zero, suc, ◌+◌, Bool, true, false, cond, List, [], ◌∷◌, length, map, Option, Some, None, ◌⊎◌, inl, inr, ⊎_elim, refl, sym, ◌∙◌, ap, subst, arith, eq-eqb}
use Rattle.std.specs.Prelude.{◌==◌, max, slice_get, slice_index_or}
use Rattle.std.specs.List.{fold, range_with_len}
use Rattle.std.proofs.lemmas.Bool.{eqb-true}
use Rattle.cell_word.specs.Folds.{equal_of}
use Rattle.rtl_bits.specs.Knowledge.{AreKnown, Below, IsKnown}
use Rattle.rtl_bits.specs.Numbers.{digit_of, number_of}
use Rattle.rtl_bits.specs.Tables.{and_of, not_of, xor_of}
use Rattle.rtl_bits.specs.declared.bit.Bit.{Bit}
use Rattle.rtl_bits.specs.declared.bit.Bit.TheVariants.{S0, S1, X}
use Rattle.net_model.specs.Fsm.Code.{code_of}
use Rattle.fsm_laws.specs.Codes.{OneHot, apart}
use Rattle.fsm_laws.specs.States.{AreStates, bit_or_zero, state_place}
use Rattle.fsm_laws.proofs.Coded.{apart_low, apart_same}
use Rattle.fsm_laws.proofs.Numbers.{inside_any, known_filled, known_same, lt_or_ge, past_end, same_digits, same_number}

-- the code of a number, place by place
pub code_at : (states : List (List Bit)) (n i : ℕ) (s : List Bit) → slice_get states i ≡ Some s → slice_index_or (code_of states n) i X ≡ cond (number_of s == n) S1 S0
code_at [] n i s e = absurd (cc)
code_at (r ∷ states) n zero s e = let same : r ≡ s = cc in ap (λ z. cond (number_of z == n) S1 S0) same
code_at (r ∷ states) n (suc i) s e = code_at states n i s e

pub state_there : {A : Type 0} (xs : List A) (i : ℕ) → i < length xs → (x : A) × (slice_get xs i ≡ Some x)
state_there [] i lt = absurd (omega (arith, lt))
state_there (x ∷ xs) zero lt = (x, refl)
state_there (x ∷ xs) (suc i) lt = state_there xs i (omega (arith, lt))

pub there_small : {A : Type 0} (xs : List A) (i : ℕ) (x : A) → slice_get xs i ≡ Some x → i < length xs
there_small [] i x e = absurd (cc)
there_small (y ∷ xs) zero x e = omega arith
there_small (y ∷ xs) (suc i) x e = let h = there_small xs i x e in omega (arith, h)

same_test : (a b : ℕ) → a ≡ b → (a == b) ≡ true
same_test a b e = eq-eqb a b e

-- all bits of a fold
module _ (f : ℕ → Bit) where
  and_one : (a b : Bit) → and_of a b ≡ S1 → (a ≡ S1) × (b ≡ S1)
  and_one S1 S1 e = (refl, refl)
  and_one S0 b e = absurd (cc)
  and_one S1 S0 e = absurd (cc)
  and_one S1 b e = absurd (cc)
  and_one a S0 e = absurd (cc)
  and_one a b e = absurd (cc)

  and_zero : (a b : Bit) → and_of a b ≡ S0 → (a ≡ S0) ⊎ (b ≡ S0)
  and_zero S0 b e = inl refl
  and_zero S1 S0 e = inr refl
  and_zero S1 S1 e = absurd (cc)
  and_zero S1 b e = absurd (cc)
  and_zero a S0 e = inr refl
  and_zero a b e = absurd (cc)

  all_one : (from n : ℕ) (acc : Bit) → fold and_of acc (map f (range_with_len from n)) ≡ S1 → (acc ≡ S1) × ((k : ℕ) → k < n → f (from + k) ≡ S1)
  all_one from zero acc e = (e, λ k lt. absurd (omega (arith, lt)))
  all_one from (suc n) acc e =
      let later = all_one (from + 1) n (and_of acc (f from)) e in
      let both = and_one acc (f from) later.0 in
      (both.0, λ k lt. by k lt later.1 both.1)
    where
      by : (k : ℕ) → k < suc n → ((j : ℕ) → j < n → f ((from + 1) + j) ≡ S1) → f from ≡ S1 → f (from + k) ≡ S1
      by zero lt later here = let same : from + 0 ≡ from = omega arith in ap f same ∙ here
      by (suc k) lt later here =
          let same : from + suc k ≡ (from + 1) + k = omega arith in
          ap f same ∙ later k (omega (arith, lt))

  all_zero : (from n : ℕ) (acc : Bit) → fold and_of acc (map f (range_with_len from n)) ≡ S0 → (acc ≡ S0) ⊎ ((k : ℕ) × (k < n) × (f (from + k) ≡ S0))
  all_zero from zero acc e = inl e
  all_zero from (suc n) acc e =
      ⊎_elim
      (λ l. ⊎_elim (λ a. inl a) (λ b. let same : from + 0 ≡ from = omega arith in inr (0, omega arith, ap f same ∙ b)) (and_zero acc (f from) l))
      (λ r. let same : from + suc r.0 ≡ (from + 1) + r.0 = omega arith in
      let lt : suc r.0 < suc n = omega (arith, r.1) in
      inr (suc r.0, lt, ap f same ∙ r.2))
      (all_zero (from + 1) n (and_of acc (f from)) e)

agree_one : (a b : Bit) → not_of (xor_of a b) ≡ S1 → (a ≡ b) × IsKnown a
agree_one S0 S0 e = (refl, tt)
agree_one S1 S1 e = (refl, tt)
agree_one S0 S1 e = absurd (cc)
agree_one S1 S0 e = absurd (cc)
agree_one S0 b e = absurd (cc)
agree_one S1 b e = absurd (cc)
agree_one a b e = absurd (cc)

agree_zero : (a b : Bit) → not_of (xor_of a b) ≡ S0 → apart a b ≡ S0
agree_zero S0 S1 e = refl
agree_zero S1 S0 e = refl
agree_zero S0 S0 e = absurd (cc)
agree_zero S1 S1 e = absurd (cc)
agree_zero S0 b e = absurd (cc)
agree_zero S1 b e = absurd (cc)
agree_zero a b e = absurd (cc)

-- two words, filled up with 0
abbrev pub filled : List Bit → ℕ → Bit
filled bits k = slice_index_or bits k S0

pub equal_zero : (as' bs : List Bit) → equal_of false as' bs ≡ S0 → (k : ℕ) × (apart (filled as' k) (filled bs k) ≡ S0)
equal_zero as' bs e =
    ⊎_elim (λ l. absurd (no l)) (λ r. let same : 0 + r.0 ≡ r.0 = omega arith in (r.0, agree_zero (filled as' r.0) (filled bs r.0) (ap (λ k. not_of (xor_of (filled as' k) (filled bs k))) (sym same) ∙ r.2)))
    (all_zero (λ k. not_of (xor_of (filled as' k) (filled bs k))) 0 (max (length as') (length bs)) S1 e)
  where
    no : S1 ≡ S0 → ⊥
    no f = cc

max_left : (a b k : ℕ) → max a b ≤ k → a ≤ k
max_left a b k h = omega (arith, h)

max_right : (a b k : ℕ) → max a b ≤ k → b ≤ k
max_right a b k h = omega (arith, h)

pub equal_one : (as' bs : List Bit) → equal_of false as' bs ≡ S1 → (k : ℕ) → (filled as' k ≡ filled bs k) × IsKnown (filled as' k)
equal_one as' bs e k =
    ⊎_elim
    (λ lt. let same : 0 + k ≡ k = omega arith in
    agree_one (filled as' k) (filled bs k) (ap (λ j. not_of (xor_of (filled as' j) (filled bs j))) (sym same) ∙ (all_one (λ j. not_of (xor_of (filled as' j) (filled bs j))) 0 (max (length as') (length bs)) S1 e).1 k lt))
    (λ ge. let a : filled as' k ≡ S0 = past_end as' k S0 (max_left (length as') (length bs) k ge) in
    let b : filled bs k ≡ S0 = past_end bs k S0 (max_right (length as') (length bs) k ge) in
    (a ∙ sym b, subst IsKnown (sym a) tt))
    (lt_or_ge k (max (length as') (length bs)))

module _ (width : ℕ) (states : List (List Bit)) (are : AreStates width states) where
  -- of known bits and a state of the same number, no bit is apart
  pub same_apart : (c s : List Bit) (i : ℕ) → slice_get states i ≡ Some s → AreKnown c → length c ≡ width → number_of s ≡ number_of c → (k : ℕ) → k < width → apart (slice_index_or c k X) (slice_index_or s k X) ≡ X
  same_apart c s i there known wide e k lt =
      let in_c : k < length c = omega (arith, lt, wide) in
      let in_s : k < length s = omega (arith, lt, are.wide i s there) in
      let bit_c : slice_index_or c k X ≡ filled c k = inside_any c k X S0 in_c in
      let bit_s : slice_index_or s k X ≡ filled s k = inside_any s k X S0 in_s in
      let same : filled c k ≡ filled s k = known_same (filled c k) (filled s k) (known_filled c k known) (known_filled s k (are.known i s there)) (same_digits c s (sym e) k) in
      (λ l. apart (bit_c l) (bit_s l)) ∙ ap (λ z. apart z (filled s k)) same ∙ apart_same (filled s k)

  -- a constant is below its code
  pub constant_coded : (c s : List Bit) (i : ℕ) → slice_get states i ≡ Some s → AreKnown c → length c ≡ width → (k : ℕ) → k < width → Below (apart (slice_index_or c k X) (slice_index_or s k X)) (slice_index_or (code_of states (number_of c)) i X)
  constant_coded c s i there known wide k lt =
      subst (Below (apart (slice_index_or c k X) (slice_index_or s k X))) (sym (code_at states (number_of c) i s there)) (by (number_of s == number_of c) refl)
    where
      by : (t : Bool) → (number_of s == number_of c) ≡ t → Below (apart (slice_index_or c k X) (slice_index_or s k X)) (cond t S1 S0)
      by true e =
          subst (λ z. Below z S1) (sym (same_apart c s i there known wide (eqb-true (number_of s) (number_of c) e) k lt)) tt
      by false e = apart_low (slice_index_or c k X) (slice_index_or s k X)

  -- a constant that is a state has one bit that is 1
  pub constant_hot : (n i : ℕ) (s : List Bit) → slice_get states i ≡ Some s → number_of s ≡ n → OneHot (length states) (λ j. slice_index_or (code_of states n) j X)
  constant_hot n i s there e j lt rest =
      ⊎_elim
      (λ same. ap (λ z. slice_index_or (code_of states n) z X) same ∙ one)
      (λ other. absurd (no (sym one ∙ rest i (there_small states i s there) (λ f. other (sym f)))))
      (decide (j == i) refl)
    where
      one : slice_index_or (code_of states n) i X ≡ S1
      one = code_at states n i s there ∙ ap (λ t. cond t S1 S0) (same_test (number_of s) n e)

      no : S1 ≡ S0 → ⊥
      no f = cc

      decide : (t : Bool) → (j == i) ≡ t → (j ≡ i) ⊎ (j ≡ i → ⊥)
      decide true f = inl (eqb-true j i f)
      decide false f = inr (λ g. absurd (differ (sym (same_test j i g) ∙ f)))
        where
          differ : true ≡ false → ⊥
          differ h = cc

  -- the place of a state
  place_found : (ss : List (List Bit)) (at n k : ℕ) → state_place ss at n ≡ Some k → (j : ℕ) × ((s : List Bit) × ((k ≡ at + j) × (slice_get ss j ≡ Some s) × (number_of s ≡ n)))
  place_found [] at n k e = absurd (cc)
  place_found (s ∷ ss) at n k e = by (place_found ss (at + 1) n k) (number_of s == n) refl e
    where
      by : (state_place ss (at + 1) n ≡ Some k → (j : ℕ) × ((r : List Bit) × ((k ≡ (at + 1) + j) × (slice_get ss j ≡ Some r) × (number_of r ≡ n)))) → (t : Bool) → (number_of s == n) ≡ t → cond t (Some at) (state_place ss (at + 1) n) ≡ Some k → (j : ℕ) × ((r : List Bit) × ((k ≡ at + j) × (slice_get (s ∷ ss) j ≡ Some r) × (number_of r ≡ n)))
      by go true f g = let same : at ≡ k = cc in (0, (s, (omega (arith, same), refl, eqb-true (number_of s) n f)))
      by go false f g =
          let later = go g in
          let same : k ≡ at + suc later.0 = omega (arith, later.1.1.0) in
          (suc later.0, (later.1.0, (same, later.1.1.1, later.1.1.2)))

  place_none : (ss : List (List Bit)) (at n : ℕ) → state_place ss at n ≡ None → (j : ℕ) (s : List Bit) → slice_get ss j ≡ Some s → number_of s ≡ n → ⊥
  place_none [] at n e j s h = absurd (cc)
  place_none (r ∷ ss) at n e j s h = by (λ g k. place_none ss (at + 1) n g k s) (number_of r == n) refl e j h
    where
      by : (state_place ss (at + 1) n ≡ None → (k : ℕ) → slice_get ss k ≡ Some s → number_of s ≡ n → ⊥) → (t : Bool) → (number_of r == n) ≡ t → cond t (Some at) (state_place ss (at + 1) n) ≡ None → (k : ℕ) → slice_get (r ∷ ss) k ≡ Some s → number_of s ≡ n → ⊥
      by go true f g k there q = cc
      by go false f g zero there q =
          let same : r ≡ s = cc in
          let hit : (number_of r == n) ≡ true = same_test (number_of r) n (ap number_of same ∙ q) in
          cc
      by go false f g (suc k) there q = go g k there q

  -- a state has, by its code
  module _ (v : List Bit) (long : length v ≡ width) (u : ℕ → Bit) (carried : (k : ℕ) → k < width → (i : ℕ) (s : List Bit) → slice_get states i ≡ Some s → Below (apart (slice_index_or v k X) (slice_index_or s k X)) (u i)) (hot : OneHot (length states) u) where
    -- where the value and a state are apart, the bit of the state is 0
    zero_at : (k i : ℕ) (s : List Bit) → slice_get states i ≡ Some s → apart (filled v k) (filled s k) ≡ S0 → u i ≡ S0
    zero_at k i s there e =
        ⊎_elim
        (λ lt. let in_v : k < length v = omega (arith, lt, long) in
        let in_s : k < length s = omega (arith, lt, are.wide i s there) in
        let is : apart (slice_index_or v k X) (slice_index_or s k X) ≡ S0 = (λ l. apart (inside_any v k X S0 in_v l) (inside_any s k X S0 in_s l)) ∙ e in
        subst (λ z. Below z (u i)) is (carried k lt i s there))
        (λ ge. let a : filled v k ≡ S0 = past_end v k S0 (omega (arith, ge, long)) in
        let b : filled s k ≡ S0 = past_end s k S0 (omega (arith, ge, are.wide i s there)) in
        absurd (no (sym (λ l. apart (a l) (b l)) ∙ e)))
        (lt_or_ge k width)
      where
        no : X ≡ S0 → ⊥
        no f = cc

    -- where the value is a constant, the bits of the states that are other numbers are 0
    other_zero : (c : List Bit) → AreKnown c → equal_of false v c ≡ S1 → (i : ℕ) (s : List Bit) → slice_get states i ≡ Some s → (number_of s ≡ number_of c → ⊥) → u i ≡ S0
    other_zero c known e i s there other = by (differ_place v s known_v (are.known i s there) numbers)
      where
        known_v : (k : ℕ) → IsKnown (filled v k)
        known_v k = (equal_one v c e k).1

        number_v : number_of v ≡ number_of c
        number_v = same_number v c (λ k. ap digit_of (equal_one v c e k).0)

        numbers : number_of v ≡ number_of s → ⊥
        numbers f = other (sym f ∙ number_v)

        apart_known : (a b : Bit) → IsKnown a → IsKnown b → (digit_of a ≡ digit_of b) ⊎ (apart a b ≡ S0)
        apart_known S0 S0 h k = inl refl
        apart_known S1 S1 h k = inl refl
        apart_known S0 S1 h k = inr refl
        apart_known S1 S0 h k = inr refl
        apart_known S0 b h k = absurd k
        apart_known S1 b h k = absurd k
        apart_known a b h k = absurd h

        -- by induction on how many places are left
        differ_place : (as' bs : List Bit) → ((k : ℕ) → IsKnown (filled as' k)) → AreKnown bs → (number_of as' ≡ number_of bs → ⊥) → (k : ℕ) × (apart (filled as' k) (filled bs k) ≡ S0)
        differ_place [] [] ka kb n = absurd (n refl)
        differ_place [] (b ∷ bs) ka kb n =
            ⊎_elim
            (λ l. let later = differ_place [] bs (λ k. tt) kb.1 (λ f. n (omega (arith, f, l))) in (suc later.0, later.1))
            (λ r. (0, r)) (apart_known S0 b tt kb.0)
        differ_place (a ∷ as') [] ka kb n =
            ⊎_elim
            (λ l. let later = differ_place as' [] (λ k. ka (suc k)) tt (λ f. n (omega (arith, f, l))) in (suc later.0, later.1))
            (λ r. (0, r)) (apart_known a S0 (ka 0) tt)
        differ_place (a ∷ as') (b ∷ bs) ka kb n =
            ⊎_elim
            (λ l. let later = differ_place as' bs (λ k. ka (suc k)) kb.1 (λ f. n (omega (arith, f, l))) in (suc later.0, later.1))
            (λ r. (0, r)) (apart_known a b (ka 0) kb.0)

        by : (k : ℕ) × (apart (filled v k) (filled s k) ≡ S0) → u i ≡ S0
        by d = zero_at d.0 i s there d.1

    abbrev answer : ℕ → Bit
    answer n = bit_or_zero u (state_place states 0 n)

    -- a compare with a constant is below the bit of the state that the constant is, and below 0 where it is none
    pub compare_coded : (c : List Bit) → AreKnown c → Below (equal_of false v c) (answer (number_of c))
    compare_coded c known = by (equal_of false v c) refl (state_place states 0 (number_of c)) refl
      where
        by : (b : Bit) → equal_of false v c ≡ b → (o : Option ℕ) → state_place states 0 (number_of c) ≡ o → Below b (bit_or_zero u o)
        by S0 e None f = refl
        by S0 e (Some at) f =
            let found = place_found states 0 (number_of c) at f in
            let d = equal_zero v c e in
            let same : filled c d.0 ≡ filled found.1.0 d.0 = known_same (filled c d.0) (filled found.1.0 d.0) (known_filled c d.0 known) (known_filled found.1.0 d.0 (are.known found.0 found.1.0 found.1.1.1)) (same_digits c found.1.0 (sym found.1.1.2) d.0) in
            let place : found.0 ≡ at = omega (arith, found.1.1.0) in
            sym (ap u place) ∙ zero_at d.0 found.0 found.1.0 found.1.1.1 (ap (apart (filled v d.0)) (sym same) ∙ d.1)
        by S1 e None f =
            let first = state_there states 0 (omega (arith, are.two)) in
            let zero_all = (λ (i : ℕ) (s : List Bit) (there : slice_get states i ≡ Some s). other_zero c known e i s there (place_none states 0 (number_of c) f i s there)) in
            let one : u 0 ≡ S1 = hot 0 (omega (arith, are.two)) (λ j lt n. let there = state_there states j lt in zero_all j there.0 there.1) in
            absurd (no (sym one ∙ zero_all 0 first.0 first.1))
          where
            no : S1 ≡ S0 → ⊥
            no g = cc
        by S1 e (Some at) f =
            let found = place_found states 0 (number_of c) at f in
            let place : found.0 ≡ at = omega (arith, found.1.1.0) in
            ap u (sym place) ∙ hot found.0 (there_small states found.0 found.1.0 found.1.1.1) (λ j lt n. let there = state_there states j lt in other_zero c known e j there.0 there.1 (λ g. n (are.distinct j found.0 there.0 found.1.0 there.1 found.1.1.1 (g ∙ sym found.1.1.2))))
        by b e None f = tt
        by b e (Some at) f = tt
