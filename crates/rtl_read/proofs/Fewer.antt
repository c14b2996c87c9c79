-- Where a name stands in two lists, one after the other.
use Rattle.std.proofs.Common.{◌≡◌, ℕ, suc, ◌+◌, ◌<◌, ◌≤◌, Bool, true, false, not, cond, List, [], ◌∷◌, ◌++◌, length, get_or, Option, Some, None, Result, Ok, Err, refl, sym, subst, ◌∙◌, ap, arith, append_assoc, length-append, lt-ltb, le-ltb, ltb-true, ltb-false}
use Rattle.std.specs.Prelude.{◌||◌, is_some, nat_lt, option_map, IfOk, OnOk, SomeIff}
use Rattle.std.specs.Option.{ok_or}
use Rattle.std.specs.List.{list_any, position, position_or_len}
use Rattle.std.proofs.lemmas.List.{append-nil}
use Rattle.std.proofs.lemmas.List.Folds.{list_any-append}
use Rattle.std.proofs.lemmas.List.Sums.{position_or_len_is}

module _ {X : Type 0} (p : X → Bool) where
  -- the first place that passes
  pub found_at : (xs : List X) (d : X) (at : ℕ) → at < length xs → ((k : ℕ) → k < at → p (get_or xs k d) ≡ false) → p (get_or xs at d) ≡ true → Some at ≡ position p xs
  found_at xs d at lt before here =
      let is : position_or_len p xs ≡ at = position_or_len_is p xs at d (omega (arith, lt)) before (λ _. here) in
      let inside : nat_lt (position_or_len p xs) (length xs) ≡ true = lt-ltb (position_or_len p xs) (length xs) (omega (arith, is, lt)) in
      sym (ap (λ t. cond t (Some (position_or_len p xs)) None) inside ∙ ap Some is)

  pub found_none : (xs : List X) (d : X) (at : ℕ) → length xs ≤ at → ((k : ℕ) → k < at → p (get_or xs k d) ≡ false) → None ≡ position p xs
  found_none xs d at le before =
      let is : position_or_len p xs ≡ length xs = position_or_len_is p xs (length xs) d (omega arith) (λ k lt. before k (omega (arith, lt, le))) (λ lt. absurd (omega (arith, lt))) in
      sym (ap (λ t. cond t (Some (position_or_len p xs)) None) (le-ltb (position_or_len p xs) (length xs) (omega (arith, is))))

  -- it stands in the first list
  first_part : (a b : List X) → position_or_len p a < length a → position_or_len p (a ++ b) ≡ position_or_len p a
  first_part [] b h = absurd (omega arith)
  first_part (x ∷ a) b h = by (p x) (first_part a b) h
    where
      by : (t : Bool) → (position_or_len p a < length a → position_or_len p (a ++ b) ≡ position_or_len p a) → cond (not t) (1 + position_or_len p a) 0 < suc (length a)
          → cond (not t) (1 + position_or_len p (a ++ b)) 0 ≡ cond (not t) (1 + position_or_len p a) 0
      by true so lt = refl
      by false so lt = ap (λ n. 1 + n) (so (omega (arith, lt)))

  -- it does not
  second_part : (a b : List X) → length a ≤ position_or_len p a → position_or_len p (a ++ b) ≡ length a + position_or_len p b
  second_part [] b h = omega arith
  second_part (x ∷ a) b h = by (p x) (second_part a b) h
    where
      by : (t : Bool) → (length a ≤ position_or_len p a → position_or_len p (a ++ b) ≡ length a + position_or_len p b) → suc (length a) ≤ cond (not t) (1 + position_or_len p a) 0
          → cond (not t) (1 + position_or_len p (a ++ b)) 0 ≡ suc (length a) + position_or_len p b
      by true so le = absurd (omega (arith, le))
      by false so le = let e = so (omega (arith, le)) in omega (arith, e)

  any_first : (a : List X) → position_or_len p a < length a → list_any p a ≡ true
  any_first [] h = absurd (omega arith)
  any_first (x ∷ a) h = by (p x) (any_first a) h
    where
      by : (t : Bool) → (position_or_len p a < length a → list_any p a ≡ true) → cond (not t) (1 + position_or_len p a) 0 < suc (length a) → (t || list_any p a) ≡ true
      by true so lt = refl
      by false so lt = so (omega (arith, lt))

  none_first : (a : List X) → length a ≤ position_or_len p a → list_any p a ≡ false
  none_first [] h = refl
  none_first (x ∷ a) h = by (p x) (none_first a) h
    where
      by : (t : Bool) → (length a ≤ position_or_len p a → list_any p a ≡ false) → suc (length a) ≤ cond (not t) (1 + position_or_len p a) 0 → (t || list_any p a) ≡ false
      by true so le = absurd (omega (arith, le))
      by false so le = so (omega (arith, le))

  -- what a place in the first list says
  low : (a : List X) (k : ℕ) → position p a ≡ Some k → (position_or_len p a ≡ k) × (position_or_len p a < length a)
  low a k e = by (nat_lt (position_or_len p a) (length a)) refl e
    where
      by : (t : Bool) → nat_lt (position_or_len p a) (length a) ≡ t → cond t (Some (position_or_len p a)) None ≡ Some k → (position_or_len p a ≡ k) × (position_or_len p a < length a)
      by true f g = (let same : position_or_len p a ≡ k = cc in same, ltb-true (position_or_len p a) (length a) f)
      by false f g = absurd (cc)

  high : (a : List X) → position p a ≡ None → length a ≤ position_or_len p a
  high a e = by (nat_lt (position_or_len p a) (length a)) refl e
    where
      by : (t : Bool) → nat_lt (position_or_len p a) (length a) ≡ t → cond t (Some (position_or_len p a)) None ≡ None → length a ≤ position_or_len p a
      by true f g = absurd (cc)
      by false f g = ltb-false (position_or_len p a) (length a) f

  -- a name of the first list
  pub there : (a b : List X) (k : ℕ) → position p a ≡ Some k → is_some (position p (a ++ b)) ≡ true
  there a b k e =
      let w = low a k e in
      let same = first_part a b w.1 in
      let longer = length-append a b in
      ap (λ t. is_some (cond t (Some (position_or_len p (a ++ b))) None)) (lt-ltb (position_or_len p (a ++ b)) (length (a ++ b)) (omega (arith, w.1, same, longer)))

  pub numbered : (a b : List X) (k : ℕ) → position p a ≡ Some k → k ≡ position_or_len p (a ++ b)
  numbered a b k e = let w = low a k e in sym (first_part a b w.1 ∙ w.0)

  -- one of the second list, or none
  pub beyond : (a b : List X) → position p a ≡ None → is_some (position p (a ++ b)) ≡ is_some (position p b)
  beyond a b e = by (nat_lt (position_or_len p b) (length b)) refl
    where
      more : position_or_len p (a ++ b) ≡ length a + position_or_len p b
      more = second_part a b (high a e)

      by : (t : Bool) → nat_lt (position_or_len p b) (length b) ≡ t → is_some (position p (a ++ b)) ≡ is_some (cond t (Some (position_or_len p b)) None)
      by true f =
          let lt = ltb-true (position_or_len p b) (length b) f in
          let longer = length-append a b in
          ap (λ t. is_some (cond t (Some (position_or_len p (a ++ b))) None)) (lt-ltb (position_or_len p (a ++ b)) (length (a ++ b)) (omega (arith, lt, more, longer)))
      by false f =
          let le = ltb-false (position_or_len p b) (length b) f in
          let longer = length-append a b in
          ap (λ t. is_some (cond t (Some (position_or_len p (a ++ b))) None)) (le-ltb (position_or_len p (a ++ b)) (length (a ++ b)) (omega (arith, le, more, longer)))

  pub numbered_on : (a b : List X) (n : ℕ) → position p a ≡ None → n ≡ length a + position_or_len p b → n ≡ position_or_len p (a ++ b)
  numbered_on a b n e is = is ∙ sym (second_part a b (high a e))

  -- the names, once this one is seen
  pub kept : (a b : List X) (x : X) (k : ℕ) → position p a ≡ Some k → a ++ b ≡ cond (list_any p (a ++ b)) (a ++ b) ((a ++ b) ++ x ∷ [])
  kept a b x k e =
      let any : list_any p (a ++ b) ≡ true = list_any-append p a b ∙ ap (λ t. t || list_any p b) (any_first a (low a k e).1) in
      sym (ap (λ t. cond t (a ++ b) ((a ++ b) ++ x ∷ [])) any)

  pub added : (a b : List X) (x : X) → position p a ≡ None → b ≡ [] → (a ++ x ∷ []) ++ b ≡ cond (list_any p (a ++ b)) (a ++ b) ((a ++ b) ++ x ∷ [])
  added a b x e none =
      let any : list_any p (a ++ b) ≡ false = ap (λ (ys : List X). list_any p (a ++ ys)) none ∙ ap (list_any p) (append-nil a) ∙ none_first a (high a e) in
      ap (λ (ys : List X). (a ++ x ∷ []) ++ ys) none ∙ append-nil (a ++ x ∷ []) ∙ ap (λ (ys : List X). ys ++ x ∷ []) (sym (ap (λ (ys : List X). a ++ ys) none ∙ append-nil a))
      ∙ sym (ap (λ t. cond t (a ++ b) ((a ++ b) ++ x ∷ [])) any)

  pub passed : (a b new : List X) (x : X) → position p a ≡ None → new ≡ cond (list_any p b) b (b ++ x ∷ []) → a ++ new ≡ cond (list_any p (a ++ b)) (a ++ b) ((a ++ b) ++ x ∷ [])
  passed a b new x e is =
      let any : list_any p (a ++ b) ≡ list_any p b = list_any-append p a b ∙ ap (λ t. t || list_any p b) (none_first a (high a e)) in
      ap (λ ys. a ++ ys) is ∙ by (list_any p b) ∙ ap (λ t. cond t (a ++ b) ((a ++ b) ++ x ∷ [])) (sym any)
    where
      by : (t : Bool) → a ++ cond t b (b ++ x ∷ []) ≡ cond t (a ++ b) ((a ++ b) ++ x ∷ [])
      by true = refl
      by false = sym (append_assoc a b (x ∷ []))

-- whether something is there does not depend on what is made of it
pub some_mapped : {A B : Type 0} (f : A → B) (o : Option A) (b : Option B) → option_map f o ≡ b → is_some o ≡ is_some b
some_mapped f None b e = ap is_some e
some_mapped f (Some a) b e = ap is_some e

-- a sum, where it fits
pub sum_is : {E : Type 0} (o : Option ℕ) (r : Result ℕ E) (P : Type 0) (sum is : ℕ) (e : E) → SomeIff o P sum → r ≡ ok_or o e → sum ≡ is → IfOk r (λ n. n ≡ is)
sum_is (Some n) r P sum is e h same so = subst (λ t. IfOk t (λ m. m ≡ is)) (sym same) (h.1 ∙ so)
sum_is None r P sum is e h same so = subst (λ t. IfOk t (λ m. m ≡ is)) (sym same) tt

-- what holds anyway
pub on_ok : {A E : Type 0} (r : Result A E) (P : Type 0) → P → OnOk r P
on_ok (Ok a) P h = h
on_ok (Err e) P h = tt
