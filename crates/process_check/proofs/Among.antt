-- What stands in lists.
use Rattle.std.proofs.Common.{◌≡◌, ◌⊎◌, ℕ, suc, ◌+◌, ◌<◌, ◌≤◌, Bool, true, false, ◌&&◌, ◌||◌, List, [], ◌∷◌, ◌++◌, length, get_or, drop, flat_map, nat_eq, append_assoc, append-nil, inl, inr, ⊎_elim, refl, sym, ◌∙◌, ap, subst, add-one}
use Rattle.std.proofs.lemmas.Bool.{eq-eqb, eqb-true, false≢true}
use Rattle.std.proofs.lemmas.List.{drop_all}
use Rattle.std.proofs.Math.Seq.{drop-cons}
use Rattle.std.specs.List.{list_any}
use Rattle.rtl_sig.specs.declared.sig.WireBit.{WireBit}
use Rattle.rtl_ir.specs.Signals.{has_bit, same_bit}
use Rattle.process_check.specs.Search.{In}
use Rattle.process_trees.proofs.Fronts.{front}

-- one of some items
abbrev pub Among : {A : Type 0} → A → List A → Type 0
Among x [] = ⊥
Among x (y ∷ ys) = (x ≡ y) ⊎ Among x ys

pub among-left : {A : Type 0} (x : A) (xs ys : List A) → Among x xs → Among x (xs ++ ys)
among-left x [] ys h = absurd h
among-left x (z ∷ zs) ys (inl e) = inl e
among-left x (z ∷ zs) ys (inr h) = inr (among-left x zs ys h)

pub among-right : {A : Type 0} (x : A) (xs ys : List A) → Among x ys → Among x (xs ++ ys)
among-right x [] ys h = h
among-right x (z ∷ zs) ys h = inr (among-right x zs ys h)

pub among-split : {A : Type 0} (x : A) (xs ys : List A) → Among x (xs ++ ys) → Among x xs ⊎ Among x ys
among-split x [] ys h = inr h
among-split x (z ∷ zs) ys (inl e) = inl (inl e)
among-split x (z ∷ zs) ys (inr h) = ⊎_elim (λ l. inl (inr l)) (λ r. inr r) (among-split x zs ys h)

pub In-split : (x : ℕ) (xs ys : List ℕ) → In x (xs ++ ys) → In x xs ⊎ In x ys
In-split x [] ys h = inr h
In-split x (z ∷ zs) ys (inl e) = inl (inl e)
In-split x (z ∷ zs) ys (inr h) = ⊎_elim (λ l. inl (inr l)) (λ r. inr r) (In-split x zs ys h)

-- a test of items
pub any-append : {A : Type 0} (f : A → Bool) (xs ys : List A) → list_any f (xs ++ ys) ≡ (list_any f xs || list_any f ys)
any-append f [] ys = refl
any-append f (x ∷ xs) ys = by (f x) (any-append f xs ys)
  where
    by : (t : Bool) → list_any f (xs ++ ys) ≡ (list_any f xs || list_any f ys) → (t || list_any f (xs ++ ys)) ≡ ((t || list_any f xs) || list_any f ys)
    by true e = refl
    by false e = e

pub any_found : {A : Type 0} (f : A → Bool) (xs : List A) → list_any f xs ≡ true → (x : A) × Among x xs × (f x ≡ true)
any_found f [] e = absurd (false≢true e)
any_found f (x ∷ xs) e = by (f x) refl (any_found f xs)
  where
    by : (t : Bool) → f x ≡ t → (list_any f xs ≡ true → (y : _) × Among y xs × (f y ≡ true)) → (y : _) × Among y (x ∷ xs) × (f y ≡ true)
    by true h rest = (x, inl refl, h)
    by false h rest =
        let r = rest (sym (ap (λ t. t || list_any f xs) h) ∙ e) in
        (r.0, inr r.1, r.2)

pub found_any : {A : Type 0} (f : A → Bool) (xs : List A) (x : A) → Among x xs → f x ≡ true → list_any f xs ≡ true
found_any f [] x h e = absurd h
found_any f (y ∷ ys) x (inl same) e = ap (λ t. t || list_any f ys) (ap f (sym same) ∙ e)
found_any f (y ∷ ys) x (inr h) e = ap (λ t. f y || t) (found_any f ys x h e) ∙ by (f y)
  where
    by : (t : Bool) → (t || true) ≡ true
    by true = refl
    by false = refl

-- a test of numbers
pub number_found : (f : ℕ → Bool) (xs : List ℕ) → list_any f xs ≡ true → (x : ℕ) × In x xs × (f x ≡ true)
number_found f [] e = absurd (false≢true e)
number_found f (x ∷ xs) e = by (f x) refl (number_found f xs)
  where
    by : (t : Bool) → f x ≡ t → (list_any f xs ≡ true → (y : ℕ) × In y xs × (f y ≡ true)) → (y : ℕ) × In y (x ∷ xs) × (f y ≡ true)
    by true h rest = (x, inl refl, h)
    by false h rest =
        let r = rest (sym (ap (λ t. t || list_any f xs) h) ∙ e) in
        (r.0, inr r.1, r.2)

pub found_number : (f : ℕ → Bool) (xs : List ℕ) (x : ℕ) → In x xs → f x ≡ true → list_any f xs ≡ true
found_number f [] x h e = absurd h
found_number f (y ∷ ys) x (inl same) e = ap (λ t. t || list_any f ys) (ap f (sym same) ∙ e)
found_number f (y ∷ ys) x (inr h) e = ap (λ t. f y || t) (found_number f ys x h e) ∙ by (f y)
  where
    by : (t : Bool) → (t || true) ≡ true
    by true = refl
    by false = refl

-- one of two tests
pub either : (x y : Bool) → (x || y) ≡ true → (x ≡ true) ⊎ (y ≡ true)
either true y e = inl refl
either false y e = inr e

pub both : (x y : Bool) → (x && y) ≡ true → (x ≡ true) × (y ≡ true)
both true true e = (refl, refl)
both true false e = absurd (false≢true e)
both false y e = absurd (false≢true e)

pub or_left : (x y : Bool) → x ≡ true → (x || y) ≡ true
or_left x y e = ap (λ t. t || y) e

pub or_right : (x y : Bool) → y ≡ true → (x || y) ≡ true
or_right true y e = refl
or_right false y e = e

-- bits
pub same_bit-refl : (b : WireBit) → same_bit b b ≡ true
same_bit-refl b = rw (eq-eqb b.wire b.wire refl, eq-eqb b.at b.at refl) refl

pub same_bit-true : (b c : WireBit) → same_bit b c ≡ true → b ≡ c
same_bit-true b c e =
    let p = both (nat_eq b.wire c.wire) (nat_eq b.at c.at) e in
    let wire = eqb-true b.wire c.wire p.0 in
    let at = eqb-true b.at c.at p.1 in
    (λ i. record { wire = wire i; at = at i })

pub has_among : (bits : List WireBit) (b : WireBit) → has_bit bits b ≡ true → Among b bits
has_among bits b e =
    let found = any_found (same_bit b) bits e in
    subst (λ c. Among c bits) (sym (same_bit-true b found.0 found.2)) found.1

pub among_has : (bits : List WireBit) (b : WireBit) → Among b bits → has_bit bits b ≡ true
among_has bits b h = found_any (same_bit b) bits b h (same_bit-refl b)

-- what is put last of one item after the other
module _ {A B : Type 0} (whole : List A → List B) (part : A → List B) (cons : (x : A) (xs : List A) → whole (x ∷ xs) ≡ part x ++ whole xs) where
  pub put_next : (items : List A) (k : ℕ) (x : A) → k < length items → x ≡ get_or items k x
      → (done new all : List B) → new ≡ done ++ part x → done ++ whole (drop k items) ≡ all → new ++ whole (drop (k + 1) items) ≡ all
  put_next items k x lt is done new all put before =
      ap (λ ys. ys ++ whole (drop (k + 1) items)) put
      ∙ append_assoc done (part x) (whole (drop (k + 1) items))
      ∙ ap (λ ys. done ++ ys) (sym (cons x (drop (k + 1) items)) ∙ ap whole (sym (front items k x lt is)))
      ∙ before

  pub put_next_at : (items : List A) (k : ℕ) (d : A) → k < length items
      → (done new all : List B) → new ≡ done ++ part (get_or items k d) → done ++ whole (drop k items) ≡ all → new ++ whole (drop (k + 1) items) ≡ all
  put_next_at items k d lt done new all put before =
      let next : suc k ≡ k + 1 = sym (add-one k) in
      let here : drop k items ≡ get_or items k d ∷ drop (k + 1) items = drop-cons items k d lt ∙ (λ j. get_or items k d ∷ drop (next j) items) in
      ap (λ ys. ys ++ whole (drop (k + 1) items)) put
      ∙ append_assoc done (part (get_or items k d)) (whole (drop (k + 1) items))
      ∙ ap (λ ys. done ++ ys) (sym (cons (get_or items k d) (drop (k + 1) items)) ∙ ap whole (sym here))
      ∙ before

  pub put_all : whole [] ≡ [] → (items : List A) (k : ℕ) → length items ≤ k → (done all : List B) → done ++ whole (drop k items) ≡ all → done ≡ all
  put_all none items k past done all before =
      sym (append-nil done) ∙ ap (λ ys. done ++ ys) (sym none ∙ ap whole (sym (drop_all k items past))) ∙ before

pub flat_map-append : {A B : Type 0} (f : A → List B) (xs ys : List A) → flat_map f (xs ++ ys) ≡ flat_map f xs ++ flat_map f ys
flat_map-append f [] ys = refl
flat_map-append f (x ∷ xs) ys = ap (λ zs. f x ++ zs) (flat_map-append f xs ys) ∙ sym (append_assoc (f x) (flat_map f xs) (flat_map f ys))
