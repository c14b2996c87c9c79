-- Lists whose items all stand in another list, and in which nothing stands twice where nothing does there.
use Rattle.std.proofs.Common.{◌≡◌, Bool, true, false, List, [], ◌∷◌, ◌++◌, inl, inr, ⊎_elim, refl, sym, ◌∙◌, ap, subst}
use Rattle.std.specs.Prelude.{map, filter, if◌then◌else◌}
use Rattle.net_model.specs.Lists.{In, Distinct}
use Rattle.net_model.proofs.Members.{In-left, In-right, In-cases, In-map, In-mapped, apart_at, apart_from, Distinct-append}

-- each of the first list is in the second, and nothing stands twice where nothing does in the second
pub record IsPart {A : Type 0} (xs ys : List A) : Type 0 where
  pub each : (x : A) → In x xs → In x ys
  pub once : Distinct ys → Distinct xs

pub part_same : {A : Type 0} (xs : List A) → IsPart xs xs
part_same xs = record { each = λ x i. i; once = λ u. u }

pub part_none : {A : Type 0} (ys : List A) → IsPart [] ys
part_none ys = record { each = λ x i. absurd i; once = λ u. tt }

pub part_trans : {A : Type 0} (xs ys zs : List A) → IsPart xs ys → IsPart ys zs → IsPart xs zs
part_trans xs ys zs h k = record { each = λ x i. k.each x (h.each x i); once = λ u. h.once (k.once u) }

-- what two lists behind one another have where nothing stands twice
pub record AreApart {A : Type 0} (xs ys : List A) : Type 0 where
  pub first : Distinct xs
  pub second : Distinct ys
  pub both : (x : A) → In x xs → In x ys → ⊥

pub apart_parts : {A : Type 0} (xs ys : List A) → Distinct (xs ++ ys) → AreApart xs ys
apart_parts [] ys u = record { first = tt; second = u; both = λ x i j. absurd i }
apart_parts (x ∷ xs) ys u =
    let k = apart_parts xs ys u.1 in
    record {
      first = (apart_from x xs (λ y i e. apart_at x (xs ++ ys) u.0 y (In-left y xs ys i) e), k.first);
      second = k.second;
      both = λ y i j. ⊎_elim (λ e. apart_at x (xs ++ ys) u.0 y (In-right y xs ys j) (sym e)) (λ l. k.both y l j) i;
    }

pub apart_join : {A : Type 0} (xs ys : List A) → AreApart xs ys → Distinct (xs ++ ys)
apart_join xs ys k = Distinct-append xs ys k.first k.second k.both

pub part_both : {A : Type 0} (xs xs' ys ys' : List A) → IsPart xs ys → IsPart xs' ys' → IsPart (xs ++ xs') (ys ++ ys')
part_both xs xs' ys ys' h k = record {
  each = λ x i. ⊎_elim (λ l. In-left x ys ys' (h.each x l)) (λ r. In-right x ys ys' (k.each x r)) (In-cases x xs xs' i);
  once = λ u. let a = apart_parts ys ys' u in
      Distinct-append xs xs' (h.once a.first) (k.once a.second) (λ x i j. a.both x (h.each x i) (k.each x j));
}

pub part_more : {A : Type 0} (x : A) (xs ys : List A) → IsPart xs ys → IsPart (x ∷ xs) (x ∷ ys)
part_more x xs ys h = part_both (x ∷ []) xs (x ∷ []) ys (part_same (x ∷ [])) h

pub part_left : {A : Type 0} (xs ys : List A) → IsPart xs (xs ++ ys)
part_left xs ys = record { each = λ x i. In-left x xs ys i; once = λ u. (apart_parts xs ys u).first }

pub part_right : {A : Type 0} (xs ys : List A) → IsPart ys (xs ++ ys)
part_right xs ys = record { each = λ x i. In-right x xs ys i; once = λ u. (apart_parts xs ys u).second }

-- two lists in the other order
pub part_flip : {A : Type 0} (xs ys : List A) → IsPart (xs ++ ys) (ys ++ xs)
part_flip xs ys = record {
  each = λ x i. ⊎_elim (λ l. In-right x ys xs l) (λ r. In-left x ys xs r) (In-cases x xs ys i);
  once = λ u. let a = apart_parts ys xs u in Distinct-append xs ys a.second a.first (λ x i j. a.both x j i);
}

-- pairs of lists, the first ones of all before the second ones
pub part_exchange : {A : Type 0} (a b c d : List A) → IsPart ((a ++ b) ++ (c ++ d)) ((a ++ c) ++ (b ++ d))
part_exchange a b c d = record {
  each = λ x i.
      ⊎_elim
      (λ l. ⊎_elim (λ j. In-left x (a ++ c) (b ++ d) (In-left x a c j)) (λ j. In-right x (a ++ c) (b ++ d) (In-left x b d j)) (In-cases x a b l))
      (λ r. ⊎_elim (λ j. In-left x (a ++ c) (b ++ d) (In-right x a c j)) (λ j. In-right x (a ++ c) (b ++ d) (In-right x b d j)) (In-cases x c d r))
      (In-cases x (a ++ b) (c ++ d) i);
  once = λ u.
      let k = apart_parts (a ++ c) (b ++ d) u in
      let l = apart_parts a c k.first in
      let r = apart_parts b d k.second in
      Distinct-append (a ++ b) (c ++ d)
      (Distinct-append a b l.first r.first (λ x i j. k.both x (In-left x a c i) (In-left x b d j)))
      (Distinct-append c d l.second r.second (λ x i j. k.both x (In-right x a c i) (In-right x b d j)))
      (λ x i j. ⊎_elim
      (λ p. ⊎_elim (λ q. l.both x p q) (λ q. k.both x (In-left x a c p) (In-right x b d q)) (In-cases x c d j))
      (λ p. ⊎_elim (λ q. k.both x (In-right x a c q) (In-left x b d p)) (λ q. r.both x p q) (In-cases x c d j))
      (In-cases x a b i));
}

pub part_pair : {A : Type 0} (xs ys a b c d : List A) → IsPart xs (a ++ b) → IsPart ys (c ++ d) → IsPart (xs ++ ys) ((a ++ c) ++ (b ++ d))
part_pair xs ys a b c d h k =
    part_trans (xs ++ ys) ((a ++ b) ++ (c ++ d)) ((a ++ c) ++ (b ++ d)) (part_both xs ys (a ++ b) (c ++ d) h k) (part_exchange a b c d)

-- what f takes to one item of a list where nothing stands twice afterwards is one item
pub one_from : {A B : Type 0} (f : A → B) (xs : List A) → Distinct (map f xs) → (x y : A) → In x xs → In y xs → f x ≡ f y → x ≡ y
one_from f [] u x y i j e = absurd i
one_from f (z ∷ zs) u x y (inl p) (inl q) e = p ∙ sym q
one_from f (z ∷ zs) u x y (inl p) (inr j) e =
    absurd (apart_at (f z) (map f zs) u.0 (f y) (In-map f y zs j) (ap f (sym p) ∙ e))
one_from f (z ∷ zs) u x y (inr i) (inl q) e =
    absurd (apart_at (f z) (map f zs) u.0 (f x) (In-map f x zs i) (ap f (sym q) ∙ sym e))
one_from f (z ∷ zs) u x y (inr i) (inr j) e = one_from f zs u.1 x y i j e

pub distinct_before : {A B : Type 0} (f : A → B) (xs : List A) → Distinct (map f xs) → Distinct xs
distinct_before f [] u = tt
distinct_before f (x ∷ xs) u =
    (apart_from x xs (λ y i e. apart_at (f x) (map f xs) u.0 (f y) (In-map f y xs i) (ap f e)), distinct_before f xs u.1)

pub distinct_map : {A B : Type 0} (f : A → B) (xs : List A) → ((x y : A) → In x xs → In y xs → f x ≡ f y → x ≡ y) → Distinct xs → Distinct (map f xs)
distinct_map f [] h u = tt
distinct_map f (x ∷ xs) h u = (
  apart_from (f x) (map f xs) (λ y i e. let k = In-mapped f y xs i in
      apart_at x xs u.0 k.0 k.1 (h x k.0 (inl refl) (inr k.1) (e ∙ k.2))),
  distinct_map f xs (λ y z i j. h y z (inr i) (inr j)) u.1,
)

pub part_map : {A B : Type 0} (f : A → B) (xs ys : List A) → IsPart xs ys → IsPart (map f xs) (map f ys)
part_map f xs ys h = record {
  each = λ y i. let k = In-mapped f y xs i in subst (λ z. In z (map f ys)) (sym k.2) (In-map f k.0 ys (h.each k.0 k.1));
  once = λ u. distinct_map f xs (λ x y i j e. one_from f ys u x y (h.each x i) (h.each y j) e) (h.once (distinct_before f ys u));
}

pub part_filter : {A : Type 0} (test : A → Bool) (xs : List A) → IsPart (filter test xs) xs
part_filter test [] = part_none []
part_filter test (x ∷ xs) = by (test x) (part_filter test xs)
  where
    by : (t : Bool) → IsPart (filter test xs) xs → IsPart (if t then x ∷ filter test xs else filter test xs) (x ∷ xs)
    by true h = part_more x (filter test xs) xs h
    by false h = part_trans (filter test xs) xs (x ∷ xs) h (part_right (x ∷ []) xs)

-- an equal list
pub part_is : {A : Type 0} (xs ys : List A) → xs ≡ ys → IsPart xs ys
part_is xs ys e = subst (IsPart xs) e (part_same xs)
