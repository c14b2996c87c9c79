-- Folds of bits: all are 1, or one is.
use Rattle.std.proofs.Common.{◌≡◌, List, [], ◌∷◌, map, ◌⊎◌, inl, inr, ⊎_elim, refl, sym, ◌∙◌, subst}
use Rattle.std.specs.List.{fold}
use Rattle.rtl_bits.specs.Knowledge.{Below}
use Rattle.rtl_bits.specs.Tables.{and_of, or_of}
use Rattle.rtl_bits.specs.declared.bit.Bit.{Bit}
use Rattle.rtl_bits.specs.declared.bit.Bit.TheVariants.{S0, S1, X, Z, M, Dash}
use Rattle.net_model.specs.Lists.{In}

-- a table of two bits makes one known bit where one of the two is that bit, and the other known bit where both are the other
pub record IsFold (op : Bit → Bit → Bit) (low high : Bit) : Type 0 where
  pub one : (a b : Bit) → op a b ≡ high → (a ≡ high) ⊎ (b ≡ high)
  pub left : (a b : Bit) → a ≡ high → op a b ≡ high
  pub right : (a b : Bit) → b ≡ high → op a b ≡ high
  pub each : (a b : Bit) → op a b ≡ low → (a ≡ low) × (b ≡ low)
  pub both : (a b : Bit) → a ≡ low → b ≡ low → op a b ≡ low
  pub apart : low ≡ high → ⊥
  pub below : (a b : Bit) → (a ≡ low → b ≡ low) → (a ≡ high → b ≡ high) → Below a b
  pub at_low : (a b : Bit) → Below a b → a ≡ low → b ≡ low
  pub at_high : (a b : Bit) → Below a b → a ≡ high → b ≡ high

below_zero : (a b : Bit) → Below a b → a ≡ S0 → b ≡ S0
below_zero a b h e = subst (λ z. Below z b) e h

below_one : (a b : Bit) → Below a b → a ≡ S1 → b ≡ S1
below_one a b h e = subst (λ z. Below z b) e h

below_by : (a b : Bit) → (a ≡ S0 → b ≡ S0) → (a ≡ S1 → b ≡ S1) → Below a b
below_by S0 b h k = h refl
below_by S1 b h k = k refl
below_by X b h k = tt
below_by Z b h k = tt
below_by M b h k = tt
below_by Dash b h k = tt

or_one : (a b : Bit) → or_of a b ≡ S1 → (a ≡ S1) ⊎ (b ≡ S1)
or_one S1 b e = inl refl
or_one S0 S1 e = inr refl
or_one X S1 e = inr refl
or_one Z S1 e = inr refl
or_one M S1 e = inr refl
or_one Dash S1 e = inr refl
or_one a b e = absurd (cc)

or_left : (a b : Bit) → a ≡ S1 → or_of a b ≡ S1
or_left a b e = subst (λ z. or_of z b ≡ S1) (sym e) refl

or_right : (a b : Bit) → b ≡ S1 → or_of a b ≡ S1
or_right S1 b e = refl
or_right S0 S1 e = refl
or_right X S1 e = refl
or_right Z S1 e = refl
or_right M S1 e = refl
or_right Dash S1 e = refl
or_right a b e = absurd (cc)

or_each : (a b : Bit) → or_of a b ≡ S0 → (a ≡ S0) × (b ≡ S0)
or_each S0 S0 e = (refl, refl)
or_each X S1 e = absurd (cc)
or_each Z S1 e = absurd (cc)
or_each M S1 e = absurd (cc)
or_each Dash S1 e = absurd (cc)
or_each a b e = absurd (cc)

or_both : (a b : Bit) → a ≡ S0 → b ≡ S0 → or_of a b ≡ S0
or_both a b e f = (λ i. or_of (e i) (f i))

and_one : (a b : Bit) → and_of a b ≡ S0 → (a ≡ S0) ⊎ (b ≡ S0)
and_one S0 b e = inl refl
and_one S1 S0 e = inr refl
and_one X S0 e = inr refl
and_one Z S0 e = inr refl
and_one M S0 e = inr refl
and_one Dash S0 e = inr refl
and_one a b e = absurd (cc)

and_left : (a b : Bit) → a ≡ S0 → and_of a b ≡ S0
and_left a b e = subst (λ z. and_of z b ≡ S0) (sym e) refl

and_right : (a b : Bit) → b ≡ S0 → and_of a b ≡ S0
and_right S0 b e = refl
and_right S1 S0 e = refl
and_right X S0 e = refl
and_right Z S0 e = refl
and_right M S0 e = refl
and_right Dash S0 e = refl
and_right a b e = absurd (cc)

and_each : (a b : Bit) → and_of a b ≡ S1 → (a ≡ S1) × (b ≡ S1)
and_each S1 S1 e = (refl, refl)
and_each X S0 e = absurd (cc)
and_each Z S0 e = absurd (cc)
and_each M S0 e = absurd (cc)
and_each Dash S0 e = absurd (cc)
and_each a b e = absurd (cc)

and_both : (a b : Bit) → a ≡ S1 → b ≡ S1 → and_of a b ≡ S1
and_both a b e f = (λ i. and_of (e i) (f i))

pub or_folds : IsFold or_of S0 S1
or_folds = record {
  one = or_one;
  left = or_left;
  right = or_right;
  each = or_each;
  both = or_both;
  apart = λ e. absurd (cc);
  below = below_by;
  at_low = below_zero;
  at_high = below_one;
}

pub and_folds : IsFold and_of S1 S0
and_folds = record {
  one = and_one;
  left = and_left;
  right = and_right;
  each = and_each;
  both = and_both;
  apart = λ e. absurd (cc);
  below = λ a b h k. below_by a b k h;
  at_low = below_one;
  at_high = below_zero;
}

module _ (op : Bit → Bit → Bit) (low high : Bit) (law : IsFold op low high) where
  -- one of the bits is the high one
  fold_one : (acc : Bit) (xs : List Bit) → fold op acc xs ≡ high → (acc ≡ high) ⊎ ((x : Bit) × In x xs × (x ≡ high))
  fold_one acc [] e = inl e
  fold_one acc (x ∷ xs) e =
      ⊎_elim
      (λ l. ⊎_elim (λ a. inl a) (λ b. inr (x, inl refl, b)) (law.one acc x l))
      (λ r. inr (r.0, inr r.1, r.2))
      (fold_one (op acc x) xs e)

  one_fold : (acc : Bit) (xs : List Bit) → acc ≡ high → fold op acc xs ≡ high
  one_fold acc [] e = e
  one_fold acc (x ∷ xs) e = one_fold (op acc x) xs (law.left acc x e)

  one_in : (acc : Bit) (xs : List Bit) (x : Bit) → In x xs → x ≡ high → fold op acc xs ≡ high
  one_in acc [] x i e = absurd i
  one_in acc (y ∷ xs) x (inl here) e = one_fold (op acc y) xs (law.right acc y (sym here ∙ e))
  one_in acc (y ∷ xs) x (inr i) e = one_in (op acc y) xs x i e

  -- each of the bits is the low one
  each_fold : (acc : Bit) (xs : List Bit) → fold op acc xs ≡ low → (acc ≡ low) × ((x : Bit) → In x xs → x ≡ low)
  each_fold acc [] e = (e, λ x i. absurd i)
  each_fold acc (y ∷ xs) e =
      let later = each_fold (op acc y) xs e in
      let both = law.each acc y later.0 in
      (both.0, λ x i. ⊎_elim (λ here. here ∙ both.1) (λ r. later.1 x r) i)

  fold_each : (acc : Bit) (xs : List Bit) → acc ≡ low → ((x : Bit) → In x xs → x ≡ low) → fold op acc xs ≡ low
  fold_each acc [] e h = e
  fold_each acc (y ∷ xs) e h = fold_each (op acc y) xs (law.both acc y e (h y (inl refl))) (λ x i. h x (inr i))

  -- from low on, the high bit comes of one of the bits
  pub high_from : (xs : List Bit) → fold op low xs ≡ high → (x : Bit) × In x xs × (x ≡ high)
  high_from xs e = ⊎_elim (λ a. absurd (law.apart a)) (λ b. b) (fold_one low xs e)

  pub high_in : (xs : List Bit) (x : Bit) → In x xs → x ≡ high → fold op low xs ≡ high
  high_in xs x i e = one_in low xs x i e

  pub low_from : (xs : List Bit) → fold op low xs ≡ low → (x : Bit) → In x xs → x ≡ low
  low_from xs e = (each_fold low xs e).1

  pub low_in : (xs : List Bit) → ((x : Bit) → In x xs → x ≡ low) → fold op low xs ≡ low
  low_in xs h = fold_each low xs refl h

  mono : (a b c d : Bit) → Below a b → Below c d → Below (op a c) (op b d)
  mono a b c d k l =
      law.below (op a c) (op b d)
      (λ e. let parts = law.each a c e in law.both b d (law.at_low a b k parts.0) (law.at_low c d l parts.1))
      (λ e. ⊎_elim (λ x. law.left b d (law.at_high a b k x)) (λ y. law.right b d (law.at_high c d l y)) (law.one a c e))

  mono_from : {A : Type 0} (f g : A → Bit) (a b : Bit) → Below a b → (xs : List A) → ((x : A) → In x xs → Below (f x) (g x)) → Below (fold op a (map f xs)) (fold op b (map g xs))
  mono_from f g a b k [] h = k
  mono_from f g a b k (x ∷ xs) h = mono_from f g (op a (f x)) (op b (g x)) (mono a b (f x) (g x) k (h x (inl refl))) xs (λ y i. h y (inr i))

  -- bits that stand for others, one by one, are no less known
  pub fold_mono : {A : Type 0} (f g : A → Bit) (xs : List A) → ((x : A) → In x xs → Below (f x) (g x)) → Below (fold op low (map f xs)) (fold op low (map g xs))
  fold_mono f g xs h = mono_from f g low low (law.below low low (λ e. e) (λ e. e)) xs h
