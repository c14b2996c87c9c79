-- What a list has in which each bit that counts stands once, and that a fold of it says no less.
use Rattle.std.proofs.Common.{◌≡◌, ◌<◌, Bool, true, false, List, [], ◌∷◌, ◌++◌, length, map, ◌⊎◌, inl, inr, ⊎_elim, refl, sym, ◌∙◌, ap, subst, arith}
use Rattle.std.specs.Prelude.{◌||◌, flat_map, if◌then◌else◌}
use Rattle.std.specs.List.{fold, list_any}
use Rattle.rtl_bits.specs.Knowledge.{Below}
use Rattle.rtl_bits.specs.declared.bit.Bit.{Bit}
use Rattle.rtl_sig.specs.declared.sig.SigBit.{SigBit}
use Rattle.rtl_sig.specs.declared.sig.SigBit.TheVariants.{Fixed}
use Rattle.rtl_ir.specs.Signals.{same_place}
use Rattle.net_model.proofs.Members.{In-cases, In-left, In-map, In-mapped, In-right}
use Rattle.net_model.specs.Lists.{In}
use Rattle.pass_laws.proofs.SamePlaces.{place_is}
use Rattle.opt_more.specs.Reduce.{or_neutral, with_bit}
use Rattle.opt_more.proofs.FoldBits.{IsFold, high_from, high_in, low_from, low_in}

-- a bit that a test finds is there
any_in : (b : SigBit) (bits : List SigBit) → list_any (same_place b) bits ≡ true → In b bits
any_in b [] e = absurd (cc)
any_in b (x ∷ bits) e = by (same_place b x) refl e (any_in b bits)
  where
    by : (t : Bool) → same_place b x ≡ t → (t || list_any (same_place b) bits) ≡ true → (list_any (same_place b) bits ≡ true → In b bits) → In b (x ∷ bits)
    by true f g later = inl (place_is b x f)
    by false f g later = inr (later g)

-- what stands in one of the lists that are joined
pub in_flat : {A B : Type 0} (g : A → List B) (xs : List A) (y : B) → In y (flat_map g xs) → (x : A) × In x xs × In y (g x)
in_flat g [] y i = absurd i
in_flat g (x ∷ xs) y i =
    ⊎_elim (λ l. (x, inl refl, l)) (λ r. let k = in_flat g xs y r in (k.0, inr k.1, k.2)) (In-cases y (g x) (flat_map g xs) i)

flat_in : {A B : Type 0} (g : A → List B) (xs : List A) (x : A) (y : B) → In x xs → In y (g x) → In y (flat_map g xs)
flat_in g [] x y i j = absurd i
flat_in g (z ∷ xs) x y (inl e) j = In-left y (g z) (flat_map g xs) (subst (λ q. In y (g q)) e j)
flat_in g (z ∷ xs) x y (inr i) j = In-right y (g z) (flat_map g xs) (flat_in g xs x y i j)

module _ (neutral : Bit) where
  with_in : (acc : List SigBit) (b x : SigBit) → In x (with_bit neutral acc b) → In x acc ⊎ (x ≡ b)
  with_in acc b x i = by (same_place (Fixed neutral) b || list_any (same_place b) acc) i
    where
      by : (t : Bool) → In x (if t then acc else acc ++ b ∷ []) → In x acc ⊎ (x ≡ b)
      by true i = inl i
      by false i = ⊎_elim (λ l. inl l) (λ r. ⊎_elim (λ e. inr e) (λ z. absurd z) r) (In-cases x acc (b ∷ []) i)

  in_with : (acc : List SigBit) (b x : SigBit) → In x acc ⊎ (x ≡ b) → In x (with_bit neutral acc b) ⊎ (x ≡ Fixed neutral)
  in_with acc b x h = by (same_place (Fixed neutral) b) (list_any (same_place b) acc) refl refl h
    where
      by : (t u : Bool) → same_place (Fixed neutral) b ≡ t → list_any (same_place b) acc ≡ u → In x acc ⊎ (x ≡ b) → In x (if t || u then acc else acc ++ b ∷ []) ⊎ (x ≡ Fixed neutral)
      by true u e f (inl i) = inl i
      by true u e f (inr h) = inr (h ∙ sym (place_is (Fixed neutral) b e))
      by false true e f (inl i) = inl i
      by false true e f (inr h) = inl (subst (λ z. In z acc) (sym h) (any_in b acc f))
      by false false e f (inl i) = inl (In-left x acc (b ∷ []) i)
      by false false e f (inr h) = inl (In-right x acc (b ∷ []) (inl h))

  -- each bit of the list is one of those that were added
  fold_in : (xs acc : List SigBit) (x : SigBit) → In x (fold (with_bit neutral) acc xs) → In x acc ⊎ In x xs
  fold_in [] acc x i = inl i
  fold_in (b ∷ xs) acc x i =
      ⊎_elim
      (λ l. ⊎_elim (λ a. inl a) (λ e. inr (inl e)) (with_in acc b x l))
      (λ r. inr (inr r))
      (fold_in xs (with_bit neutral acc b) x i)

  -- and each of those is there, unless it does not count
  in_fold : (xs acc : List SigBit) (x : SigBit) → In x acc ⊎ In x xs → In x (fold (with_bit neutral) acc xs) ⊎ (x ≡ Fixed neutral)
  in_fold [] acc x (inl i) = inl i
  in_fold [] acc x (inr i) = absurd i
  in_fold (b ∷ xs) acc x (inl i) =
      ⊎_elim (λ a. in_fold xs (with_bit neutral acc b) x (inl a)) (λ e. inr e) (in_with acc b x (inl i))
  in_fold (b ∷ xs) acc x (inr (inl e)) =
      ⊎_elim (λ a. in_fold xs (with_bit neutral acc b) x (inl a)) (λ f. inr f) (in_with acc b x (inr e))
  in_fold (b ∷ xs) acc x (inr (inr i)) = in_fold xs (with_bit neutral acc b) x (inr i)

  or_in : (bits : List SigBit) (x : SigBit) → In x (or_neutral neutral bits) → In x bits ⊎ (x ≡ Fixed neutral)
  or_in [] x i = ⊎_elim (λ e. inr e) (λ z. absurd z) i
  or_in (b ∷ bits) x i = inl i

  in_or : (bits : List SigBit) (x : SigBit) → In x bits → In x (or_neutral neutral bits)
  in_or [] x i = absurd i
  in_or (b ∷ bits) x i = i

  -- the list that a fold reads has a bit
  pub or_some : (bits : List SigBit) → 0 < length (or_neutral neutral bits)
  or_some [] = omega arith
  or_some (b ∷ bits) = omega arith

  -- each bit of that list is the constant, or stands for one of some bits
  pub gathered_from : (g : SigBit → List SigBit) (bits : List SigBit) (x : SigBit) → In x (or_neutral neutral (fold (with_bit neutral) [] (flat_map g bits))) → ((s : SigBit) × In s bits × In x (g s)) ⊎ (x ≡ Fixed neutral)
  gathered_from g bits x i =
      ⊎_elim
      (λ l. ⊎_elim (λ z. absurd z) (λ r. inl (in_flat g bits x r)) (fold_in (flat_map g bits) [] x l))
      (λ e. inr e)
      (or_in (fold (with_bit neutral) [] (flat_map g bits)) x i)

  -- a fold of what stands for some bits says no less than a fold of them
  module _ (op : Bit → Bit → Bit) (high : Bit) (law : IsFold op neutral high) (f : SigBit → Bit) (fixed : f (Fixed neutral) ≡ neutral) where
    -- a bit stands for itself
    pub stands_alone : (s : SigBit) → Below (f s) (fold op neutral (map f (s ∷ [])))
    stands_alone s = law.below (f s) (op neutral (f s)) (λ e. law.both neutral (f s) refl e) (λ e. law.right neutral (f s) e)

    pub gathered_says : (g : SigBit → List SigBit) (bits : List SigBit) → ((s : SigBit) → In s bits → Below (f s) (fold op neutral (map f (g s))))
        → Below (fold op neutral (map f bits)) (fold op neutral (map f (or_neutral neutral (fold (with_bit neutral) [] (flat_map g bits)))))
    gathered_says g bits stands =
        law.below (fold op neutral (map f bits)) (fold op neutral (map f all)) lows highs
      where
        list : List SigBit
        list = fold (with_bit neutral) [] (flat_map g bits)

        all : List SigBit
        all = or_neutral neutral (fold (with_bit neutral) [] (flat_map g bits))

        low_bit : fold op neutral (map f bits) ≡ neutral → (x : SigBit) → ((s : SigBit) × In s bits × In x (g s)) ⊎ (x ≡ Fixed neutral) → f x ≡ neutral
        low_bit e x (inl k) =
            let here : f k.0 ≡ neutral = low_from op neutral high law (map f bits) e (f k.0) (In-map f k.0 bits k.1) in
            let parts : fold op neutral (map f (g k.0)) ≡ neutral = law.at_low (f k.0) (fold op neutral (map f (g k.0))) (stands k.0 k.1) here in
            low_from op neutral high law (map f (g k.0)) parts (f x) (In-map f x (g k.0) k.2)
        low_bit e x (inr k) = ap f k ∙ fixed

        lows : fold op neutral (map f bits) ≡ neutral → fold op neutral (map f all) ≡ neutral
        lows e =
            low_in op neutral high law (map f all) (λ y i. let k = In-mapped f y all i in k.2 ∙ low_bit e k.0 (gathered_from g bits k.0 k.1))

        highs : fold op neutral (map f bits) ≡ high → fold op neutral (map f all) ≡ high
        highs e =
            let x = high_from op neutral high law (map f bits) e in
            let s = In-mapped f x.0 bits x.1 in
            let here : f s.0 ≡ high = sym s.2 ∙ x.2 in
            let y = high_from op neutral high law (map f (g s.0)) (law.at_high (f s.0) (fold op neutral (map f (g s.0))) (stands s.0 s.1) here) in
            let d = In-mapped f y.0 (g s.0) y.1 in
            let there : f d.0 ≡ high = sym d.2 ∙ y.2 in
            ⊎_elim
            (λ l. high_in op neutral high law (map f all) (f d.0) (In-map f d.0 all (in_or list d.0 l)) there)
            (λ q. absurd (law.apart (sym fixed ∙ sym (ap f q) ∙ there)))
            (in_fold (flat_map g bits) [] d.0 (inr (flat_in g bits s.0 d.0 s.1 d.1)))
