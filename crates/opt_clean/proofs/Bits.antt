-- Bits among bits, by test and by membership.
use Rattle.std.proofs.Common.{◌≡◌, Bool, true, false, List, [], ◌∷◌, inl, inr, ⊎_elim, refl, sym, ◌∙◌, ap, subst}
use Rattle.std.specs.Prelude.{◌||◌, flat_map}
use Rattle.std.specs.List.{list_any}
use Rattle.std.proofs.lemmas.Bool.{or_parts}
use Rattle.rtl_sig.specs.declared.sig.WireBit.{WireBit}
use Rattle.rtl_ir.specs.Signals.{has_bit, same_bit}
use Rattle.net_index.proofs.IndexTables.{same_bit-refl, same_bit-true}
use Rattle.net_model.specs.Lists.{In}
use Rattle.net_model.proofs.Members.{In-cases, In-left, In-right}

-- a test that one item passes, or none
pub any_in : {A : Type 0} (test : A → Bool) (xs : List A) (x : A) → In x xs → test x ≡ true → list_any test xs ≡ true
any_in test [] x i e = absurd i
any_in test (y ∷ xs) x (inl f) e = ap (λ t. t || list_any test xs) (ap test (sym f) ∙ e)
any_in test (y ∷ xs) x (inr i) e = by (any_in test xs x i e) (test y)
  where
    by : list_any test xs ≡ true → (t : Bool) → (t || list_any test xs) ≡ true
    by later true = refl
    by later false = later

pub in_any : {A : Type 0} (test : A → Bool) (xs : List A) → list_any test xs ≡ true → (x : A) × In x xs × (test x ≡ true)
in_any {A = A} test [] e = absurd (cc)
in_any {A = A} test (y ∷ xs) e = by (λ g. in_any test xs g) (test y) refl e
  where
    by : (list_any test xs ≡ true → (x : A) × In x xs × (test x ≡ true)) → (t : Bool) → test y ≡ t → (t || list_any test xs) ≡ true → (x : A) × In x (y ∷ xs) × (test x ≡ true)
    by later true f g = (y, inl refl, f)
    by later false f g = let k = later g in (k.0, inr k.1, k.2)

pub none_any : {A : Type 0} (test : A → Bool) (xs : List A) → list_any test xs ≡ false → (x : A) → In x xs → test x ≡ false
none_any test [] e x i = absurd i
none_any test (y ∷ xs) e x (inl f) = ap test f ∙ (or_parts (test y) (list_any test xs) e).0
none_any test (y ∷ xs) e x (inr i) = none_any test xs (or_parts (test y) (list_any test xs) e).1 x i

pub has_in : (bits : List WireBit) (b : WireBit) → In b bits → has_bit bits b ≡ true
has_in bits b i = any_in (same_bit b) bits b i (same_bit-refl b)

pub in_has : (bits : List WireBit) (b : WireBit) → has_bit bits b ≡ true → In b bits
in_has bits b e =
    let k = in_any (same_bit b) bits e in
    subst (λ z. In z bits) (sym (same_bit-true b k.0 k.2)) k.1

-- what stands in one of the lists
pub in_flat : {A B : Type 0} (f : A → List B) (xs : List A) (x : A) (y : B) → In x xs → In y (f x) → In y (flat_map f xs)
in_flat f [] x y i j = absurd i
in_flat f (z ∷ xs) x y (inl e) j = In-left y (f z) (flat_map f xs) (subst (λ u. In y (f u)) e j)
in_flat f (z ∷ xs) x y (inr i) j = In-right y (f z) (flat_map f xs) (in_flat f xs x y i j)

pub flat_in : {A B : Type 0} (f : A → List B) (xs : List A) (y : B) → In y (flat_map f xs) → (x : A) × In x xs × In y (f x)
flat_in f [] y i = absurd i
flat_in f (z ∷ xs) y i =
    ⊎_elim (λ l. (z, inl refl, l)) (λ r. let k = flat_in f xs y r in (k.0, inr k.1, k.2)) (In-cases y (f z) (flat_map f xs) i)
