-- What stays at its number in a list.
use Rattle.std.proofs.Common.{◌≡◌, ℕ, zero, suc, ◌<◌, ◌≤◌, Bool, true, false, List, [], ◌∷◌, ◌++◌, length, get_or, Some, None, refl, sym, ◌∙◌, subst, arith, true≢false, ◌||◌}
use Rattle.std.specs.List.{list_any, AllByRecursion, IsDistinct}
use Rattle.std.specs.Str.{bytes_eq}
use Rattle.std.proofs.lemmas.Slice.Eq.{bytes_eq-Decides}
use Rattle.std.proofs.lemmas.Option.{slice_get_within, slice_get-get_or, get_or_from_slice_get}
use Rattle.indexmap.specs.IndexSet.{insert_key}
use Rattle.rtl_sig.specs.Names.{has_name, with_name, AreDistinct}
use Rattle.flat_net.specs.Known.{Keeps}

pub Keeps-refl : {A : Type 0} (xs : List A) → Keeps xs xs
Keeps-refl xs n x h = h

pub Keeps-append : {A : Type 0} (xs ys : List A) → Keeps xs (xs ++ ys)
Keeps-append [] ys n x h = absurd (let none : None ≡ Some x = h in cc)
Keeps-append (y ∷ xs) ys zero x h = h
Keeps-append (y ∷ xs) ys (suc n) x h = Keeps-append xs ys n x h

pub Keeps-insert_key : {K : Type 0} (eq : K → K → Bool) (ks : List K) (k : K) → Keeps ks (insert_key eq ks k)
Keeps-insert_key eq ks k = by (list_any (eq k) ks) refl
  where
    by : (b : Bool) → list_any (eq k) ks ≡ b → Keeps ks (insert_key eq ks k)
    by true e = rw e (Keeps-refl ks)
    by false e = rw e (Keeps-append ks (k ∷ []))

-- an element that is kept stands at its number by any default
pub get_or-Keeps : {A : Type 0} (xs ys : List A) (d : A) (n : ℕ) → Keeps xs ys → n < length xs → get_or ys n d ≡ get_or xs n d
get_or-Keeps xs ys d n k h = get_or_from_slice_get ys n _ d (k n _ (slice_get-get_or xs n d h))

pub within-Keeps : {A : Type 0} (xs ys : List A) (n : ℕ) → Keeps xs ys → n < length xs → n < length ys
within-Keeps [] ys n k h = absurd (omega arith)
within-Keeps (x ∷ xs) ys n k h = slice_get_within ys n _ (k n _ (slice_get-get_or (x ∷ xs) n x h))

pub length-Keeps : {A : Type 0} (xs ys : List A) → Keeps xs ys → length xs ≤ length ys
length-Keeps [] ys k = omega arith
length-Keeps (x ∷ xs) ys k =
    let last : length xs < length (x ∷ xs) = omega arith in
    let there = within-Keeps (x ∷ xs) ys (length xs) k last in
    omega arith

pub Keeps-with_name : (names : List (List ℕ)) (name : List ℕ) → Keeps names (with_name names name)
Keeps-with_name names name = by (has_name names name) refl
  where
    by : (b : Bool) → has_name names name ≡ b → Keeps names (with_name names name)
    by true e = rw e (Keeps-refl names)
    by false e = rw e (Keeps-append names (name ∷ []))

pub Keeps-named : (names new : List (List ℕ)) (name : List ℕ) → new ≡ with_name names name → Keeps names new
Keeps-named names new name e = subst (λ ms. Keeps names ms) (sym e) (Keeps-with_name names name)

pub Keeps-twice : (names between new : List (List ℕ)) (name other : List ℕ) → between ≡ with_name names name → new ≡ with_name between other → Keeps names new
Keeps-twice names between new name other e f n x h = Keeps-named between new other f n x (Keeps-named names between name e n x h)

-- a name more

apart_back : (x y : List ℕ) → bytes_eq x y ≡ false → bytes_eq y x ≡ false
apart_back x y h = by (bytes_eq y x) refl
  where
    by : (b : Bool) → bytes_eq y x ≡ b → bytes_eq y x ≡ false
    by true e = absurd (true≢false (sym ((bytes_eq-Decides x y).1 (sym ((bytes_eq-Decides y x).0 e))) ∙ h))
    by false e = e

all_end : (P : List ℕ → Type 0) (xs : List (List ℕ)) (y : List ℕ) → AllByRecursion P xs → P y → AllByRecursion P (xs ++ y ∷ [])
all_end P [] y h p = (p, tt)
all_end P (x ∷ xs) y h p = (h.0, all_end P xs y h.1 p)

or_parts : (a b : Bool) → (a || b) ≡ false → (a ≡ false) × (b ≡ false)
or_parts true b h = absurd (true≢false h)
or_parts false b h = (refl, h)

distinct_end : (xs : List (List ℕ)) (y : List ℕ) → IsDistinct bytes_eq xs → list_any (bytes_eq y) xs ≡ false → IsDistinct bytes_eq (xs ++ y ∷ [])
unfolding IsDistinct
distinct_end [] y d h = (tt, tt)
distinct_end (x ∷ xs) y d h =
    let parts = or_parts (bytes_eq y x) (list_any (bytes_eq y) xs) h in
    (all_end (λ z. bytes_eq x z ≡ false) xs y d.0 (apart_back y x parts.0), distinct_end xs y d.1 parts.1)

distinct-with_name : (names : List (List ℕ)) (name : List ℕ) → AreDistinct names → AreDistinct (with_name names name)
distinct-with_name names name d = by (has_name names name) refl
  where
    by : (b : Bool) → has_name names name ≡ b → AreDistinct (with_name names name)
    by true e = rw e d
    by false e = rw e (distinct_end names name d e)

pub distinct-named : (names new : List (List ℕ)) (name : List ℕ) → new ≡ with_name names name → AreDistinct names → AreDistinct new
distinct-named names new name e d = subst AreDistinct (sym e) (distinct-with_name names name d)
