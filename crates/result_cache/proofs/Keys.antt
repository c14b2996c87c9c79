-- Keys beside what is kept of them.
use Rattle.std.proofs.Common.{◌≡◌, ℕ, zero, suc, ◌<◌, List, [], ◌∷◌, ◌++◌, length, get_or, set, slice_get, Some, Bool, true, false, cond, ◌||◌, true≢false, refl, sym, ◌∙◌, subst, arith}
use Rattle.std.specs.Str.{bytes_eq}
use Rattle.std.specs.List.{list_any, IsDistinct, AllByRecursion}
use Rattle.std.proofs.lemmas.Slice.Eq.{bytes_eq-Decides}
use Rattle.rtl_sig.specs.Names.{has_name, AreDistinct}
use Rattle.result_cache.specs.declared.call.Kept.{Kept}
use Rattle.result_cache.specs.Stored.{look_up, Stands, AllStand}

-- the key is none of these
abbrev pub NoneIs : List ℕ → List (List ℕ) → Type 0
NoneIs k [] = Unit {0}
NoneIs k (x ∷ xs) = (bytes_eq x k ≡ false) × NoneIs k xs

-- no key is one of those behind it
abbrev pub AllDiffer : List (List ℕ) → Type 0
AllDiffer [] = Unit {0}
AllDiffer (x ∷ xs) = NoneIs x xs × AllDiffer xs

pub bytes_same : (a b : List ℕ) → a ≡ b → bytes_eq a b ≡ true
bytes_same a b e = (bytes_eq-Decides a b).1 e

pub bytes_true : (a b : List ℕ) → bytes_eq a b ≡ true → a ≡ b
bytes_true a b e = (bytes_eq-Decides a b).0 e

-- they differ the other way round too
pub bytes_other : (a b : List ℕ) → bytes_eq a b ≡ false → bytes_eq b a ≡ false
bytes_other a b ne =
    let P : Bool → Type 0 = λ t. bytes_eq b a ≡ t → bytes_eq b a ≡ false in
    elim (bytes_eq b a) as P [
      | true ↦ λ is. absurd (true≢false (sym (bytes_same a b (sym (bytes_true b a is))) ∙ ne))
      | false ↦ λ is. is
    ] refl

-- where one is k and the other is not, they differ
pub bytes_apart : (a b k : List ℕ) → bytes_eq a b ≡ false → bytes_eq a k ≡ true → bytes_eq b k ≡ false
bytes_apart a b k ne is = subst (λ z. bytes_eq b z ≡ false) (bytes_true a k is) (bytes_other a b ne)

-- a name that is not among the keys is none of them
pub none_of : (k : List ℕ) (keys : List (List ℕ)) → has_name keys k ≡ false → NoneIs k keys
none_of k [] h = tt
none_of k (x ∷ xs) h =
    let P : Bool → Type 0 = λ t. bytes_eq k x ≡ t → (t || list_any (bytes_eq k) xs) ≡ false → (bytes_eq x k ≡ false) × NoneIs k xs in
    elim (bytes_eq k x) as P [
      | true ↦ λ is e. absurd (true≢false e)
      | false ↦ λ ne e. (bytes_other k x ne, none_of k xs e)
    ] refl h

none_before : (x : List ℕ) (xs : List (List ℕ)) → AllByRecursion (λ y. bytes_eq x y ≡ false) xs → NoneIs x xs
none_before x [] h = tt
none_before x (y ∷ ys) h = (bytes_other x y h.0, none_before x ys h.1)

pub differ_of : (keys : List (List ℕ)) → AreDistinct keys → AllDiffer keys
unfolding IsDistinct
differ_of [] h = tt
differ_of (x ∷ xs) h = (none_before x xs h.0, differ_of xs h.1)

all_behind : (x : List ℕ) (xs : List (List ℕ)) → NoneIs x xs → AllByRecursion (λ y. bytes_eq x y ≡ false) xs
all_behind x [] h = tt
all_behind x (y ∷ ys) h = (bytes_other y x h.0, all_behind x ys h.1)

pub distinct_of : (keys : List (List ℕ)) → AllDiffer keys → AreDistinct keys
unfolding IsDistinct
distinct_of [] h = tt
distinct_of (x ∷ xs) h = (all_behind x xs h.0, distinct_of xs h.1)

-- what stands at a place
pub at_place : (keys : List (List ℕ)) (i : ℕ) (k : List ℕ) → slice_get keys i ≡ Some k → get_or keys i [] ≡ k
at_place [] i k h = cc
at_place (x ∷ xs) zero k h = cc
at_place (x ∷ xs) (suc i) k h = at_place xs i k h

pub none_at : (k : List ℕ) (keys : List (List ℕ)) (i : ℕ) → NoneIs k keys → i < length keys → bytes_eq (get_or keys i []) k ≡ false
none_at k [] i h l = absurd (omega arith)
none_at k (x ∷ xs) zero h l = h.0
none_at k (x ∷ xs) (suc i) h l = none_at k xs i h.1 (omega arith)

pub none_snoc : (x k : List ℕ) (xs : List (List ℕ)) → NoneIs x xs → bytes_eq k x ≡ false → NoneIs x (xs ++ k ∷ [])
none_snoc x k [] h ne = (ne, tt)
none_snoc x k (y ∷ ys) h ne = (h.0, none_snoc x k ys h.1 ne)

pub differ_snoc : (k : List ℕ) (keys : List (List ℕ)) → AllDiffer keys → NoneIs k keys → AllDiffer (keys ++ k ∷ [])
differ_snoc k [] d n = (tt, tt)
differ_snoc k (x ∷ xs) d n = (none_snoc x k xs d.0 (bytes_other x k n.0), differ_snoc k xs d.1 n.1)

pub at_snoc_key : (k : List ℕ) (keys : List (List ℕ)) → get_or (keys ++ k ∷ []) (length keys) [] ≡ k
at_snoc_key k [] = refl
at_snoc_key k (x ∷ xs) = at_snoc_key k xs

module _ {V : Type 0} {A : Type 0} where
  pub look_up-none : (d : A) (f : Kept V → A) (keys : List (List ℕ)) (kept : List (Kept V)) (k : List ℕ) → NoneIs k keys → look_up d f keys kept k ≡ d
  look_up-none d f [] cs k n = refl
  look_up-none d f (x ∷ xs) [] k n = refl
  look_up-none d f (x ∷ xs) (c ∷ cs) k n = rw (n.0) (look_up-none d f xs cs k n.1)

  pub look_up-at : (d : A) (f : Kept V → A) (keys : List (List ℕ)) (kept : List (Kept V)) (i : ℕ) (x0 : Kept V)
      → AllDiffer keys → length kept ≡ length keys → i < length keys → look_up d f keys kept (get_or keys i []) ≡ f (get_or kept i x0)
  look_up-at d f [] cs i x0 h e l = absurd (omega arith)
  look_up-at d f (x ∷ xs) [] i x0 h e l = absurd (omega arith)
  look_up-at d f (x ∷ xs) (c ∷ cs) zero x0 h e l = rw (bytes_same x x refl) refl
  look_up-at d f (x ∷ xs) (c ∷ cs) (suc i) x0 h e l =
      let l' : i < length xs = omega arith in
      let e' : length cs ≡ length xs = omega arith in
      rw (bytes_other (get_or xs i []) x (none_at x xs i h.0 l')) (look_up-at d f xs cs i x0 h.1 e' l')

  pub look_up-set : (d : A) (f : Kept V → A) (keys : List (List ℕ)) (kept : List (Kept V)) (i : ℕ) (c : Kept V) (k : List ℕ)
      → AllDiffer keys → length kept ≡ length keys → i < length keys → look_up d f keys (set kept i c) k ≡ cond (bytes_eq (get_or keys i []) k) (f c) (look_up d f keys kept k)
  look_up-set d f [] cs i c k h e l = absurd (omega arith)
  look_up-set d f (x ∷ xs) [] i c k h e l = absurd (omega arith)
  look_up-set d f (x ∷ xs) (b ∷ cs) zero c k h e l =
      let P : Bool → Type 0 = λ t. cond t (f c) (look_up d f xs cs k) ≡ cond t (f c) (cond t (f b) (look_up d f xs cs k)) in
      elim (bytes_eq x k) as P [ true ↦ refl | false ↦ refl ]
  look_up-set d f (x ∷ xs) (b ∷ cs) (suc i) c k h e l =
      let l' : i < length xs = omega arith in
      let e' : length cs ≡ length xs = omega arith in
      let y = get_or xs i [] in
      let P : Bool → Type 0 = λ t. bytes_eq x k ≡ t → cond t (f b) (look_up d f xs (set cs i c) k) ≡ cond (bytes_eq y k) (f c) (cond t (f b) (look_up d f xs cs k)) in
      elim (bytes_eq x k) as P [
        | true ↦ λ is. rw (bytes_apart x y k (bytes_other y x (none_at x xs i h.0 l')) is) refl
        | false ↦ λ ne. look_up-set d f xs cs i c k h.1 e' l'
      ] refl

  pub look_up-snoc : (d : A) (f : Kept V → A) (keys : List (List ℕ)) (kept : List (Kept V)) (x : List ℕ) (c : Kept V) (k : List ℕ)
      → NoneIs x keys → length kept ≡ length keys → look_up d f (keys ++ x ∷ []) (kept ++ c ∷ []) k ≡ cond (bytes_eq x k) (f c) (look_up d f keys kept k)
  look_up-snoc d f [] [] x c k n e = refl
  look_up-snoc d f [] (b ∷ cs) x c k n e = absurd (omega arith)
  look_up-snoc d f (y ∷ ys) [] x c k n e = absurd (omega arith)
  look_up-snoc d f (y ∷ ys) (b ∷ cs) x c k n e =
      let e' : length cs ≡ length ys = omega arith in
      let P : Bool → Type 0 = λ t. bytes_eq y k ≡ t → cond t (f b) (look_up d f (ys ++ x ∷ []) (cs ++ c ∷ []) k) ≡ cond (bytes_eq x k) (f c) (cond t (f b) (look_up d f ys cs k)) in
      elim (bytes_eq y k) as P [
        | true ↦ λ is. rw (bytes_apart y x k n.0 is) refl
        | false ↦ λ ne. look_up-snoc d f ys cs x c k n.1 e'
      ] refl

module _ {V : Type 0} (stands_for : V → List ℕ → Type 0) where
  pub stand_set : (keys : List (List ℕ)) (kept : List (Kept V)) (i : ℕ) (c : Kept V) → AllStand stands_for keys kept → Stands stands_for (get_or keys i []) c → AllStand stands_for keys (set kept i c)
  stand_set [] cs i c h s = tt
  stand_set (x ∷ xs) [] i c h s = tt
  stand_set (x ∷ xs) (b ∷ cs) zero c h s = (s, h.1)
  stand_set (x ∷ xs) (b ∷ cs) (suc i) c h s = (h.0, stand_set xs cs i c h.1 s)

  pub stand_snoc : (keys : List (List ℕ)) (kept : List (Kept V)) (x : List ℕ) (c : Kept V) → length kept ≡ length keys → AllStand stands_for keys kept → Stands stands_for x c → AllStand stands_for (keys ++ x ∷ []) (kept ++ c ∷ [])
  stand_snoc [] [] x c e h s = (s, tt)
  stand_snoc [] (b ∷ cs) x c e h s = absurd (omega arith)
  stand_snoc (y ∷ ys) [] x c e h s = absurd (omega arith)
  stand_snoc (y ∷ ys) (b ∷ cs) x c e h s = (h.0, stand_snoc ys cs x c (omega arith) h.1 s)

  pub stand_at : (keys : List (List ℕ)) (kept : List (Kept V)) (i : ℕ) (x0 : Kept V) → length kept ≡ length keys → i < length keys → AllStand stands_for keys kept → Stands stands_for (get_or keys i []) (get_or kept i x0)
  stand_at [] cs i x0 e l h = absurd (omega arith)
  stand_at (x ∷ xs) [] i x0 e l h = absurd (omega arith)
  stand_at (x ∷ xs) (b ∷ cs) zero x0 e l h = h.0
  stand_at (x ∷ xs) (b ∷ cs) (suc i) x0 e l h = stand_at xs cs i x0 (omega arith) (omega arith) h.1
