-- Parts more among the readers of bits.
use Rattle.std.proofs.Common.{◌≡◌, ◌<◌, ◌+◌, ℕ, zero, suc, Bool, true, false, ◌||◌, List, [], ◌∷◌, ◌++◌, length, get_or, set, map, take, inl, inr, ⊎_elim, refl, sym, ◌∙◌, ap, subst, arith}
use Rattle.std.specs.Prelude.{Some, flat_map, nat_eq, slice_get}
use Rattle.std.proofs.lemmas.Bool.{true≢false, eq-eqb, eqb-true}
use Rattle.std.specs.Global.{Vec}
use Rattle.std.proofs.lemmas.List.{take_more, append-nil, length-set}
use Rattle.std.proofs.lemmas.Grind.{flat_map-append}
use Rattle.std.proofs.lemmas.Option.{slice_get-get_or}
use Rattle.flat_net.specs.declared.net.Part.{Part}
use Rattle.flat_net.specs.declared.net.Point.{Point}
use Rattle.flat_net.specs.declared.net.Point.TheVariants.{Constant, At}
use Rattle.flat_net.specs.Choices.{BranchView, ChoiceView, branches_of, choices_of}
use Rattle.net_model.specs.Lists.{In}
use Rattle.net_model.proofs.Members.{In-left, In-right, In-cases, map-append}
use Rattle.sim_eval.specs.declared.readers.Readers.{Readers}
use Rattle.sim_eval.proofs.Places.{same_at}
use Rattle.sim_eval.specs.Reads.{AddsReads, branch_points, branches_points, choice_points, choices_points, is_among, places_at, present_points, readers_at}

-- a place is one of these, as a test and as a fact
pub among_in : (at : ℕ) (places : List ℕ) → is_among at places ≡ true → In at places
among_in at [] e = absurd (true≢false (sym e))
among_in at (place ∷ places) e = by (among_in at places) (nat_eq at place) refl
  where
    by : (is_among at places ≡ true → In at places) → (t : Bool) → nat_eq at place ≡ t → In at (place ∷ places)
    by rest true f = inl (eqb-true at place f)
    by rest false f = inr (rest (sym (ap (λ z. z || is_among at places) f) ∙ e))

pub in_among : (at : ℕ) (places : List ℕ) → In at places → is_among at places ≡ true
in_among at [] i = absurd i
in_among at (place ∷ places) (inl e) = ap (λ z. z || is_among at places) (eq-eqb at place e)
in_among at (place ∷ places) (inr i) = by (in_among at places i) (nat_eq at place)
  where
    by : is_among at places ≡ true → (t : Bool) → (t || is_among at places) ≡ true
    by rest true = refl
    by rest false = rest

-- a place more for a number
places_set : (lists : List (Vec ℕ)) (n : ℕ) (new : Vec ℕ) → n < length lists → places_at (set lists n new) n ≡ new.items
places_set [] n new l = absurd (omega arith)
places_set (v ∷ lists) zero new l = refl
places_set (v ∷ lists) (suc n) new l = places_set lists n new (omega arith)

places_grow : (lists : List (Vec ℕ)) (n place : ℕ) (d new : Vec ℕ) → n < length lists → new.items ≡ (get_or lists n d).items ++ place ∷ [] → (k at : ℕ) → In at (places_at lists k) → In at (places_at (set lists n new) k)
places_grow [] n place d new l e k at i = absurd (omega arith)
places_grow (v ∷ lists) zero place d new l e zero at i = subst (In at) (sym e) (In-left at v.items (place ∷ []) i)
places_grow (v ∷ lists) zero place d new l e (suc k) at i = i
places_grow (v ∷ lists) (suc n) place d new l e zero at i = i
places_grow (v ∷ lists) (suc n) place d new l e (suc k) at i = places_grow lists n place d new (omega arith) e k at i

abbrev number_in : Point → ℕ
number_in (Constant b) = 0
number_in (At n) = n

pub adds_none : (r : Readers) (place : ℕ) → AddsReads r r place []
adds_none r place = record { same = refl; keeps = λ n at i. i; reads = λ n l i. absurd i }

-- a constant is read by none
pub adds_constant : (r : Readers) (place : ℕ) (p : Point) → ((n : ℕ) → n < length r.lists.items → At n ≡ p → ⊥) → AddsReads r r place (p ∷ [])
adds_constant r place p h = record { same = refl; keeps = λ n at i. i; reads = λ n l i. ⊎_elim (λ e. absurd (h n l e)) (λ j. absurd j) i }

pub adds_at : (old new : Readers) (n place : ℕ) (d v : Vec ℕ) → n < length old.lists.items → new.lists.items ≡ set old.lists.items n v → v.items ≡ (get_or old.lists.items n d).items ++ place ∷ [] → AddsReads old new place (At n ∷ [])
adds_at old new n place d v l e f = record {
  same = ap length e ∙ length-set old.lists.items n v;
  keeps = λ k at i. subst (λ z. In at (places_at z k)) (sym e) (places_grow old.lists.items n place d v l f k at i);
  reads = λ k m i. ⊎_elim
      (λ s. let same : k ≡ n = ap number_in s in
      subst (λ z. In place (places_at new.lists.items z)) (sym same) (subst (λ z. In place (places_at z n)) (sym e) (subst (In place) (sym (places_set old.lists.items n v l ∙ f)) (In-right place (get_or old.lists.items n d).items (place ∷ []) (inl refl)))))
      (λ j. absurd j)
      i;
}

pub adds_point : (old new : Readers) (p : Point) (n place : ℕ) (d v : Vec ℕ) → p ≡ At n → n < length old.lists.items → new.lists.items ≡ set old.lists.items n v → v.items ≡ (get_or old.lists.items n d).items ++ place ∷ [] → AddsReads old new place (p ∷ [])
adds_point old new p n place d v s l e f = subst (λ z. AddsReads old new place (z ∷ [])) (sym s) (adds_at old new n place d v l e f)

pub adds_more : (a b c : Readers) (place : ℕ) (xs ys : List Point) → AddsReads a b place xs → AddsReads b c place ys → AddsReads a c place (xs ++ ys)
adds_more a b c place xs ys h k = record {
  same = k.same ∙ h.same;
  keeps = λ n at i. k.keeps n at (h.keeps n at i);
  reads = λ n l i. ⊎_elim
      (λ j. k.keeps n place (h.reads n l j))
      (λ j. k.reads n (subst (λ z. n < z) (sym h.same) l) j)
      (In-cases (At n) xs ys i);
}

module _ {A : Type 0} (xs : List A) (i : ℕ) (d : A) (a b c : Readers) (place : ℕ) (l : i < length xs) where
  -- the points of an element more
  pub adds_next : (points : A → List Point) → AddsReads a b place (flat_map points (take i xs)) → AddsReads b c place (points (get_or xs i d)) → AddsReads a c place (flat_map points (take (i + 1) xs))
  adds_next points h k =
      let next : flat_map points (take (i + 1) xs) ≡ flat_map points (take i xs) ++ points (get_or xs i d) =
      ap (flat_map points) (take_more xs i d l) ∙ (flat_map-append points (take i xs) (get_or xs i d ∷ []) ∙ ap (λ z. flat_map points (take i xs) ++ z) (append-nil (points (get_or xs i d)))) in
      subst (λ z. AddsReads a c place z) (sym next) (adds_more a b c place (flat_map points (take i xs)) (points (get_or xs i d)) h k)

  -- the point of an element more
  pub adds_next_point : (point : A → Point) → AddsReads a b place (map point (take i xs)) → AddsReads b c place (point (get_or xs i d) ∷ []) → AddsReads a c place (map point (take (i + 1) xs))
  adds_next_point point h k =
      let next : map point (take (i + 1) xs) ≡ map point (take i xs) ++ point (get_or xs i d) ∷ [] =
      ap (map point) (take_more xs i d l) ∙ map-append point (take i xs) (get_or xs i d ∷ []) in
      subst (λ z. AddsReads a c place z) (sym next) (adds_more a b c place (map point (take i xs)) (point (get_or xs i d) ∷ []) h k)

-- a point more
pub adds_next_in : (xs : List Point) (i : ℕ) (d : Point) (a b c : Readers) (place : ℕ) → i < length xs → AddsReads a b place (take i xs) → AddsReads b c place (get_or xs i d ∷ []) → AddsReads a c place (take (i + 1) xs)
adds_next_in xs i d a b c place l h k =
    subst (λ z. AddsReads a c place z) (sym (take_more xs i d l)) (adds_more a b c place (take i xs) (get_or xs i d ∷ []) h k)

-- what choices read, one after another
pub choices_points_of : (cs : List ChoiceView) → choices_points (choices_of cs) ≡ flat_map choice_points cs
choices_points_of [] = refl
choices_points_of (c ∷ cs) = ap (λ z. choice_points c ++ z) (choices_points_of cs)

pub branches_points_of : (bs : List BranchView) → branches_points (branches_of bs) ≡ flat_map branch_points bs
branches_points_of [] = refl
branches_points_of (b ∷ bs) = ap (λ z. branch_points b ++ z) (branches_points_of bs)

-- the parts at the first places are among the readers of what they read
abbrev pub AreReadBelow : ℕ → Readers → List Part → ℕ → Type 0
AreReadBelow k r parts count =
    (at : ℕ) (p : Part) → at < k → slice_get parts at ≡ Some p → (n : ℕ) → n < count → In (At n) (present_points p) → is_among at (readers_at r n) ≡ true

-- a part more
pub read_next : (parts : List Part) (place : ℕ) (d : Part) (a b : Readers) (count : ℕ) → place < length parts → length a.lists.items ≡ count → AddsReads a b place (present_points (get_or parts place d)) → AreReadBelow place a parts count → AreReadBelow (place + 1) b parts count
read_next parts place d a b count l same h k at p m e n lt i = by (nat_eq at place) refl
  where
    by : (t : Bool) → nat_eq at place ≡ t → is_among at (readers_at b n) ≡ true
    by true f =
        let here : at ≡ place = eqb-true at place f in
        let part : get_or parts place d ≡ p = same_at parts place (get_or parts place d) p (slice_get-get_or parts place d l) (subst (λ z. slice_get parts z ≡ Some p) here e) in
        subst (λ z. is_among z (readers_at b n) ≡ true) (sym here) (in_among place (readers_at b n) (h.reads n (subst (λ z. n < z) (sym same) lt) (subst (λ z. In (At n) (present_points z)) (sym part) i)))
    by false f =
        let other : at ≡ place → ⊥ = λ g. true≢false (sym (eq-eqb at place g) ∙ f) in
        in_among at (readers_at b n) (h.keeps n at (among_in at (readers_at a n) (k at p (omega (arith, m, other)) e n lt i)))
