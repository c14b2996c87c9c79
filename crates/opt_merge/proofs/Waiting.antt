-- Sets of places, where one of them changes.
use Rattle.std.proofs.Common.{◌≡◌, ◌≢◌, ℕ, zero, suc, ◌<◌, ◌⊎◌, Bool, true, false, eqb, List, [], ◌∷◌, ◌++◌, length, get_or, set, inl, inr, refl, sym, ◌∙◌, ap, subst, arith}
use Rattle.std.specs.HashSet.{HashSet}
use Rattle.std.proofs.lemmas.Bool.{eqb-false, eqb-true}
use Rattle.std.proofs.lemmas.List.{get_or-set_other, get_or-set_same, length-map, map-set}
use Rattle.net_model.specs.Lists.{In}
use Rattle.opt_merge.specs.Among.{AreAmong}
use Rattle.opt_merge.specs.Late.{lists_of}

module _ {S : Type 0} where
  lists_set : (sets : List (HashSet ℕ S)) (class : ℕ) (new : HashSet ℕ S) → lists_of (set sets class new) ≡ set (lists_of sets) class new.keys
  lists_set sets class new = map-set (λ (s : HashSet ℕ S). s.keys) sets class new

  pub list_at : (sets : List (HashSet ℕ S)) (class : ℕ) (d : HashSet ℕ S) → class < length sets → get_or (lists_of sets) class [] ≡ (get_or sets class d).keys
  list_at [] class d lt = absurd (omega arith)
  list_at (s ∷ sets) zero d lt = refl
  list_at (s ∷ sets) (suc class) d lt = list_at sets class d (omega arith)

  -- the one that changed
  pub changed_here : (sets : List (HashSet ℕ S)) (class : ℕ) (new : HashSet ℕ S) → class < length sets → get_or (lists_of (set sets class new)) class [] ≡ new.keys
  changed_here sets class new lt =
      let as_long = length-map sets (λ (s : HashSet ℕ S). s.keys) in
      let inside : class < length (lists_of sets) = omega (arith, as_long, lt) in
      ap (λ ls. get_or ls class []) (lists_set sets class new) ∙ get_or-set_same (lists_of sets) class new.keys [] inside

  -- another one
  changed_other : (sets : List (HashSet ℕ S)) (class k : ℕ) (new : HashSet ℕ S) → k ≢ class → get_or (lists_of (set sets class new)) k [] ≡ get_or (lists_of sets) k []
  changed_other sets class k new apart = ap (λ ls. get_or ls k []) (lists_set sets class new) ∙ get_or-set_other (lists_of sets) class k new.keys [] apart

  -- what was in one is in the new one, or in the one that was there
  pub split : (sets : List (HashSet ℕ S)) (class : ℕ) (old d new : HashSet ℕ S) → old ≡ get_or sets class d → class < length sets
      → (k at : ℕ) → In at (get_or (lists_of sets) k []) → In at (get_or (lists_of (set sets class new)) k []) ⊎ (k ≡ class) × In at old.keys
  split sets class old d new is lt k at i = by (eqb k class) refl
    where
      by : (t : Bool) → eqb k class ≡ t → In at (get_or (lists_of (set sets class new)) k []) ⊎ (k ≡ class) × In at old.keys
      by true f =
          let same = eqb-true k class f in
          let here : In at (get_or (lists_of sets) class []) = subst (λ z. In at (get_or (lists_of sets) z [])) same i in
          let there : In at (get_or sets class d).keys = subst (In at) (list_at sets class d lt) here in
          inr (same, subst (λ (s : HashSet ℕ S). In at s.keys) (sym is) there)
      by false f = inl (subst (In at) (sym (changed_other sets class k new (eqb-false k class f))) i)

  -- each has what it had, where the new one has what the old one had
  pub grows : (sets : List (HashSet ℕ S)) (class : ℕ) (old d new : HashSet ℕ S) → old ≡ get_or sets class d → class < length sets → AreAmong old.keys new.keys
      → (k : ℕ) → AreAmong (get_or (lists_of sets) k []) (get_or (lists_of (set sets class new)) k [])
  grows sets class old d new is lt more k at i = by (split sets class old d new is lt k at i)
    where
      by : In at (get_or (lists_of (set sets class new)) k []) ⊎ (k ≡ class) × In at old.keys → In at (get_or (lists_of (set sets class new)) k [])
      by (inl j) = j
      by (inr w) =
          subst (λ z. In at (get_or (lists_of (set sets class new)) z [])) (sym w.0) (subst (In at) (sym (changed_here sets class new lt)) (more at w.1))

  -- an empty set more
  pub empty_more : (sets new : List (HashSet ℕ S)) (s : HashSet ℕ S) → new ≡ sets ++ s ∷ [] → s.keys ≡ [] → ((k : ℕ) → get_or (lists_of sets) k [] ≡ []) → (k : ℕ) → get_or (lists_of new) k [] ≡ []
  empty_more sets new s is none before k = ap (λ ls. get_or (lists_of ls) k []) is ∙ all sets before k
    where
      all : (ss : List (HashSet ℕ S)) → ((j : ℕ) → get_or (lists_of ss) j [] ≡ []) → (j : ℕ) → get_or (lists_of (ss ++ s ∷ [])) j [] ≡ []
      all [] h zero = none
      all [] h (suc j) = refl
      all (x ∷ xs) h zero = h zero
      all (x ∷ xs) h (suc j) = all xs (λ k. h (suc k)) j
