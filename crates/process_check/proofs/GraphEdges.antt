-- A graph has the edges that were put in.
use Rattle.std.proofs.Common.{◌≡◌, ◌⊎◌, ℕ, zero, suc, ◌+◌, ◌<◌, Bool, true, false, List, [], ◌∷◌, ◌++◌, length, get_or, set, drop, nat_eq, Vec, Global, add-one, inl, inr, ⊎_elim, refl, sym, ◌∙◌, ap, subst, arith}
use Rattle.std.proofs.Math.Seq.{drop-cons}
use Rattle.std.proofs.lemmas.Bool.{eq-eqb, eqb-true, false≢true}
use Rattle.process_check.specs.declared.readings.Edge.{Edge}
use Rattle.process_check.specs.Ends.{Links}
use Rattle.process_check.specs.Readings.{AreBetween, HasEdge}
use Rattle.process_check.specs.Search.{In, followers, rows_of}
use Rattle.process_check.proofs.Searches.{In-cases, In-left, In-right, row_at}

-- a row that was put in, and the others
rows_same : (graph : List (Vec ℕ Global)) (place : ℕ) (v : Vec ℕ Global) → place < length graph → followers (rows_of (set graph place v)) place ≡ v.items
rows_same [] place v h = absurd (omega arith)
rows_same (u ∷ graph) zero v h = refl
rows_same (u ∷ graph) (suc place) v h = rows_same graph place v (omega arith)

rows_other : (graph : List (Vec ℕ Global)) (place : ℕ) (v : Vec ℕ Global) (i : ℕ) → (i ≡ place → ⊥) → followers (rows_of (set graph place v)) i ≡ followers (rows_of graph) i
rows_other [] place v i h = refl
rows_other (u ∷ graph) zero v zero h = absurd (h refl)
rows_other (u ∷ graph) zero v (suc i) h = refl
rows_other (u ∷ graph) (suc place) v zero h = refl
rows_other (u ∷ graph) (suc place) v (suc i) h = rows_other graph place v i (λ e. h (ap suc e))

-- a place follows another one
pub links : (graph : List (Vec ℕ Global)) (place at : ℕ) (old new : Vec ℕ Global) → old ≡ get_or graph place old → new.items ≡ old.items ++ at ∷ [] → place < length graph
    → Links (rows_of graph) place at (rows_of (set graph place new))
links graph place at old new is e inside = record {
  there = subst (In at) (sym (rows_same graph place new inside)) (subst (In at) (sym e) (In-right at old.items (at ∷ []) (inl refl)));
  kept = λ i k h. kept i k (nat_eq i place) refl h;
  only = λ i k h. only i k (nat_eq i place) refl h;
}
  where
    apart : (i : ℕ) → nat_eq i place ≡ false → i ≡ place → ⊥
    apart i f same = absurd (false≢true (sym f ∙ eq-eqb i place same))

    kept : (i k : ℕ) (t : Bool) → nat_eq i place ≡ t → In k (followers (rows_of graph) i) → In k (followers (rows_of (set graph place new)) i)
    kept i k true f h =
        let same = eqb-true i place f in
        let own : In k old.items = subst (In k) (row_at graph place old inside is) (subst (λ x. In k (followers (rows_of graph) x)) same h) in
        subst (λ x. In k (followers (rows_of (set graph place new)) x)) (sym same)
        (subst (In k) (sym (rows_same graph place new inside)) (subst (In k) (sym e) (In-left k old.items (at ∷ []) own)))
    kept i k false f h = subst (In k) (sym (rows_other graph place new i (apart i f))) h

    only : (i k : ℕ) (t : Bool) → nat_eq i place ≡ t → In k (followers (rows_of (set graph place new)) i) → ((i ≡ place) × (k ≡ at)) ⊎ In k (followers (rows_of graph) i)
    only i k true f h =
        let same = eqb-true i place f in
        let own : In k (old.items ++ at ∷ []) = subst (In k) e (subst (In k) (rows_same graph place new inside) (subst (λ x. In k (followers (rows_of (set graph place new)) x)) same h)) in
        ⊎_elim
        (λ before. inr (subst (λ x. In k (followers (rows_of graph) x)) (sym same) (subst (In k) (sym (row_at graph place old inside is)) before)))
        (λ here. inl (same, here))
        (In-cases k old.items at own)
    only i k false f h = inr (subst (In k) (rows_other graph place new i (apart i f)) h)

-- an edge by its place
edge_at : (edges : List Edge) (k : ℕ) (d : Edge) → k < length edges → HasEdge (get_or edges k d).from (get_or edges k d).to edges
edge_at [] k d h = absurd (omega arith)
edge_at (e ∷ edges) zero d h = inl (refl, refl)
edge_at (e ∷ edges) (suc k) d h = inr (edge_at edges k d (omega arith))

-- its ends are below a bound that all are below
pub edge_below : (n m : ℕ) (edges : List Edge) (k : ℕ) (d : Edge) → AreBetween n edges → k < length edges → m ≡ n → ((get_or edges k d).from < m) × ((get_or edges k d).to < m)
edge_below n m edges k d between lt same =
    let e = get_or edges k d in
    let both = between e.from e.to (edge_at edges k d lt) in
    let from = both.0 in
    let to = both.1 in
    (omega arith, omega arith)

module _ (old new : List (List ℕ)) (edges : List Edge) (k : ℕ) (d : Edge) (lt : k < length edges) (puts : Links old (get_or edges k d).from (get_or edges k d).to new) where
  -- what follows a place is what an edge leads to
  pub sound_next : ((i j : ℕ) → In j (followers old i) → HasEdge i j edges) → (i j : ℕ) → In j (followers new i) → HasEdge i j edges
  sound_next before i j h = ⊎_elim
      (λ here. subst (λ x. HasEdge x j edges) (sym here.0) (subst (λ y. HasEdge (get_or edges k d).from y edges) (sym here.1) (edge_at edges k d lt)))
      (λ other. before i j other)
      (puts.only i j h)

  -- the edges so far are in the graph
  pub complete_next : ((i j : ℕ) → HasEdge i j edges → In j (followers old i) ⊎ HasEdge i j (drop k edges))
      → (i j : ℕ) → HasEdge i j edges → In j (followers new i) ⊎ HasEdge i j (drop (k + 1) edges)
  complete_next before i j h = ⊎_elim
      (λ there. inl (puts.kept i j there))
      (λ left. ⊎_elim
      (λ here. inl (subst (λ x. In j (followers new x)) here.0 (subst (λ y. In y (followers new (get_or edges k d).from)) here.1 puts.there)))
      (λ rest. inr rest)
      (subst (HasEdge i j) front left))
      (before i j h)
    where
      front : drop k edges ≡ get_or edges k d ∷ drop (k + 1) edges
      front = drop-cons edges k d lt ∙ (λ m. get_or edges k d ∷ drop (sym (add-one k) m) edges)
