-- Places from which each chain ends are found.
use Rattle.std.proofs.Common.{◌≡◌, ◌⊎◌, ℕ, zero, suc, ◌+◌, ◌<◌, ◌≤◌, ◌||◌, Bool, true, false, List, [], ◌∷◌, ◌++◌, length, get_or, set, drop, replicate, nat_eq, Vec, Global, add-one, inl, inr, ⊎_elim, refl, sym, ◌∙◌, ap, subst, arith}
use Rattle.std.proofs.Math.Seq.{drop-cons}
use Rattle.std.proofs.Math.ListN.{drop_of_length-le}
use Rattle.std.proofs.lemmas.Bool.{eqb-true, false≢true}
use Rattle.std.proofs.lemmas.Bool.Decides.{nat_tests}
use Rattle.std.proofs.lemmas.List.{length-set, length-append, get_or-set_same, get_or-set_other, length-replicate}
use Rattle.rtl_ir.specs.Faults.Recursion.{leads_within}
use Rattle.process_check.specs.Ends.{AreBelow, AreEnding, AreMarked, AreUnlinked}
use Rattle.process_check.specs.Search.{In, IsGraph, IsMarked, followers, rows_of}
use Rattle.process_check.proofs.Searches.{In-cases, In-get, In-left, In-right, length-rows, none_in, row_at}

pub below_at : (n : ℕ) (places : List ℕ) (i k : ℕ) → AreBelow n places → i < length places → k ≡ get_or places i 0 → k < n
below_at n places i k below h is = below k (In-get places i k h is)

-- one place more that waits
pub below_more : (old new : List ℕ) (place : ℕ) → new ≡ old ++ place ∷ [] → (n : ℕ) → place < n → AreBelow n old → AreBelow n new
below_more old new place e n h below k i =
    ⊎_elim (λ l. below k l) (λ same. subst (λ x. x < n) (sym same) h) (In-cases k old place (subst (In k) e i))

-- the marks of the places so far
pub marked_next : (marks : List Bool) (places : List ℕ) (i k : ℕ) → i < length places → k ≡ get_or places i 0 → IsMarked marks k
    → (AreMarked marks (drop i places) → AreMarked marks places) → AreMarked marks (drop (i + 1) places) → AreMarked marks places
marked_next marks places i k h is marked all rest =
    let next : drop i places ≡ k ∷ drop (i + 1) places = drop-cons places i 0 h ∙ (λ j. sym is j ∷ drop (sym (add-one i) j) places) in
    all (λ x here. ⊎_elim (λ same. subst (IsMarked marks) (sym same) marked) (λ l. rest x l) (subst (In x) next here))

pub marked_all : (marks : List Bool) (places : List ℕ) (i : ℕ) → length places ≤ i → (AreMarked marks (drop i places) → AreMarked marks places) → AreMarked marks places
marked_all marks places i h all = all (λ x here. absurd (subst (In x) (drop_of_length-le places h) here))

-- without marks there is nothing to show
no_marks : (n k : ℕ) → get_or (replicate n false) k false ≡ false
no_marks zero k = refl
no_marks (suc n) zero = refl
no_marks (suc n) (suc k) = no_marks n k

pub none_ending : (g : List (List ℕ)) (n : ℕ) → n ≡ length g → AreEnding g (replicate n false)
none_ending g n e = record {
  size = length-replicate n false ∙ e;
  closed = λ i m. absurd (false≢true (sym (no_marks n i) ∙ m));
  off = λ i m. absurd (false≢true (sym (no_marks n i) ∙ m));
}

same_eq : (x y : ℕ) → x ≡ y → nat_eq x y ≡ true
same_eq x y same = grind (arith, nat_tests)

-- a place whose followers are marked is marked too
module _ (g : List (List ℕ)) (marks : List Bool) (at : ℕ) (inside : at < length g) (ends : AreEnding g marks) (marked : AreMarked marks (followers g at)) where
  fits : at < length marks
  fits = let size = ends.size in omega arith

  now_marked : IsMarked (set marks at true) at
  now_marked = get_or-set_same marks at true false fits

  cases : (k : ℕ) → IsMarked (set marks at true) k → (k ≡ at) ⊎ IsMarked marks k
  cases k m = by (nat_eq k at) refl
    where
      by : (b : Bool) → nat_eq k at ≡ b → (k ≡ at) ⊎ IsMarked marks k
      by true e = inl (eqb-true k at e)
      by false e = inr (sym (get_or-set_other marks at k true false (λ same. false≢true (sym e ∙ same_eq k at same))) ∙ m)

  still : (k : ℕ) → IsMarked marks k → IsMarked (set marks at true) k
  still k m = by (nat_eq k at) refl
    where
      by : (b : Bool) → nat_eq k at ≡ b → IsMarked (set marks at true) k
      by true e = subst (IsMarked (set marks at true)) (sym (eqb-true k at e)) now_marked
      by false e = get_or-set_other marks at k true false (λ same. false≢true (sym e ∙ same_eq k at same)) ∙ m

  away : get_or marks at false ≡ false → (k : ℕ) → IsMarked marks k → nat_eq k at ≡ false
  away new k m = by (nat_eq k at) refl
    where
      by : (b : Bool) → nat_eq k at ≡ b → nat_eq k at ≡ false
      by false e = e
      by true e = absurd (false≢true (sym new ∙ ap (λ x. get_or marks x false) (sym (eqb-true k at e)) ∙ m))

  -- a chain from a marked place stays at marked places
  stays : get_or marks at false ≡ false → (n k : ℕ) → IsMarked marks k → leads_within g n k at ≡ false
  stays new zero k m = refl
  stays new (suc n) k m =
      none_in (λ j. nat_eq j at || leads_within g n j at) (followers g k)
      (λ j i. let follows : IsMarked marks j = ends.closed k m j i in rw (away new j follows, stays new n j follows) refl)

  off_here : (n : ℕ) → leads_within g n at at ≡ false
  off_here n = by (get_or marks at false) refl
    where
      by : (b : Bool) → get_or marks at false ≡ b → leads_within g n at at ≡ false
      by true e = ends.off at e n
      by false e = from n
        where
          from : (m : ℕ) → leads_within g m at at ≡ false
          from zero = refl
          from (suc m) = none_in (λ j. nat_eq j at || leads_within g m j at) (followers g at) (λ j i. rw (away e j (marked j i), stays e m j (marked j i)) refl)

  pub ended : AreEnding g (set marks at true)
  ended = record {
    size = length-set marks at true ∙ ends.size;
    closed = λ i m k h. ⊎_elim (λ same. still k (marked k (subst (λ x. In k (followers g x)) same h))) (λ old. still k (ends.closed i old k h)) (cases i m);
    off = λ i m n. ⊎_elim (λ same. subst (λ x. leads_within g n x x ≡ false) (sym same) (off_here n)) (λ old. ends.off i old n) (cases i m);
  }

-- places of which none follows another
pub none_linked : AreUnlinked (rows_of [])
none_linked i k h = h

pub unlinked_more : (graph : List (Vec ℕ Global)) (v : Vec ℕ Global) → v.items ≡ [] → AreUnlinked (rows_of graph) → AreUnlinked (rows_of (graph ++ v ∷ []))
unlinked_more [] v e none zero k h = subst (In k) e h
unlinked_more [] v e none (suc i) k h = h
unlinked_more (u ∷ graph) v e none zero k h = none zero k h
unlinked_more (u ∷ graph) v e none (suc i) k h = unlinked_more graph v e (λ j l. none (suc j) l) i k h

-- the rows after one is put in place of another
rows-set : (graph : List (Vec ℕ Global)) (place : ℕ) (v : Vec ℕ Global) (i k : ℕ) → In k (followers (rows_of (set graph place v)) i) → In k v.items ⊎ In k (followers (rows_of graph) i)
rows-set [] place v i k h = inr h
rows-set (u ∷ graph) zero v zero k h = inl h
rows-set (u ∷ graph) zero v (suc i) k h = inr h
rows-set (u ∷ graph) (suc place) v zero k h = inr h
rows-set (u ∷ graph) (suc place) v (suc i) k h = rows-set graph place v i k h

pub linked : (graph : List (Vec ℕ Global)) (place at : ℕ) (old new : Vec ℕ Global) → old ≡ get_or graph place old → new.items ≡ old.items ++ at ∷ [] → place < length graph → at < length graph
    → IsGraph (rows_of graph) → IsGraph (rows_of (set graph place new))
linked graph place at old new is e there inside below i k h =
    let size : length (rows_of graph) ≡ length (rows_of (set graph place new)) = length-rows graph ∙ sym (length-set graph place new) ∙ sym (length-rows (set graph place new)) in
    let within : at < length (rows_of graph) = subst (λ n. at < n) (sym (length-rows graph)) inside in
    subst (λ n. k < n) size
    (⊎_elim
    (λ l. ⊎_elim
    (λ o. below place k (subst (In k) (sym (row_at graph place old there is)) o))
    (λ same. subst (λ x. x < length (rows_of graph)) (sym same) within)
    (In-cases k old.items at (subst (In k) e l)))
    (λ o. below i k o)
    (rows-set graph place new i k h))

-- the places of a row are those of the graph
pub row_below : (graph : List (Vec ℕ Global)) (at : ℕ) (v : Vec ℕ Global) → at < length graph → v ≡ get_or graph at v → IsGraph (rows_of graph) → (n : ℕ) → length graph ≡ n → (items : List ℕ) → items ≡ v.items → AreBelow n items
row_below graph at v h is below n size items same k i =
    subst (λ m. k < m) (length-rows graph ∙ size) (below at k (subst (In k) (same ∙ sym (row_at graph at v h is)) i))

pub none_graph : (graph : List (Vec ℕ Global)) → AreUnlinked (rows_of graph) → IsGraph (rows_of graph)
none_graph graph none i k h = absurd (none i k h)

-- the last place that waits is one of the graph
pub popped_below : (n : ℕ) (waiting : List ℕ) (left : List ℕ) (at : ℕ) → waiting ≡ left ++ at ∷ [] → AreBelow n waiting → at < n
popped_below n waiting left at e below = below at (subst (In at) (sym e) (In-right at left (at ∷ []) (inl refl)))

pub rest_below : (n : ℕ) (waiting : List ℕ) (left : List ℕ) (at : ℕ) → waiting ≡ left ++ at ∷ [] → AreBelow n waiting → AreBelow n left
rest_below n waiting left at e below k i = below k (subst (In k) (sym e) (In-left k left (at ∷ []) i))

-- a place is marked where the places of its row are
pub row_marked : (graph : List (Vec ℕ Global)) (marks : List Bool) (at : ℕ) (v : Vec ℕ Global) → at < length graph → v ≡ get_or graph at v → AreEnding (rows_of graph) marks
    → (items : List ℕ) → items ≡ v.items → AreMarked marks items → AreEnding (rows_of graph) (set marks at true)
row_marked graph marks at v h is ends items same marked =
    ended (rows_of graph) marks at (subst (λ n. at < n) (sym (length-rows graph)) h) ends (subst (AreMarked marks) (same ∙ sym (row_at graph at v h is)) marked)

pub size_more : (graph new : List (Vec ℕ Global)) (v : Vec ℕ Global) (n : ℕ) → new ≡ graph ++ v ∷ [] → length graph ≡ n → length new ≡ n + 1
size_more graph new v n e size = ap length e ∙ length-append graph (v ∷ []) ∙ ap (λ m. m + 1) size

pub place_below : (n m : ℕ) (places : List ℕ) (i : ℕ) → AreBelow n places → i < length places → m ≡ n → get_or places i 0 < m
place_below n m places i below h e = subst (λ x. get_or places i 0 < x) (sym e) (below_at n places i (get_or places i 0) below h refl)
