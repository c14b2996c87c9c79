-- Marks, one after another.
use Rattle.std.proofs.Common.{◌≡◌, ℕ, zero, suc, ◌<◌, ◌≤◌, Bool, true, false, List, [], ◌∷◌, length, replicate, set, get_or, ◌⊎◌, inl, inr, ⊎_elim, refl, sym, ◌∙◌, ap, subst, arith}
use Rattle.std.specs.Prelude.{slice_set, MatchBool, ◌&&◌, ◌-◌, drop}
use Rattle.std.specs.List.{list_all}
use Rattle.std.proofs.lemmas.Bool.{and_parts}
use Rattle.std.proofs.lemmas.List.{length-set}
use Rattle.std.proofs.lemmas.Option.{slice_get_read}
use Rattle.net_model.specs.Lists.{In}
use Rattle.rtl_ir.proofs.PortLemmas.{drop-before}
use Rattle.fsm_find.proofs.Visiting.{get_in}
use Rattle.fsm_find.specs.declared.reach.Node.{Node}
use Rattle.fsm_find.specs.Order.{AreShallow, IsShallow, IsStuck, is_done, marks}

pub shallow_more : (nodes : List Node) (n k : ℕ) (fork : ℕ) → n ≤ k → IsShallow nodes n fork → IsShallow nodes k fork
shallow_more nodes zero k fork h s = absurd s
shallow_more nodes (suc n) zero fork h s = absurd (omega (arith, h))
shallow_more nodes (suc n) (suc k) fork h s = let g : n ≤ k = omega (arith, h) in (s.0, s.1, s.2, λ at i. shallow_more nodes n k at g (s.3 at i))

set_done : (done : List Bool) (i j : ℕ) → is_done (set done i true) j ≡ true → (j ≡ i) ⊎ (is_done done j ≡ true)
set_done [] i j e = inr e
set_done (x ∷ xs) zero zero e = inl refl
set_done (x ∷ xs) zero (suc j) e = inr e
set_done (x ∷ xs) (suc i) zero e = inr e
set_done (x ∷ xs) (suc i) (suc j) e = ⊎_elim (λ h. inl (ap suc h)) (λ h. inr h) (set_done xs i j e)

marks_within : (done : List Bool) → marks done ≤ length done
marks_within [] = omega arith
marks_within (true ∷ xs) = let k = marks_within xs in omega (arith, k)
marks_within (false ∷ xs) = let k = marks_within xs in omega (arith, k)

marks_more : (done : List Bool) (i : ℕ) → i < length done → is_done done i ≡ false → marks (set done i true) ≡ suc (marks done)
marks_more [] i h e = absurd (omega (arith, h))
marks_more (true ∷ xs) zero h e = absurd (cc)
marks_more (false ∷ xs) zero h e = refl
marks_more (x ∷ xs) (suc i) h e = let g : i < length xs = omega (arith, h) in let k = marks_more xs i g e in by x k
  where
    by : (y : Bool) → marks (set xs i true) ≡ suc (marks xs) → marks (y ∷ set xs i true) ≡ suc (marks (y ∷ xs))
    by true k = ap suc k
    by false k = k

pub all_in : {A : Type 0} (test : A → Bool) (xs : List A) → list_all test xs ≡ true → (x : A) → In x xs → test x ≡ true
all_in test [] e x i = absurd i
all_in test (y ∷ xs) e x (inl is) = ap test is ∙ (and_parts (test y) (list_all test xs) e).0
all_in test (y ∷ xs) e x (inr i) = all_in test xs (and_parts (test y) (list_all test xs) e).1 x i

pub not_all : {A : Type 0} (test : A → Bool) (xs : List A) → list_all test xs ≡ false → (x : A) × In x xs × (test x ≡ false)
not_all test [] e = absurd (cc)
not_all test (y ∷ xs) e = by (test y) refl (λ h. not_all test xs h) e
  where
    by : (b : Bool) → test y ≡ b → (list_all test xs ≡ false → (x : _) × In x xs × (test x ≡ false)) → (b && list_all test xs) ≡ false → (x : _) × In x (y ∷ xs) × (test x ≡ false)
    by false k more e = (y, inl refl, k)
    by true k more e = let w = more e in (w.0, inr w.1, w.2)

no_done : (count fork : ℕ) → is_done (replicate count false) fork ≡ true → ⊥
no_done zero fork e = absurd (cc)
no_done (suc n) zero e = absurd (cc)
no_done (suc n) (suc fork) e = no_done n fork e

module _ (nodes : List Node) where
  -- no fork is marked at first
  pub none_done : (count : ℕ) → AreShallow nodes (replicate count false)
  none_done count fork e = absurd (no_done count fork e)

  -- one mark more
  pub shallow_set : (done : List Bool) (node : Node) → In node nodes → AreShallow nodes done → node.fork < length done → is_done done node.fork ≡ false → list_all (is_done done) node.below.items ≡ true → AreShallow nodes (set done node.fork true)
  shallow_set done node here all inside new below fork e =
      let count = marks_more done node.fork inside new in
      subst (λ n. IsShallow nodes n fork) (sym count)
      (⊎_elim
      (λ same. (node, here, sym same, λ at i. all at (all_in (is_done done) node.below.items below at i)))
      (λ old. let le : marks done ≤ suc (marks done) = omega arith in shallow_more nodes (marks done) (suc (marks done)) fork le (all fork old))
      (set_done done node.fork fork e))

  -- all are marked
  pub all_shallow : (done : List Bool) (count : ℕ) → length done ≡ count → AreShallow nodes done → list_all (λ (node : Node). is_done done node.fork) nodes ≡ true → (node : Node) → In node nodes → IsShallow nodes count node.fork
  all_shallow done count size all every node i =
      let le : marks done ≤ count = omega (arith, size, marks_within done) in
      shallow_more nodes (marks done) count node.fork le (all node.fork (all_in (λ (node : Node). is_done done node.fork) nodes every node i))

  -- not all are marked, and none can be
  pub stuck : (done : List Bool) → ((node : Node) → In node nodes → IsStuck done node) → (n fork : ℕ) → is_done done fork ≡ false → IsShallow nodes n fork → ⊥
  stuck done each zero fork e s = s
  stuck done each (suc n) fork e s =
      let here : is_done done s.0.fork ≡ false = ap (is_done done) s.2 ∙ e in
      let w = not_all (is_done done) s.0.below.items (each s.0 s.1 here) in
      stuck done each n w.0 w.2 (s.3 w.0 w.1)

  pub never_done : (done : List Bool) → list_all (λ (node : Node). is_done done node.fork) nodes ≡ false → ((node : Node) → In node nodes → IsStuck done node) → (node : Node) × In node nodes × ((n : ℕ) → IsShallow nodes n node.fork → ⊥)
  never_done done some each =
      let w = not_all (λ (node : Node). is_done done node.fork) nodes some in
      (w.0, w.1, λ n s. stuck done each n w.0.fork w.2 s)

-- what is known after a node is settled
abbrev pub IsSettled : List Bool → List Bool → Node → Bool → Type 0
IsSettled old new node moved =
    MatchBool moved
    ((new ≡ slice_set old node.fork true) × (node.fork < length old) × (is_done old node.fork ≡ false) × (list_all (is_done old) node.below.items ≡ true))
    ((new ≡ old) × IsStuck old node)

pub settled_count : (old new : List Bool) (node : Node) (moved : Bool) → IsSettled old new node moved → length new ≡ length old
settled_count old new node true h = ap length h.0 ∙ length-set old node.fork true
settled_count old new node false h = ap length h.0

pub settled_shallow : (nodes : List Node) (old new : List Bool) (node : Node) (moved : Bool) → In node nodes → IsSettled old new node moved → AreShallow nodes old → AreShallow nodes new
settled_shallow nodes old new node true i h all = subst (AreShallow nodes) (sym h.0) (shallow_set nodes old node i all h.1 h.2 h.3)
settled_shallow nodes old new node false i h all = subst (AreShallow nodes) (sym h.0) all

pub settled_stuck : (nodes : List Node) (old new : List Bool) (at : ℕ) (node : Node) (moved : Bool) → 0 < at → at ≤ length nodes → node ≡ get_or nodes (at - 1) node → IsSettled old new node moved → moved ≡ false
    → ((other : Node) → In other (drop at nodes) → IsStuck old other) → (other : Node) → In other (drop (at - 1) nodes) → IsStuck new other
settled_stuck nodes old new at node true some within is h e each other i = absurd (cc)
settled_stuck nodes old new at node false some within is h e each other i =
    subst (λ done. IsStuck done other) (sym h.0)
    (⊎_elim (λ same. subst (IsStuck old) (sym same) h.1) (λ j. each other j) (subst (In other) (drop-before nodes at node some within is) i))

pub settled_in : (nodes : List Node) (at : ℕ) (node : Node) → 0 < at → at ≤ length nodes → node ≡ get_or nodes (at - 1) node → In node nodes
settled_in nodes at node some within is = let inside : at - 1 < length nodes = omega (arith, some, within) in get_in nodes (at - 1) node (slice_get_read nodes (length nodes) (at - 1) node refl inside is)

pub settled_same : (old new : List Bool) (node : Node) (moved : Bool) → IsSettled old new node moved → moved ≡ false → new ≡ old
settled_same old new node true h e = absurd (cc)
settled_same old new node false h e = h.0
