-- What is found of a tree, signal by signal.
use Rattle.std.proofs.Common.{◌≡◌, ℕ, zero, suc, ◌+◌, ◌<◌, ◌≤◌, Bool, true, false, List, [], ◌∷◌, ◌++◌, length, map, take, set, Some, ◌⊎◌, inl, inr, ⊎_elim, refl, sym, ◌∙◌, ap, subst, arith, length-append, length-take}
use Rattle.std.specs.Prelude.{slice_get, MatchBool}
use Rattle.std.proofs.lemmas.List.{length-map, length-set, take-append-le}
use Rattle.rtl_sig.specs.declared.sig.SigBit.{SigBit}
use Rattle.rtl_ir.specs.declared.cell.Cell.{Cell}
use Rattle.rtl_ir.specs.declared.module.Module.{Module}
use Rattle.rtl_ir.specs.Signals.{constant_of}
use Rattle.net_model.specs.Fsm.Find.{is_state_constant}
use Rattle.net_model.specs.Lists.{In}
use Rattle.net_model.proofs.Members.{In-cases, In-left, In-right, map-append}
use Rattle.fsm_find.specs.declared.reach.Node.{Node}
use Rattle.fsm_find.specs.declared.reach.Reach.{Reach}
use Rattle.fsm_find.specs.declared.view.Step.TheVariants.{Leaf, Fork}
use Rattle.fsm_find.specs.Trees.{IsForkUnder, IsLeafUnder, IsMet, IsNode, IsReach, IsUnder, Learns, Meets, Opens, Visits}
use Rattle.fsm_find.specs.View.{arms_in, step_of}
use Rattle.fsm_find.proofs.Finding.{met_more, node_more, under_leaf}

set_get : (xs : List Bool) (i j : ℕ) → slice_get (set xs i true) j ≡ Some true → (j ≡ i) ⊎ (slice_get xs j ≡ Some true)
set_get [] i j e = inr e
set_get (x ∷ xs) zero zero e = inl refl
set_get (x ∷ xs) zero (suc j) e = inr e
set_get (x ∷ xs) (suc i) zero e = inr e
set_get (x ∷ xs) (suc i) (suc j) e = ⊎_elim (λ h. inl (ap suc h)) (λ h. inr h) (set_get xs i j e)

get_set : (xs : List Bool) (i j : ℕ) → slice_get xs j ≡ Some true → slice_get (set xs i true) j ≡ Some true
get_set [] i j e = e
get_set (x ∷ xs) zero zero e = refl
get_set (x ∷ xs) zero (suc j) e = e
get_set (x ∷ xs) (suc i) zero e = e
get_set (x ∷ xs) (suc i) (suc j) e = get_set xs i j e

get_set_same : (xs : List Bool) (i : ℕ) → i < length xs → slice_get (set xs i true) i ≡ Some true
get_set_same [] i h = absurd (omega (arith, h))
get_set_same (x ∷ xs) zero h = refl
get_set_same (x ∷ xs) (suc i) h = let g : i < length xs = omega (arith, h) in get_set_same xs i g

pub get_left : {A : Type 0} (xs ys : List A) (i : ℕ) (x : A) → slice_get xs i ≡ Some x → slice_get (xs ++ ys) i ≡ Some x
get_left [] ys i x e = absurd (cc)
get_left (y ∷ xs) ys zero x e = e
get_left (y ∷ xs) ys (suc i) x e = get_left xs ys i x e

-- there are no more nodes than forks
pub nodes_within : (nodes : List Node) (forks : List ℕ) → map (λ (node : Node). node.fork) nodes ≡ take (length nodes) forks → length nodes ≤ length forks
nodes_within nodes forks e =
    let h : length (map (λ (node : Node). node.fork) nodes) ≡ length (take (length nodes) forks) = ap length e in
    omega (arith, h, length-map nodes (λ (node : Node). node.fork), length-take (length nodes) forks)

module _ (m : Module) (state root : List SigBit) (old new : Reach) (r : IsReach m state root old) where
  -- a fork is found
  pub meet_new : (at : ℕ) → at < length old.found.items → IsForkUnder m state root at → new.forks.items ≡ old.forks.items ++ at ∷ [] → new.found.items ≡ set old.found.items at true → new.known ≡ old.known → new.nodes ≡ old.nodes → Meets m state root old new at
  meet_new at inside under forks found known nodes = record {
    reach = record {
      count = ap length found ∙ length-set old.found.items at true ∙ r.count;
      found = λ a i. ap (λ xs. slice_get xs a) found ∙ ⊎_elim (λ j. get_set old.found.items at a (r.found a j)) (λ j. ⊎_elim (λ e. ap (slice_get (set old.found.items at true)) e ∙ get_set_same old.found.items at inside) (λ bot. absurd bot) j) (In-cases a old.forks.items (at ∷ []) (subst (In a) forks i));
      marked = λ a e. here a (set_get old.found.items at a (sym (ap (λ xs. slice_get xs a) found) ∙ e));
      forks = λ a i. ⊎_elim (λ j. r.forks a j) (λ j. ⊎_elim (λ e. subst (IsForkUnder m state root) (sym e) under) (λ bot. absurd bot) j) (In-cases a old.forks.items (at ∷ []) (subst (In a) forks i));
      known = λ bits i. r.known bits (subst (λ ks. In bits ks.items) known i);
      nodes = λ node i. subst (λ ks. IsNode m state new.forks.items ks.items node) (sym known) (node_more m state old.forks.items new.forks.items old.known.items old.known.items more (λ x j. j) node (r.nodes node (subst (λ ns. In node ns.items) nodes i)));
      order = ap (λ ns. map (λ (node : Node). node.fork) ns.items) nodes ∙ r.order ∙ sym (take-append-le (length old.nodes.items) old.forks.items (at ∷ []) (nodes_within old.nodes.items old.forks.items r.order)) ∙ (λ i. take (length (sym nodes i).items) (sym forks i));
    };
    here = subst (In at) (sym forks) (In-right at old.forks.items (at ∷ []) (inl refl));
    forks = more;
    kept = λ i x e. sym (ap (λ xs. slice_get xs i) (sym forks)) ∙ get_left old.forks.items (at ∷ []) i x e;
    known = known;
    nodes = nodes;
  }
    where
      more : (x : ℕ) → In x old.forks.items → In x new.forks.items
      more x i = subst (In x) (sym forks) (In-left x old.forks.items (at ∷ []) i)

      here : (a : ℕ) → (a ≡ at) ⊎ (slice_get old.found.items a ≡ Some true) → In a new.forks.items
      here a (inl e) = subst (In a) (sym forks) (In-right a old.forks.items (at ∷ []) (inl e))
      here a (inr e) = more a (r.marked a e)

  -- a leaf is visited
  pub visit_leaf : (signal : List SigBit) (below : List ℕ) → IsUnder m state root signal → Leaf ≡ step_of m state signal → Learns old new signal → Visits m state root (signal ∷ []) old new below below
  visit_leaf signal below under is l = record {
    reach = record {
      count = ap (λ xs. length xs.items) l.found ∙ r.count;
      found = λ a i. ap (λ xs. slice_get xs.items a) l.found ∙ r.found a (subst (λ xs. In a xs.items) l.forks i);
      marked = λ a e. same a (r.marked a (sym (ap (λ xs. slice_get xs.items a) l.found) ∙ e));
      forks = λ a i. r.forks a (subst (λ xs. In a xs.items) l.forks i);
      known = λ bits i. ⊎_elim (λ j. r.known bits j) (λ w. subst (IsLeafUnder m state root) (sym w.1) (under_leaf m state root signal under is w.0)) (l.only bits i);
      nodes = λ node i. node_more m state old.forks.items new.forks.items old.known.items new.known.items same l.known node (r.nodes node (subst (λ ns. In node ns.items) l.nodes i));
      order = ap (λ ns. map (λ (node : Node). node.fork) ns.items) l.nodes ∙ r.order ∙ (λ i. take (length (sym l.nodes i).items) (sym l.forks i).items);
    };
    forks = same;
    kept = λ i x e. ap (λ xs. slice_get xs.items i) l.forks ∙ e;
    known = l.known;
    nodes = l.nodes;
    met = λ s i. ⊎_elim (λ e. subst (IsMet new.forks.items new.known.items below s) (is ∙ ap (step_of m state) (sym e)) (λ k. subst (λ u. In (map constant_of u) new.known.items) (sym e) (l.here (sym (ap is_state_constant e) ∙ k)))) (λ bot. absurd bot) i;
    before = λ x i. i;
    only = λ x i. inl i;
  }
    where
      same : (x : ℕ) → In x old.forks.items → In x new.forks.items
      same x i = subst (λ xs. In x xs.items) (sym l.forks) i

  -- a fork is visited
  pub visit_fork : (signal : List SigBit) (at : ℕ) (below below' : List ℕ) → Fork at ≡ step_of m state signal → Meets m state root old new at → below' ≡ below ++ at ∷ [] → Visits m state root (signal ∷ []) old new below below'
  visit_fork signal at below below' is h more = record {
    reach = h.reach;
    forks = h.forks;
    kept = h.kept;
    known = λ x i. subst (λ ks. In x ks.items) (sym h.known) i;
    nodes = h.nodes;
    met = λ s i. ⊎_elim (λ e. subst (IsMet new.forks.items new.known.items below' s) (is ∙ ap (step_of m state) (sym e)) (last, h.here)) (λ bot. absurd bot) i;
    before = λ x i. subst (In x) (sym more) (In-left x below (at ∷ []) i);
    only = λ x i. ⊎_elim (λ j. inl j) (λ j. ⊎_elim (λ e. inr (signal, inl refl, sym is ∙ ap Fork (sym e))) (λ bot. absurd bot) j) (In-cases x below (at ∷ []) (subst (In x) more i));
  }
    where
      last : In at below'
      last = subst (In at) (sym more) (In-right at below (at ∷ []) (inl refl))

-- the constant of a leaf is noted
pub learn_new : (old new : Reach) (signal : List SigBit) → is_state_constant signal ≡ true → new.known.items ≡ old.known.items ++ map constant_of signal ∷ [] → new.found ≡ old.found → new.forks ≡ old.forks → new.nodes ≡ old.nodes → Learns old new signal
learn_new old new signal is known found forks nodes = record {
  found = found;
  forks = forks;
  nodes = nodes;
  known = λ x i. subst (In x) (sym known) (In-left x old.known.items (map constant_of signal ∷ []) i);
  here = λ k. subst (In (map constant_of signal)) (sym known) (In-right (map constant_of signal) old.known.items (map constant_of signal ∷ []) (inl refl));
  only = λ x i. ⊎_elim (λ j. inl j) (λ j. ⊎_elim (λ e. inr (is, e)) (λ bot. absurd bot) j) (In-cases x old.known.items (map constant_of signal ∷ []) (subst (In x) known i));
}

pub take_next : {A : Type 0} (xs : List A) (i : ℕ) (x : A) → slice_get xs i ≡ Some x → take (i + 1) xs ≡ take i xs ++ x ∷ []
take_next [] i x e = absurd (cc)
take_next (y ∷ xs) zero x e = let one : y ≡ x = cc in ap (λ z. z ∷ []) one
take_next (y ∷ xs) (suc i) x e = let one : suc i + 1 ≡ suc (i + 1) = omega arith in ap (λ n. take n (y ∷ xs)) one ∙ ap (λ r. y ∷ r) (take_next xs i x e)

module _ (m : Module) (state root : List SigBit) where
  pub visits_none : (old : Reach) (below : List ℕ) → IsReach m state root old → Visits m state root [] old old below below
  visits_none old below r = record { reach = r; forks = λ x i. i; kept = λ i x e. e; known = λ x i. i; nodes = refl; met = λ s i. absurd i; before = λ x i. i; only = λ x i. inl i }

  -- one signal more
  pub visits_more : (ss : List (List SigBit)) (s : List SigBit) (a b c : Reach) (x y z : List ℕ) → Visits m state root ss a b x y → Visits m state root (s ∷ []) b c y z → Visits m state root (ss ++ s ∷ []) a c x z
  visits_more ss s a b c x y z p q = record {
    reach = q.reach;
    forks = λ e i. q.forks e (p.forks e i);
    kept = λ i e k. q.kept i e (p.kept i e k);
    known = λ e i. q.known e (p.known e i);
    nodes = q.nodes ∙ p.nodes;
    met = λ t i. ⊎_elim (λ j. met_more b.forks.items c.forks.items b.known.items c.known.items y z q.forks q.known q.before t (step_of m state t) (p.met t j)) (λ j. q.met t j) (In-cases t ss (s ∷ []) i);
    before = λ e i. q.before e (p.before e i);
    only = λ e i. ⊎_elim (λ j. ⊎_elim (λ k. inl k) (λ w. inr (w.0, In-left w.0 ss (s ∷ []) w.1, w.2)) (p.only e j)) (λ w. inr (w.0, In-right w.0 ss (s ∷ []) w.1, w.2)) (q.only e i);
  }

  -- a fork is opened: its arms are visited, and it goes last among the nodes
  pub open_new : (at : ℕ) (c : Cell) (old mid new : Reach) (arms : List (List SigBit)) (node : Node) → slice_get m.cells at ≡ Some c → arms ≡ arms_in m c → slice_get old.forks.items (length old.nodes.items) ≡ Some at
      → Visits m state root arms old mid [] node.below.items → node.fork ≡ at → new.nodes.items ≡ mid.nodes.items ++ node ∷ [] → new.found ≡ mid.found → new.forks ≡ mid.forks → new.known ≡ mid.known → Opens m state root old new
  open_new at c old mid new arms node is all place v fork nodes found forks known = record {
    reach = whole;
    forks = λ x i. subst (λ xs. In x xs.items) (sym forks) (v.forks x i);
    known = λ x i. subst (λ xs. In x xs.items) (sym known) (v.known x i);
  }
    where
      moved : (n : Node) → IsNode m state mid.forks.items mid.known.items n → IsNode m state new.forks.items new.known.items n
      moved n h = subst (λ fs. IsNode m state fs.items new.known.items n) (sym forks) (subst (λ ks. IsNode m state mid.forks.items ks.items n) (sym known) h)

      there : slice_get mid.forks.items (length mid.nodes.items) ≡ Some at
      there = ap (λ ns. slice_get mid.forks.items (length ns.items)) v.nodes ∙ v.kept (length old.nodes.items) at place

      count : length new.nodes.items ≡ length mid.nodes.items + 1
      count = ap length nodes ∙ length-append mid.nodes.items (node ∷ [])

      cell : (d : Cell) → slice_get m.cells node.fork ≡ Some d → arms ≡ arms_in m d
      cell d e =
          let h : Some c ≡ Some d = sym is ∙ ap (slice_get m.cells) (sym fork) ∙ e in
          let one : c ≡ d = cc in
          all ∙ ap (arms_in m) one

      own : IsNode m state mid.forks.items mid.known.items node
      own = record {
        met = λ d e s i. v.met s (subst (In s) (sym (cell d e)) i);
        only = λ d e a i. ⊎_elim (λ bot. absurd bot) (λ w. (w.0, subst (In w.0) (cell d e) w.1, w.2)) (v.only a i);
      }

      whole : IsReach m state root new
      whole = record {
        count = ap (λ xs. length xs.items) found ∙ v.reach.count;
        found = λ a i. ap (λ xs. slice_get xs.items a) found ∙ v.reach.found a (subst (λ xs. In a xs.items) forks i);
        marked = λ a e. subst (λ xs. In a xs.items) (sym forks) (v.reach.marked a (sym (ap (λ xs. slice_get xs.items a) found) ∙ e));
        forks = λ a i. v.reach.forks a (subst (λ xs. In a xs.items) forks i);
        known = λ bits i. v.reach.known bits (subst (λ xs. In bits xs.items) known i);
        nodes = λ n i. ⊎_elim (λ j. moved n (v.reach.nodes n j)) (λ j. ⊎_elim (λ e. moved n (subst (IsNode m state mid.forks.items mid.known.items) (sym e) own)) (λ bot. absurd bot) j) (In-cases n mid.nodes.items (node ∷ []) (subst (In n) nodes i));
        order =
            ap (map (λ (n : Node). n.fork)) nodes
            ∙ map-append (λ (n : Node). n.fork) mid.nodes.items (node ∷ [])
            ∙ (λ i. v.reach.order i ++ fork i ∷ [])
            ∙ sym (take_next mid.forks.items (length mid.nodes.items) at there)
            ∙ (λ i. take (sym count i) (sym forks i).items);
      }

pub get_in : {A : Type 0} (xs : List A) (i : ℕ) (x : A) → slice_get xs i ≡ Some x → In x xs
get_in [] i x e = absurd (cc)
get_in (y ∷ xs) zero x e = let one : x ≡ y = cc in inl one
get_in (y ∷ xs) (suc i) x e = inr (get_in xs i x e)

pub at_false : (P Q : Type 0) (b : Bool) → b ≡ false → MatchBool b P Q → Q
at_false P Q b e h = subst (λ x. MatchBool x P Q) e h

pub at_true : (P Q : Type 0) (b : Bool) → b ≡ true → MatchBool b P Q → P
at_true P Q b e h = subst (λ x. MatchBool x P Q) e h

pub take_all : {A : Type 0} (xs : List A) (n : ℕ) → length xs ≤ n → take n xs ≡ xs
take_all [] zero h = refl
take_all [] (suc n) h = refl
take_all (x ∷ xs) zero h = absurd (omega (arith, h))
take_all (x ∷ xs) (suc n) h = let k : length xs ≤ n = omega (arith, h) in ap (λ r. x ∷ r) (take_all xs n k)

-- the signal that comes next
pub visit_next : (m : Module) (state root : List SigBit) (signals : List (List SigBit)) (i : ℕ) (s : List SigBit) (a b c : Reach) (x y z : List ℕ) → slice_get signals i ≡ Some s
    → Visits m state root (take i signals) a b x y → Visits m state root (s ∷ []) b c y z → Visits m state root (take (i + 1) signals) a c x z
visit_next m state root signals i s a b c x y z is p q = subst (λ ss. Visits m state root ss a c x z) (sym (take_next signals i s is)) (visits_more m state root (take i signals) s a b c x y z p q)
