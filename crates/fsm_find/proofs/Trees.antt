-- Trees step by step.
use Rattle.std.proofs.Common.{◌≡◌, ℕ, suc, Bool, true, false, List, [], ◌∷◌, ◌++◌, map, Option, Some, None, ◌⊎◌, inl, inr, ⊎_elim, refl, sym, ◌∙◌, ap, subst, cond}
use Rattle.std.specs.Prelude.{slice_get, option_and_then}
use Rattle.rtl_bits.specs.declared.bit.Bit.{Bit}
use Rattle.rtl_sig.specs.declared.sig.SigBit.{SigBit}
use Rattle.rtl_ir.specs.declared.cell.Cell.{Cell}
use Rattle.rtl_ir.specs.declared.module.Module.{Module}
use Rattle.rtl_ir.specs.Signals.{constant_of}
use Rattle.rtl_ir.specs.Follow.{follow}
use Rattle.net_model.specs.Fsm.Find.{Tree, above_tree, all_trees, arms_of, both_trees, is_leaf, is_state_constant, tree_within}
use Rattle.net_model.specs.Lists.{In}
use Rattle.net_model.proofs.Members.{In-cases, In-left, In-right, map-map}
use Rattle.fsm_find.specs.declared.view.Step.{Step}
use Rattle.fsm_find.specs.declared.view.Step.TheVariants.{Leaf, Fork, Stray}
use Rattle.fsm_find.specs.WholeDrivers.{fork_at}
use Rattle.fsm_find.specs.Trees.{Includes, IsPart, fork_tree}
use Rattle.fsm_find.specs.View.{arms_in, fork_step, step_of}

-- the tree by what a signal is
abbrev pub tree_by : Module → List SigBit → ℕ → List SigBit → Step → Option Tree
tree_by m state n s Leaf = Some (record { forks = []; leaves = s ∷ [] })
tree_by m state n s (Fork at) = fork_tree m state n at
tree_by m state n s Stray = None

module _ (m : Module) (state : List SigBit) where
  pub tree_suc : (n : ℕ) (s : List SigBit) → tree_within m state (suc n) s ≡ tree_by m state n s (step_of m state s)
  tree_suc n s = by (is_leaf state s) (fork_at m.cells s)
    where
      arms : (c : Cell) (at : ℕ) → above_tree at (all_trees (map (λ arm. tree_within m state n (map (follow m.links) arm)) (arms_of c))) ≡ above_tree at (all_trees (map (tree_within m state n) (arms_in m c)))
      arms c at = ap (λ ts. above_tree at (all_trees ts)) (sym (map-map (map (follow m.links)) (tree_within m state n) (arms_of c)))

      cells : (at : ℕ) (c : Option Cell) → option_and_then (λ (c : Cell). above_tree at (all_trees (map (λ arm. tree_within m state n (map (follow m.links) arm)) (arms_of c)))) c ≡ option_and_then (λ (c : Cell). above_tree at (all_trees (map (tree_within m state n) (arms_in m c)))) c
      cells at None = refl
      cells at (Some c) = arms c at

      by : (b : Bool) (o : Option ℕ) → cond b (Some (record { forks = []; leaves = s ∷ [] })) (option_and_then (λ at. option_and_then (λ (c : Cell). above_tree at (all_trees (map (λ arm. tree_within m state n (map (follow m.links) arm)) (arms_of c)))) (slice_get m.cells at)) o) ≡ tree_by m state n s (cond b Leaf (fork_step o))
      by true o = refl
      by false None = refl
      by false (Some at) = cells at (slice_get m.cells at)

  -- the tree where it is known what the signal is
  pub tree_at : (n : ℕ) (s : List SigBit) (step : Step) → step ≡ step_of m state s → tree_within m state (suc n) s ≡ tree_by m state n s step
  tree_at n s step is = tree_suc n s ∙ ap (tree_by m state n s) (sym is)

pub part_all : (t : Tree) → IsPart t t
part_all t = record { forks = λ x i. i; leaves = λ x i. i }

pub part_of : (a b c : Tree) → IsPart a b → IsPart b c → IsPart a c
part_of a b c p q = record { forks = λ x i. q.forks x (p.forks x i); leaves = λ x i. q.leaves x (p.leaves x i) }

-- each of trees that are all there is a part of them together
pub all_get : (f : List SigBit → Option Tree) (ss : List (List SigBit)) (t : Tree) → all_trees (map f ss) ≡ Some t → (s : List SigBit) → In s ss → (part : Tree) × (f s ≡ Some part) × IsPart part t
all_get f [] t e s i = absurd i
all_get f (r ∷ ss) t e s i = by (f r) refl (all_trees (map f ss)) (λ u h j. all_get f ss u h s j) e i
  where
    by : (a : Option Tree) → f r ≡ a → (b : Option Tree) → ((u : Tree) → b ≡ Some u → In s ss → (part : Tree) × (f s ≡ Some part) × IsPart part u) → both_trees a b ≡ Some t → (s ≡ r) ⊎ In s ss → (part : Tree) × (f s ≡ Some part) × IsPart part t
    by None h b more e i = absurd (cc)
    by (Some a) h None more e i = absurd (cc)
    by (Some a) h (Some b) more e (inl is) =
        let same : record { forks = a.forks ++ b.forks; leaves = a.leaves ++ b.leaves } ≡ t = cc in
        (a, ap f is ∙ h, record { forks = λ x j. subst (λ (u : Tree). In x u.forks) same (In-left x a.forks b.forks j); leaves = λ x j. subst (λ (u : Tree). In x u.leaves) same (In-left x a.leaves b.leaves j) })
    by (Some a) h (Some b) more e (inr j) =
        let same : record { forks = a.forks ++ b.forks; leaves = a.leaves ++ b.leaves } ≡ t = cc in
        let w = more b refl j in
        (w.0, w.1, record { forks = λ x l. subst (λ (u : Tree). In x u.forks) same (In-right x a.forks b.forks (w.2.forks x l)); leaves = λ x l. subst (λ (u : Tree). In x u.leaves) same (In-right x a.leaves b.leaves (w.2.leaves x l)) })

-- a tree has these forks and these known leaves
pub record IsWithin (forks : List ℕ) (known : List (List Bit)) (t : Tree) : Type 0 where
  pub covers : Includes t.forks forks
  pub learns : (s : List SigBit) → In s t.leaves → is_state_constant s ≡ true → In (map constant_of s) known

abbrev pub HasTree : List ℕ → List (List Bit) → Option Tree → Type 0
HasTree forks known o = (t : Tree) × (o ≡ Some t) × IsWithin forks known t

-- trees are all there together
pub all_make : (forks : List ℕ) (known : List (List Bit)) (f : List SigBit → Option Tree) (ss : List (List SigBit)) → ((s : List SigBit) → In s ss → HasTree forks known (f s)) → HasTree forks known (all_trees (map f ss))
all_make forks known f [] h = (record { forks = []; leaves = [] }, refl, record { covers = λ x i. absurd i; learns = λ s i k. absurd i })
all_make forks known f (r ∷ ss) h =
    let a = h r (inl refl) in
    let b = all_make forks known f ss (λ s i. h s (inr i)) in (
      record { forks = a.0.forks ++ b.0.forks; leaves = a.0.leaves ++ b.0.leaves },
      (λ i. both_trees (a.1 i) (b.1 i)),
      record {
        covers = λ x i. ⊎_elim (λ j. a.2.covers x j) (λ j. b.2.covers x j) (In-cases x a.0.forks b.0.forks i);
        learns = λ s i k. ⊎_elim (λ j. a.2.learns s j k) (λ j. b.2.learns s j k) (In-cases s a.0.leaves b.0.leaves i);
      },
    )

-- a fork above a tree
pub above_get : (at : ℕ) (o : Option Tree) (t : Tree) → above_tree at o ≡ Some t → (u : Tree) × (o ≡ Some u) × IsPart u t × In at t.forks
above_get at None t e = absurd (cc)
above_get at (Some u) t e =
    let same : record { forks = at ∷ u.forks; leaves = u.leaves } ≡ t = cc in
    (u, refl, record { forks = λ x i. subst (λ (v : Tree). In x v.forks) same (inr i); leaves = λ x i. subst (λ (v : Tree). In x v.leaves) same i }, subst (λ (v : Tree). In at v.forks) same (inl refl))

-- the arms of a fork that has a tree
pub record HasArms (m : Module) (state : List SigBit) (n at : ℕ) (t : Tree) : Type 0 where
  pub cell : Cell
  pub is : slice_get m.cells at ≡ Some cell
  pub here : In at t.forks
  pub arms : (s : List SigBit) → In s (arms_in m cell) → (part : Tree) × (tree_within m state n s ≡ Some part) × IsPart part t

pub fork_get : (m : Module) (state : List SigBit) (n at : ℕ) (t : Tree) → fork_tree m state n at ≡ Some t → HasArms m state n at t
fork_get m state n at t e = by (slice_get m.cells at) refl e
  where
    by : (o : Option Cell) → slice_get m.cells at ≡ o → option_and_then (λ (c : Cell). above_tree at (all_trees (map (tree_within m state n) (arms_in m c)))) o ≡ Some t → HasArms m state n at t
    by None h e = absurd (cc)
    by (Some c) h e =
        let w = above_get at (all_trees (map (tree_within m state n) (arms_in m c))) t e in
        record {
          cell = c;
          is = h;
          here = w.3;
          arms = λ s i. let v = all_get (tree_within m state n) (arms_in m c) w.0 w.1 s i in (v.0, v.1, part_of v.0 w.0 t v.2 w.2);
        }
