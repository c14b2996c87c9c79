-- Where all that a root reaches is found, and no fork is below itself, the root has a tree, and else it has none.
use Rattle.std.proofs.Common.{◌≡◌, ℕ, zero, suc, List, [], ◌∷◌, length, map, Option, Some, None, ⊎_elim, refl, sym, ◌∙◌, ap, subst}
use Rattle.std.specs.Prelude.{slice_get, option_and_then}
use Rattle.rtl_sig.specs.declared.sig.SigBit.{SigBit}
use Rattle.rtl_ir.specs.declared.cell.Cell.{Cell}
use Rattle.rtl_ir.specs.declared.module.Module.{Module}
use Rattle.rtl_ir.specs.Signals.{constant_of}
use Rattle.net_model.specs.Fsm.Find.{Tree, above_tree, all_trees, is_state_constant, tree_within}
use Rattle.net_model.specs.Lists.{In}
use Rattle.net_model.proofs.Members.{In-mapped, In-map}
use Rattle.fsm_find.specs.declared.reach.Node.{Node}
use Rattle.fsm_find.specs.declared.reach.Reach.{Reach}
use Rattle.fsm_find.specs.declared.view.Step.{Step}
use Rattle.fsm_find.specs.declared.view.Step.TheVariants.{Leaf, Fork, Stray}
use Rattle.fsm_find.specs.Order.{IsShallow}
use Rattle.fsm_find.specs.Trees.{HasNoTree, IsMet, IsWhole, fork_tree}
use Rattle.fsm_find.specs.View.{arms_in, step_of}
use Rattle.fsm_find.proofs.Trees.{HasTree, all_make, fork_get, tree_at}
use Rattle.fsm_find.proofs.Visiting.{take_all}

module _ (m : Module) (state root : List SigBit) (r : Reach) (w : IsWhole m state root r) where
  -- each fork has its node
  pub node_of : (at : ℕ) → In at r.forks.items → (node : Node) × In node r.nodes.items × (at ≡ node.fork)
  node_of at i =
      let all : map (λ (node : Node). node.fork) r.nodes.items ≡ r.forks.items = w.reach.order ∙ take_all r.forks.items (length r.nodes.items) w.all in
      In-mapped (λ (node : Node). node.fork) at r.nodes.items (subst (In at) (sym all) i)

  -- a fork with few levels below has a tree of what is found
  pub met_tree : (n : ℕ) → ((at : ℕ) → In at r.forks.items → IsShallow r.nodes.items n at → HasTree r.forks.items r.known.items (fork_tree m state n at))
      → (below : List ℕ) → ((at : ℕ) → In at below → IsShallow r.nodes.items n at) → (s : List SigBit) (step : Step) → step ≡ step_of m state s → IsMet r.forks.items r.known.items below s step → HasTree r.forks.items r.known.items (tree_within m state (suc n) s)
  met_tree n trees below shallow s Leaf is met =
      (record { forks = []; leaves = s ∷ [] }, tree_at m state n s Leaf is, record { covers = λ x i. absurd i; learns = λ l i k. ⊎_elim (λ e. subst (λ u. In (map constant_of u) r.known.items) (sym e) (met (sym (ap is_state_constant e) ∙ k))) (λ bot. absurd bot) i })
  met_tree n trees below shallow s (Fork at) is met =
      let t = trees at met.1 (shallow at met.0) in
      (t.0, tree_at m state n s (Fork at) is ∙ t.1, t.2)
  met_tree n trees below shallow s Stray is met = absurd met

  cell_tree : (n : ℕ) (at : ℕ) (c : Option Cell) → slice_get m.cells at ≡ c → In at r.forks.items → ((d : Cell) → c ≡ Some d → HasTree r.forks.items r.known.items (all_trees (map (tree_within m state n) (arms_in m d)))) → (c ≡ None → ⊥)
      → HasTree r.forks.items r.known.items (fork_tree m state n at)
  cell_tree n at None is here h some = absurd (some refl)
  cell_tree n at (Some d) is here h some =
      let t = h d refl in (
        record { forks = at ∷ t.0.forks; leaves = t.0.leaves },
        ap (option_and_then (λ (c : Cell). above_tree at (all_trees (map (tree_within m state n) (arms_in m c))))) is ∙ ap (above_tree at) t.1,
        record { covers = λ x i. ⊎_elim (λ e. subst (λ y. In y r.forks.items) (sym e) here) (λ j. t.2.covers x j) i; learns = t.2.learns },
      )

  module _ (cells : (at : ℕ) → In at r.forks.items → slice_get m.cells at ≡ None → ⊥) where
    pub shallow_tree : (n at : ℕ) → In at r.forks.items → IsShallow r.nodes.items n at → HasTree r.forks.items r.known.items (fork_tree m state n at)
    shallow_tree zero at here s = absurd s
    shallow_tree (suc n) at here s =
        let trees = shallow_tree n in
        let node = w.reach.nodes s.0 s.1 in
        cell_tree (suc n) at (slice_get m.cells at) refl here
        (λ d is. all_make r.forks.items r.known.items (tree_within m state (suc n)) (arms_in m d) (λ a i. met_tree n trees s.0.below.items s.3 a (step_of m state a) refl (node.met d (ap (slice_get m.cells) s.2 ∙ is) a i)))
        (cells at here)

  -- a fork that has a tree has few levels below
  tree_shallow : (n at : ℕ) (t : Tree) → In at r.forks.items → fork_tree m state n at ≡ Some t → IsShallow r.nodes.items (suc n) at
  tree_shallow zero at t here e =
      let node = node_of at here in
      let h = fork_get m state zero at t e in
      let c : slice_get m.cells node.0.fork ≡ Some h.cell = sym (ap (slice_get m.cells) node.2) ∙ h.is in (
        node.0,
        node.1,
        sym node.2,
        λ f i.
            let o = (w.reach.nodes node.0 node.1).only h.cell c f i in
            let a = h.arms o.0 o.1 in
            let no : None ≡ Some a.0 = a.1 in absurd (cc),
      )
  tree_shallow (suc n) at t here e =
      let node = node_of at here in
      let h = fork_get m state (suc n) at t e in
      let c : slice_get m.cells node.0.fork ≡ Some h.cell = sym (ap (slice_get m.cells) node.2) ∙ h.is in
      let below = tree_shallow n in (
        node.0,
        node.1,
        sym node.2,
        λ f i.
            let o = (w.reach.nodes node.0 node.1).only h.cell c f i in
            let a = h.arms o.0 o.1 in
            let met : IsMet r.forks.items r.known.items node.0.below.items o.0 (Fork f) = subst (IsMet r.forks.items r.known.items node.0.below.items o.0) o.2 ((w.reach.nodes node.0 node.1).met h.cell c o.0 o.1) in
            below f a.0 met.1 (sym (tree_at m state n o.0 (Fork f) (sym o.2)) ∙ a.1),
      )

  -- where a fork is below itself, the root has no tree
  pub no_tree : (node : Node) → In node r.nodes.items → ((n : ℕ) → IsShallow r.nodes.items n node.fork → ⊥) → HasNoTree m state root
  no_tree node i never n = by (tree_within m state n root) refl
    where
      placed : In node.fork r.forks.items
      placed = subst (In node.fork) (w.reach.order ∙ take_all r.forks.items (length r.nodes.items) w.all) (In-map (λ (node : Node). node.fork) node r.nodes.items i)

      by : (o : Option Tree) → tree_within m state n root ≡ o → o ≡ None
      by None e = refl
      by (Some t) e =
          let f = w.reach.forks node.fork placed n t e in
          absurd (never (suc f.0) (tree_shallow f.0 node.fork f.1 placed f.2))
