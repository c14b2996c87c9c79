-- What is found so far stays found.
use Rattle.std.proofs.Common.{◌≡◌, ℕ, zero, suc, Bool, true, false, List, [], ◌∷◌, map, filter, Option, Some, None, inl, inr, refl, sym, ◌∙◌, ap, subst, cond}
use Rattle.std.specs.Prelude.{slice_get}
use Rattle.rtl_bits.specs.declared.bit.Bit.{Bit}
use Rattle.rtl_sig.specs.declared.sig.SigBit.{SigBit}
use Rattle.rtl_ir.specs.declared.cell.Cell.{Cell}
use Rattle.rtl_ir.specs.declared.module.Module.{Module}
use Rattle.rtl_ir.specs.Signals.{constant_of}
use Rattle.net_model.specs.Fsm.Find.{Tree, is_state_constant, known_leaves, tree_within}
use Rattle.net_model.specs.Lists.{In}
use Rattle.net_model.proofs.Members.{In-map}
use Rattle.fsm_find.specs.declared.reach.Node.{Node}
use Rattle.fsm_find.specs.declared.view.Step.{Step}
use Rattle.fsm_find.specs.declared.view.Step.TheVariants.{Leaf, Fork, Stray}
use Rattle.fsm_find.specs.Trees.{HasNoTree, Includes, IsForkUnder, IsLeafUnder, IsMet, IsNode, IsPart, IsUnder, fork_tree}
use Rattle.fsm_find.specs.View.{arms_in, step_of}
use Rattle.fsm_find.proofs.Trees.{fork_get, part_of, tree_at}

-- met signals stay met
pub met_more : (forks forks' : List ℕ) (known known' : List (List Bit)) (below below' : List ℕ) → Includes forks forks' → Includes known known' → Includes below below'
    → (s : List SigBit) (step : Step) → IsMet forks known below s step → IsMet forks' known' below' s step
met_more forks forks' known known' below below' f k b s Leaf h = λ is. k (map constant_of s) (h is)
met_more forks forks' known known' below below' f k b s (Fork at) h = (b at h.0, f at h.1)
met_more forks forks' known known' below below' f k b s Stray h = h

pub met_below : (forks : List ℕ) (known : List (List Bit)) (below : List ℕ) (s : List SigBit) (step : Step) → IsMet forks known below s step → IsMet forks known forks s step
met_below forks known below s Leaf h = h
met_below forks known below s (Fork at) h = (h.1, h.1)
met_below forks known below s Stray h = h

pub node_more : (m : Module) (state : List SigBit) (forks forks' : List ℕ) (known known' : List (List Bit)) → Includes forks forks' → Includes known known'
    → (node : Node) → IsNode m state forks known node → IsNode m state forks' known' node
node_more m state forks forks' known known' f k node h = record {
  met = λ c is s i. met_more forks forks' known known' node.below.items node.below.items f k (λ x j. j) s (step_of m state s) (h.met c is s i);
  only = h.only;
}

module _ (m : Module) (state root : List SigBit) where
  -- where a signal under the root is a fork, the fork is under it
  pub under_fork : (s : List SigBit) (at : ℕ) → IsUnder m state root s → Fork at ≡ step_of m state s → IsForkUnder m state root at
  under_fork s at under is n t e = let w = under n t e in by w.0 w.1 w.2 w.3
    where
      by : (k : ℕ) (part : Tree) → tree_within m state k s ≡ Some part → IsPart part t → (k : ℕ) × (part : Tree) × (fork_tree m state k at ≡ Some part) × IsPart part t
      by zero part e p = absurd (cc)
      by (suc k) part e p = (k, part, sym (tree_at m state k s (Fork at) is) ∙ e, p)

  -- the arms of a fork under the root are under it
  pub under_arm : (at : ℕ) → IsForkUnder m state root at → (c : Cell) → slice_get m.cells at ≡ Some c → (s : List SigBit) → In s (arms_in m c) → IsUnder m state root s
  under_arm at under c is s i n t e =
      let w = under n t e in
      let h = fork_get m state w.0 at w.1 w.2 in
      let same : Some h.cell ≡ Some c = sym h.is ∙ is in
      let one : c ≡ h.cell = cc in
      let v = h.arms s (subst (λ (d : Cell). In s (arms_in m d)) one i) in
      (w.0, v.0, v.1, part_of v.0 w.1 t v.2 w.3)

  -- where a signal under the root is a known leaf, its bits are one of the tree
  pub under_leaf : (s : List SigBit) → IsUnder m state root s → Leaf ≡ step_of m state s → is_state_constant s ≡ true → IsLeafUnder m state root (map constant_of s)
  under_leaf s under is known n t e = let w = under n t e in by w.0 w.1 w.2 w.3
    where
      in_known : (leaves : List (List SigBit)) → In s leaves → In (map constant_of s) (known_leaves leaves)
      in_known leaves i = In-map (map constant_of) s (filter is_state_constant leaves) (kept leaves i)
        where
          kept : (leaves : List (List SigBit)) → In s leaves → In s (filter is_state_constant leaves)
          kept [] i = absurd i
          kept (l ∷ leaves) (inl e) = subst (λ b. In s (cond b (l ∷ filter is_state_constant leaves) (filter is_state_constant leaves))) (sym (ap is_state_constant (sym e) ∙ known)) (inl e)
          kept (l ∷ leaves) (inr i) = by_case (is_state_constant l) (kept leaves i)
            where
              by_case : (b : Bool) → In s (filter is_state_constant leaves) → In s (cond b (l ∷ filter is_state_constant leaves) (filter is_state_constant leaves))
              by_case true j = inr j
              by_case false j = j

      by : (k : ℕ) (part : Tree) → tree_within m state k s ≡ Some part → IsPart part t → In (map constant_of s) (known_leaves t.leaves)
      by zero part e p = absurd (cc)
      by (suc k) part e p =
          let f : Some (record { forks = []; leaves = s ∷ [] }) ≡ Some part = sym (tree_at m state k s Leaf is) ∙ e in
          let one : record { forks = []; leaves = s ∷ [] } ≡ part = cc in
          in_known t.leaves (p.leaves s (subst (λ (u : Tree). In s u.leaves) one (inl refl)))

  -- where a signal under the root is neither, the root has no tree
  pub under_stray : (s : List SigBit) → IsUnder m state root s → Stray ≡ step_of m state s → HasNoTree m state root
  under_stray s under is n = by (tree_within m state n root) refl
    where
      no : (k : ℕ) (part : Tree) → tree_within m state k s ≡ Some part → ⊥
      no zero part e = absurd (cc)
      no (suc k) part e = let f : None ≡ Some part = sym (tree_at m state k s Stray is) ∙ e in absurd (cc)

      by : (o : Option Tree) → tree_within m state n root ≡ o → o ≡ None
      by None e = refl
      by (Some t) e = let w = under n t e in absurd (no w.0 w.1 w.2)
