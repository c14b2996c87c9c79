-- The tree of a root is what is found of it.
use Rattle.std.proofs.Common.{◌≡◌, ℕ, zero, suc, ◌+◌, ◌<◌, Bool, true, false, List, [], ◌∷◌, length, map, filter, Option, Some, None, ◌⊎◌, inl, inr, refl, sym, ◌∙◌, ap, subst, arith, cond}
use Rattle.std.specs.Prelude.{slice_get, MatchOption, ◌||◌, ◌==◌}
use Rattle.std.proofs.lemmas.Bool.Decides.{nat_tests}
use Rattle.std.proofs.lemmas.Option.{slice_get_within}
use Rattle.rtl_sig.specs.declared.sig.SigBit.{SigBit}
use Rattle.rtl_ir.specs.declared.cell.Cell.{Cell}
use Rattle.rtl_ir.specs.declared.module.Module.{Module}
use Rattle.rtl_ir.specs.Signals.{constant_of}
use Rattle.rtl_ir.specs.Follow.{follow}
use Rattle.cell_types.specs.declared.pin_name.PinName.TheVariants.{D}
use Rattle.net_model.specs.Fsm.Find.{Tree, at_pin, has_place, is_state_constant, tree_of, tree_within}
use Rattle.net_model.specs.Lists.{In}
use Rattle.net_model.proofs.Members.{In-mapped}
use Rattle.fsm_find.specs.declared.reach.Node.{Node}
use Rattle.fsm_find.specs.declared.reach.Reach.{Reach}
use Rattle.fsm_find.specs.Found.{IsFound, IsTreeFound}
use Rattle.fsm_find.specs.Order.{IsShallow, is_done}
use Rattle.fsm_find.specs.Trees.{HasNoTree, IsWhole}
use Rattle.fsm_find.specs.View.{step_of}
use Rattle.fsm_find.proofs.Trees.{fork_get}
use Rattle.fsm_find.proofs.Wholes.{met_tree, no_tree, node_of, shallow_tree}

none_past : {A : Type 0} (xs : List A) (at : ℕ) → at < length xs → slice_get xs at ≡ None → ⊥
none_past [] at h e = absurd (omega (arith, h))
none_past (x ∷ xs) zero h e = absurd (cc)
none_past (x ∷ xs) (suc at) h e = let g : at < length xs = omega (arith, h) in none_past xs at g e

pub both_ways : (a b : Bool) → (a ≡ true → b ≡ true) → (b ≡ true → a ≡ true) → a ≡ b
both_ways true b f g = sym (f refl)
both_ways false true f g = g refl
both_ways false false f g = refl

equal_is : (a b : ℕ) → (a == b) ≡ true → a ≡ b
equal_is a b e = grind (arith, nat_tests)

equal_same : (a : ℕ) → (a == a) ≡ true
equal_same a = grind (arith, nat_tests)

pub place_in : (places : List ℕ) (at : ℕ) → has_place places at ≡ true → In at places
place_in [] at e = absurd (cc)
place_in (p ∷ places) at e = by (p == at) refl (λ h. place_in places at h) e
  where
    by : (b : Bool) → (p == at) ≡ b → (has_place places at ≡ true → In at places) → (b || has_place places at) ≡ true → (at ≡ p) ⊎ In at places
    by true k more e = inl (sym (equal_is p at k))
    by false k more e = inr (more e)

pub in_place : (places : List ℕ) (at : ℕ) → In at places → has_place places at ≡ true
in_place [] at i = absurd i
in_place (p ∷ places) at (inl e) = ap (λ b. b || has_place places at) (ap (λ q. p == q) e ∙ equal_same p)
in_place (p ∷ places) at (inr i) = by (p == at) (in_place places at i)
  where
    by : (b : Bool) → has_place places at ≡ true → (b || has_place places at) ≡ true
    by true h = refl
    by false h = h

get_done : (done : List Bool) (at : ℕ) → slice_get done at ≡ Some true → is_done done at ≡ true
get_done [] at e = absurd (cc)
get_done (x ∷ xs) zero e = cc
get_done (x ∷ xs) (suc at) e = get_done xs at e

pub done_get : (done : List Bool) (at : ℕ) → is_done done at ≡ true → slice_get done at ≡ Some true
done_get [] at e = absurd (cc)
done_get (x ∷ xs) zero e = ap Some e
done_get (x ∷ xs) (suc at) e = done_get xs at e

pub in_filter : {A : Type 0} (test : A → Bool) (xs : List A) (x : A) → In x (filter test xs) → In x xs × (test x ≡ true)
in_filter test [] x i = absurd i
in_filter test (y ∷ xs) x i = by (test y) refl (λ h. in_filter test xs x h) i
  where
    by : (b : Bool) → test y ≡ b → (In x (filter test xs) → In x xs × (test x ≡ true)) → In x (cond b (y ∷ filter test xs) (filter test xs)) → ((x ≡ y) ⊎ In x xs) × (test x ≡ true)
    by true k more (inl e) = (inl e, ap test e ∙ k)
    by true k more (inr j) = let w = more j in (inr w.0, w.1)
    by false k more j = let w = more j in (inr w.0, w.1)

module _ (m : Module) (state root : List SigBit) (r : Reach) (w : IsWhole m state root r) where
  pub tree_found : ((node : Node) → In node r.nodes.items → IsShallow r.nodes.items (length m.cells) node.fork) → (t : Tree) × (tree_within m state (length m.cells + 1) root ≡ Some t) × IsFound m r t
  tree_found shallow =
      let tree = met_tree m state root r w (length m.cells) (shallow_tree m state root r w cells (length m.cells)) r.forks.items below root (step_of m state root) refl w.met in
      let one : length m.cells + 1 ≡ suc (length m.cells) = omega arith in
      let is = ap (λ n. tree_within m state n root) one ∙ tree.1 in (
        tree.0,
        is,
        record {
          count = w.reach.count;
          forks = λ at. both_ways (has_place tree.0.forks at) (is_done r.found.items at)
              (λ e. get_done r.found.items at (w.reach.found at (tree.2.covers at (place_in tree.0.forks at e))))
              (λ e.
              let h = w.reach.forks at (w.reach.marked at (done_get r.found.items at e)) (length m.cells + 1) tree.0 is in
              in_place tree.0.forks at (h.3.forks at (fork_get m state h.0 at h.1 h.2).here));
          known = λ bits i. w.reach.known bits i (length m.cells + 1) tree.0 is;
          learns = λ bits i.
              let s = In-mapped (map constant_of) bits (filter is_state_constant tree.0.leaves) i in
              let k = in_filter is_state_constant tree.0.leaves s.0 s.1 in
              subst (λ b. In b r.known.items) (sym s.2) (tree.2.learns s.0 k.0 k.1);
        },
      )
    where
      cells : (at : ℕ) → In at r.forks.items → slice_get m.cells at ≡ None → ⊥
      cells at i e =
          let h = slice_get_within r.found.items at true (w.reach.found at i) in
          let g : at < length m.cells = omega (arith, h, w.reach.count) in
          none_past m.cells at g e

      below : (at : ℕ) → In at r.forks.items → IsShallow r.nodes.items (length m.cells) at
      below at i = let n = node_of m state root r w at i in subst (IsShallow r.nodes.items (length m.cells)) (sym n.2) (shallow n.0 n.1)

pub none_case : {T : Type 0} (P : Type 0) (Q : T → Type 0) (o : Option T) → o ≡ None → MatchOption o P Q → P
none_case P Q o e h = subst (λ x. MatchOption x P Q) e h

pub some_case : {T : Type 0} (P : Type 0) (Q : T → Type 0) (o : Option T) (x : T) → o ≡ Some x → MatchOption o P Q → Q x
some_case P Q o x e h = subst (λ x. MatchOption x P Q) e h

-- the same at D of a flip-flop
module _ (m : Module) (state : List SigBit) (flop : Cell) (root : List SigBit) (is : root ≡ map (follow m.links) (at_pin flop D)) where
  pub flop_none : HasNoTree m state root → tree_of m state flop ≡ None
  flop_none h = ap (tree_within m state (length m.cells + 1)) (sym is) ∙ h (length m.cells + 1)

  pub flop_cyclic : (r : Reach) → IsWhole m state root r → (node : Node) × In node r.nodes.items × ((n : ℕ) → IsShallow r.nodes.items n node.fork → ⊥) → tree_of m state flop ≡ None
  flop_cyclic r w node = flop_none (no_tree m state root r w node.0 node.1 node.2)

  pub flop_found : (r : Reach) → IsWhole m state root r → ((node : Node) → In node r.nodes.items → IsShallow r.nodes.items (length m.cells) node.fork) → IsTreeFound m state flop r
  flop_found r w shallow = let t = tree_found m state root r w shallow in (t.0, ap (tree_within m state (length m.cells + 1)) (sym is) ∙ t.1, t.2)
