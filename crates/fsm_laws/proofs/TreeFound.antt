-- What holds of each leaf of a tree, and of each fork whose arms have it, holds of the tree and of its cells.
use Rattle.std.proofs.Common.{◌≡◌, ℕ, zero, suc, Bool, true, false, cond, List, [], ◌∷◌, ◌++◌, length, map, Option, Some, None, inl, inr, refl, sym, ◌∙◌, ap, subst}
use Rattle.std.specs.Prelude.{◌&&◌, option_and_then, slice_get}
use Rattle.std.proofs.lemmas.Bool.{and_parts}
use Rattle.rtl_sig.specs.declared.sig.SigBit.{SigBit}
use Rattle.cell_types.specs.declared.pin_name.PinName.TheVariants.{Y}
use Rattle.rtl_ir.specs.declared.cell.Cell.{Cell}
use Rattle.rtl_ir.specs.declared.module.Module.{Module}
use Rattle.rtl_ir.specs.Flat.Cell.{cell_kind}
use Rattle.rtl_ir.specs.Follow.{follow}
use Rattle.rtl_ir.specs.Signals.{same_signal}
use Rattle.net_model.proofs.Members.{In-left, In-right}
use Rattle.net_model.proofs.Ranges.{each_both, each_more, each_none}
use Rattle.net_model.specs.Fsm.Find.{Tree, above_tree, all_trees, arms_of, at_pin, both_trees, is_fork, is_leaf, place_where, tree_within}
use Rattle.net_model.specs.Lists.{In}
use Rattle.net_model.specs.Within.{Each}
use Rattle.fsm_laws.proofs.Trees.{then_some}
use Rattle.fsm_laws.proofs.Machines.{place_found}
use Rattle.pass_laws.proofs.SamePlaces.{signal_is}

-- the parts of trees
above_parts : (at : ℕ) (o : Option Tree) (t : Tree) → above_tree at o ≡ Some t → (s : Tree) × ((o ≡ Some s) × (t ≡ record { forks = at ∷ s.forks; leaves = s.leaves }))
above_parts at None t e = absurd (cc)
above_parts at (Some s) t e =
    let same : record { forks = at ∷ s.forks; leaves = s.leaves } ≡ t = cc in
    (s, (refl, sym same))

both_parts : (a b : Option Tree) (t : Tree) → both_trees a b ≡ Some t → (x : Tree) × ((y : Tree) × ((a ≡ Some x) × (b ≡ Some y) × (t ≡ record { forks = x.forks ++ y.forks; leaves = x.leaves ++ y.leaves })))
both_parts None b t e = absurd (cc)
both_parts (Some x) None t e = absurd (cc)
both_parts (Some x) (Some y) t e =
    let same : record { forks = x.forks ++ y.forks; leaves = x.leaves ++ y.leaves } ≡ t = cc in
    (x, (y, (refl, refl, sym same)))

pub length_mapped : {A B : Type 0} (f : A → B) (xs : List A) → length (map f xs) ≡ length xs
length_mapped f [] = refl
length_mapped f (x ∷ xs) = ap suc (length_mapped f xs)

module _ (m : Module) (state : List SigBit) (forks : List ℕ) (leaves : List (List SigBit)) (width : ℕ) where
  -- the cells and the leaves of a tree are among these
  abbrev IsInside : Tree → Type 0
  IsInside t = Each (λ p. In p forks) t.forks × Each (λ l. In l leaves) t.leaves

  -- of arms as wide as the state whose trees are inside
  module _ (Q : List SigBit → Type 0) (P : ℕ → Type 0) where
    abbrev IsAll : List SigBit → Tree → Type 0
    IsAll signal t = Q signal × Each P t.forks

    arms_all : (f : List SigBit → Option Tree) → ((arm : List SigBit) (t : Tree) → f arm ≡ Some t → length arm ≡ width → IsInside t → IsAll (map (follow m.links) arm) t)
        → (arms : List (List SigBit)) (t : Tree) → all_trees (map f arms) ≡ Some t → Each (λ arm. length arm ≡ width) arms → IsInside t
        → Each (λ arm. Q (map (follow m.links) arm)) arms × Each P t.forks
    arms_all f each [] t e wide inside =
        let same : record { forks = []; leaves = [] } ≡ t = cc in
        (each_none (λ arm. Q (map (follow m.links) arm)), subst (λ (z : Tree). Each P z.forks) same (each_none P))
    arms_all f each (arm ∷ arms) t e wide inside =
        let k = both_parts (f arm) (all_trees (map f arms)) t e in
        let within : IsInside (record { forks = k.0.forks ++ k.1.0.forks; leaves = k.0.leaves ++ k.1.0.leaves }) = subst IsInside k.1.1.2 inside in
        let here = each arm k.0 k.1.1.0 (wide arm (inl refl)) (
          λ p i. within.0 p (In-left p k.0.forks k.1.0.forks i),
          λ l i. within.1 l (In-left l k.0.leaves k.1.0.leaves i),
        ) in
        let later = arms_all f each arms k.1.0 k.1.1.1 (λ a i. wide a (inr i)) (
          λ p i. within.0 p (In-right p k.0.forks k.1.0.forks i),
          λ l i. within.1 l (In-right l k.0.leaves k.1.0.leaves i),
        ) in (
          each_more (λ a. Q (map (follow m.links) a)) arm arms here.0 later.0,
          subst (λ (z : Tree). Each P z.forks) (sym k.1.1.2) (each_both P k.0.forks k.1.0.forks here.1 later.1),
        )

    module _ (down : (p : ℕ) (c : Cell) → slice_get m.cells p ≡ Some c → is_fork (cell_kind c) ≡ true → length (at_pin c Y) ≡ width → Each (λ arm. length arm ≡ width) (arms_of c))
        (leaf : (signal : List SigBit) → In signal leaves → is_leaf state signal ≡ true → length signal ≡ width → Q signal)
        (fork : (p : ℕ) (c : Cell) → slice_get m.cells p ≡ Some c → In p forks → is_fork (cell_kind c) ≡ true → length (at_pin c Y) ≡ width → is_leaf state (at_pin c Y) ≡ false → Each (λ arm. Q (map (follow m.links) arm)) (arms_of c) → Q (at_pin c Y) × P p) where
      pub tree_all : (n : ℕ) (signal : List SigBit) (t : Tree) → tree_within m state n signal ≡ Some t → length signal ≡ width → IsInside t → IsAll signal t
      tree_all zero signal t e wide inside = absurd (cc)
      tree_all (suc n) signal t e wide inside = by (is_leaf state signal) refl e (λ arm. tree_all n (map (follow m.links) arm))
        where
          arms : ℕ → Cell → Option Tree
          arms at c = above_tree at (all_trees (map (λ arm. tree_within m state n (map (follow m.links) arm)) (arms_of c)))

          by : (u : Bool) → is_leaf state signal ≡ u → cond u (Some (record { forks = []; leaves = signal ∷ [] })) (option_and_then (λ at. option_and_then (arms at) (slice_get m.cells at)) (place_where (λ (c : Cell). is_fork (cell_kind c) && same_signal (at_pin c Y) signal) 0 m.cells)) ≡ Some t
              → ((arm : List SigBit) (s : Tree) → tree_within m state n (map (follow m.links) arm) ≡ Some s → length (map (follow m.links) arm) ≡ width → IsInside s → IsAll (map (follow m.links) arm) s) → IsAll signal t
          by true g f later =
              let same : record { forks = []; leaves = signal ∷ [] } ≡ t = cc in
              let within : IsInside (record { forks = []; leaves = signal ∷ [] }) = subst IsInside (sym same) inside in
              (leaf signal (within.1 signal (inl refl)) g wide, subst (λ (z : Tree). Each P z.forks) same (each_none P))
          by false g f later =
              let test : Cell → Bool = λ (c : Cell). is_fork (cell_kind c) && same_signal (at_pin c Y) signal in
              let at = then_some (λ at. option_and_then (arms at) (slice_get m.cells at)) (place_where test 0 m.cells) t f in
              let cell = then_some (arms at.0) (slice_get m.cells at.0) t at.1.1 in
              let found = place_found test m.cells at.0 at.1.0 in
              let both : Some found.0 ≡ Some cell.0 = sym found.1.0 ∙ cell.1.0 in
              let one : found.0 ≡ cell.0 = cc in
              let passed = and_parts (is_fork (cell_kind cell.0)) (same_signal (at_pin cell.0 Y) signal) (ap test (sym one) ∙ found.1.1) in
              let is : at_pin cell.0 Y ≡ signal = signal_is (at_pin cell.0 Y) signal passed.1 in
              let y_wide : length (at_pin cell.0 Y) ≡ width = ap length is ∙ wide in
              let above = above_parts at.0 (all_trees (map (λ arm. tree_within m state n (map (follow m.links) arm)) (arms_of cell.0))) t cell.1.1 in
              let within : IsInside (record { forks = at.0 ∷ above.0.forks; leaves = above.0.leaves }) = subst IsInside above.1.1 inside in
              let below = arms_all (λ arm. tree_within m state n (map (follow m.links) arm)) (λ arm s h w i. later arm s h (length_mapped (follow m.links) arm ∙ w) i) (arms_of cell.0) above.0 above.1.0 (down at.0 cell.0 cell.1.0 passed.0 y_wide) (λ p i. within.0 p (inr i), within.1) in
              let here = fork at.0 cell.0 cell.1.0 (within.0 at.0 (inl refl)) passed.0 y_wide (ap (is_leaf state) is ∙ g) below.0 in
              (subst Q is here.0, subst (λ (z : Tree). Each P z.forks) (sym above.1.1) (each_more P at.0 above.0.forks here.1 below.1))
