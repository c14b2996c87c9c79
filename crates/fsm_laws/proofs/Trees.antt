-- The cells of a tree: each place is that of a multiplexer, the first one with its output.
use Rattle.std.proofs.Common.{◌≡◌, ℕ, zero, suc, Bool, true, false, cond, List, [], ◌∷◌, ◌++◌, map, Option, Some, None, refl, sym, ap, subst}
use Rattle.std.specs.Prelude.{◌&&◌, option_and_then, slice_get}
use Rattle.std.proofs.lemmas.Bool.{and_parts}
use Rattle.rtl_sig.specs.declared.sig.SigBit.{SigBit}
use Rattle.cell_types.specs.declared.pin_name.PinName.TheVariants.{Y}
use Rattle.rtl_ir.specs.declared.cell.Cell.{Cell}
use Rattle.rtl_ir.specs.declared.module.Module.{Module}
use Rattle.rtl_ir.specs.Flat.Cell.{cell_kind}
use Rattle.rtl_ir.specs.Follow.{follow}
use Rattle.rtl_ir.specs.Signals.{same_signal}
use Rattle.net_model.proofs.Ranges.{each_both, each_more, each_none}
use Rattle.net_model.specs.Fsm.Find.{Tree, above_tree, all_trees, arms_of, at_pin, both_trees, is_fork, is_leaf, place_where, tree_within}
use Rattle.net_model.specs.Within.{Each}
use Rattle.fsm_laws.proofs.Machines.{place_found}

-- a multiplexer stands there, and no one before it has its output
pub record IsForkAt (m : Module) (at : ℕ) : Type 0 where
  pub cell : Cell
  pub there : slice_get m.cells at ≡ Some cell
  pub fork : is_fork (cell_kind cell) ≡ true
  pub signal : List SigBit
  pub same : same_signal (at_pin cell Y) signal ≡ true
  pub first : place_where (λ (c : Cell). is_fork (cell_kind c) && same_signal (at_pin c Y) signal) 0 m.cells ≡ Some at

pub then_some : {A B : Type 0} (f : A → Option B) (o : Option A) (y : B) → option_and_then f o ≡ Some y → (x : A) × ((o ≡ Some x) × (f x ≡ Some y))
then_some f None y e = absurd (cc)
then_some f (Some x) y e = (x, (refl, e))

above_some : (at : ℕ) (o : Option Tree) (t : Tree) → above_tree at o ≡ Some t → (s : Tree) × ((o ≡ Some s) × (t.forks ≡ at ∷ s.forks))
above_some at None t e = absurd (cc)
above_some at (Some s) t e =
    let same : record { forks = at ∷ s.forks; leaves = s.leaves } ≡ t = cc in
    (s, (refl, ap (λ (z : Tree). z.forks) (sym same)))

both_some : (a b : Option Tree) (t : Tree) → both_trees a b ≡ Some t → (x : Tree) × ((y : Tree) × ((a ≡ Some x) × (b ≡ Some y) × (t.forks ≡ x.forks ++ y.forks)))
both_some None b t e = absurd (cc)
both_some (Some x) None t e = absurd (cc)
both_some (Some x) (Some y) t e =
    let same : record { forks = x.forks ++ y.forks; leaves = x.leaves ++ y.leaves } ≡ t = cc in
    (x, (y, (refl, refl, ap (λ (z : Tree). z.forks) (sym same))))

module _ (P : ℕ → Type 0) (f : List SigBit → Option Tree) (each : (arm : List SigBit) (t : Tree) → f arm ≡ Some t → Each P t.forks) where
  arms_forks : (arms : List (List SigBit)) (t : Tree) → all_trees (map f arms) ≡ Some t → Each P t.forks
  arms_forks [] t e =
      let same : record { forks = []; leaves = [] } ≡ t = cc in
      subst (λ (z : Tree). Each P z.forks) same (each_none P)
  arms_forks (arm ∷ arms) t e =
      let k = both_some (f arm) (all_trees (map f arms)) t e in
      subst (Each P) (sym k.1.1.2) (each_both P k.0.forks k.1.0.forks (each arm k.0 k.1.1.0) (arms_forks arms k.1.0 k.1.1.1))

pub tree_forks : (m : Module) (state : List SigBit) (n : ℕ) (signal : List SigBit) (t : Tree) → tree_within m state n signal ≡ Some t → Each (IsForkAt m) t.forks
tree_forks m state zero signal t e = absurd (cc)
tree_forks m state (suc n) signal t e = by (is_leaf state signal) e (λ arm. tree_forks m state n (map (follow m.links) arm))
  where
    arms : ℕ → Cell → Option Tree
    arms at c = above_tree at (all_trees (map (λ arm. tree_within m state n (map (follow m.links) arm)) (arms_of c)))

    by : (u : Bool) → cond u (Some (record { forks = []; leaves = signal ∷ [] })) (option_and_then (λ at. option_and_then (arms at) (slice_get m.cells at)) (place_where (λ (c : Cell). is_fork (cell_kind c) && same_signal (at_pin c Y) signal) 0 m.cells)) ≡ Some t
        → ((arm : List SigBit) (s : Tree) → tree_within m state n (map (follow m.links) arm) ≡ Some s → Each (IsForkAt m) s.forks) → Each (IsForkAt m) t.forks
    by true f later =
        let same : record { forks = []; leaves = signal ∷ [] } ≡ t = cc in
        subst (λ (z : Tree). Each (IsForkAt m) z.forks) same (each_none (IsForkAt m))
    by false f later =
        let test : Cell → Bool = λ (c : Cell). is_fork (cell_kind c) && same_signal (at_pin c Y) signal in
        let at = then_some (λ at. option_and_then (arms at) (slice_get m.cells at)) (place_where test 0 m.cells) t f in
        let cell = then_some (arms at.0) (slice_get m.cells at.0) t at.1.1 in
        let found = place_found test m.cells at.0 at.1.0 in
        let passed = and_parts (is_fork (cell_kind found.0)) (same_signal (at_pin found.0 Y) signal) found.1.1 in
        let above = above_some at.0 (all_trees (map (λ arm. tree_within m state n (map (follow m.links) arm)) (arms_of cell.0))) t cell.1.1 in
        let here : IsForkAt m at.0 = record { cell = found.0; there = found.1.0; fork = passed.0; signal = signal; same = passed.1; first = at.1.0 } in
        subst (Each (IsForkAt m)) (sym above.1.1) (each_more (IsForkAt m) at.0 above.0.forks here (arms_forks (IsForkAt m) (λ arm. tree_within m state n (map (follow m.links) arm)) later (arms_of cell.0) above.0 above.1.0))
