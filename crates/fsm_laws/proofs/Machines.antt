-- A machine that is found has its wire, its flip-flop and its tree.
use Rattle.std.proofs.Common.{◌≡◌, ℕ, suc, ◌+◌, Bool, true, false, cond, List, [], ◌∷◌, Option, Some, None, refl, sym, ◌∙◌, ap, subst, arith}
use Rattle.std.specs.Prelude.{◌&&◌, option_and_then, slice_get}
use Rattle.rtl_sig.specs.declared.sig.SigBit.{SigBit}
use Rattle.cell_types.specs.declared.pin_name.PinName.TheVariants.{Q}
use Rattle.rtl_ir.specs.declared.cell.Cell.{Cell}
use Rattle.rtl_ir.specs.declared.machine.Machine.{Machine}
use Rattle.rtl_ir.specs.declared.module.Module.{Module}
use Rattle.rtl_ir.specs.declared.wire.Wire.{Wire}
use Rattle.rtl_ir.specs.Flat.Cell.{cell_kind}
use Rattle.rtl_ir.specs.Types.{Ports}
use Rattle.rtl_ir.specs.Signals.{same_signal}
use Rattle.net_model.specs.Fsm.Find.{Tree, at_pin, if_machine, is_flop, is_machine, machine_by, machine_of, made_machine, may_be_state, place_where, tree_of, whole_wire}
use Rattle.fsm_laws.specs.Machines.{IsFoundMachine}

then_some : {A B : Type 0} (f : A → Option B) (o : Option A) (y : B) → option_and_then f o ≡ Some y → (x : A) × ((o ≡ Some x) × (f x ≡ Some y))
then_some f None y e = absurd (cc)
then_some f (Some x) y e = (x, (refl, e))

cond_some : {A : Type 0} (t : Bool) (o : Option A) (y : A) → cond t o None ≡ Some y → (t ≡ true) × (o ≡ Some y)
cond_some true o y e = (refl, e)
cond_some false o y e = absurd (cc)

-- the first cell that passes a test passes it
place_passes : (test : Cell → Bool) (from : ℕ) (cells : List Cell) (k : ℕ) → place_where test from cells ≡ Some k → (j : ℕ) × ((c : Cell) × ((k ≡ from + j) × (slice_get cells j ≡ Some c) × (test c ≡ true)))
place_passes test from [] k e = absurd (cc)
place_passes test from (c ∷ cells) k e = by (place_passes test (from + 1) cells k) (test c) refl e
  where
    by : (place_where test (from + 1) cells ≡ Some k → (j : ℕ) × ((d : Cell) × ((k ≡ (from + 1) + j) × (slice_get cells j ≡ Some d) × (test d ≡ true)))) → (t : Bool) → test c ≡ t → cond t (Some from) (place_where test (from + 1) cells) ≡ Some k → (j : ℕ) × ((d : Cell) × ((k ≡ from + j) × (slice_get (c ∷ cells) j ≡ Some d) × (test d ≡ true)))
    by later true f g =
        let same : from ≡ k = cc in
        (0, (c, (omega (arith, same), refl, f)))
    by later false f g =
        let found = later g in
        let place : k ≡ from + suc found.0 = omega (arith, found.1.1.0) in
        (suc found.0, (found.1.0, (place, found.1.1.1, found.1.1.2)))

pub place_found : (test : Cell → Bool) (cells : List Cell) (k : ℕ) → place_where test 0 cells ≡ Some k → (c : Cell) × ((slice_get cells k ≡ Some c) × (test c ≡ true))
place_found test cells k e =
    let found = place_passes test 0 cells k e in
    let place : k ≡ found.0 = omega (arith, found.1.1.0) in
    (found.1.0, (ap (slice_get cells) place ∙ found.1.1.1, found.1.1.2))

pub found_machine : (ports : Ports) (m : Module) (at : ℕ) (machine : Machine) → machine_of ports m at ≡ Some machine → IsFoundMachine ports m at machine
found_machine ports m at machine e =
    let wire = then_some (λ (w : Wire). cond (may_be_state w) (machine_by ports m at (whole_wire at w) (place_where (λ (c : Cell). is_flop (cell_kind c) && same_signal (at_pin c Q) (whole_wire at w)) 0 m.cells)) None) (slice_get m.wires at) machine e in
    let may = cond_some (may_be_state wire.0) (machine_by ports m at (whole_wire at wire.0) (place_where (λ (c : Cell). is_flop (cell_kind c) && same_signal (at_pin c Q) (whole_wire at wire.0)) 0 m.cells)) machine wire.1.1 in
    by wire.0 wire.1.0 may.0 (place_where (λ (c : Cell). is_flop (cell_kind c) && same_signal (at_pin c Q) (whole_wire at wire.0)) 0 m.cells) refl may.1
  where
    by : (w : Wire) → slice_get m.wires at ≡ Some w → may_be_state w ≡ true → (o : Option ℕ) → place_where (λ (c : Cell). is_flop (cell_kind c) && same_signal (at_pin c Q) (whole_wire at w)) 0 m.cells ≡ o → machine_by ports m at (whole_wire at w) o ≡ Some machine → IsFoundMachine ports m at machine
    by w there may None f g = absurd (cc)
    by w there may (Some place) f g =
        let state : List SigBit = whole_wire at w in
        let cell = then_some (λ (c : Cell). option_and_then (λ (t : Tree). if_machine ports m state c (made_machine m at state place c t)) (tree_of m state c)) (slice_get m.cells place) machine g in
        let tree = then_some (λ (t : Tree). if_machine ports m state cell.0 (made_machine m at state place cell.0 t)) (tree_of m state cell.0) machine cell.1.1 in
        let passed = cond_some (is_machine ports m state cell.0 (made_machine m at state place cell.0 tree.0)) (Some (made_machine m at state place cell.0 tree.0)) machine tree.1.1 in
        let first = place_found (λ (c : Cell). is_flop (cell_kind c) && same_signal (at_pin c Q) state) m.cells place f in
        let one : Some first.0 ≡ Some cell.0 = sym first.1.0 ∙ cell.1.0 in
        let same : first.0 ≡ cell.0 = cc in
        let made : machine ≡ made_machine m at state place cell.0 tree.0 = some_same (made_machine m at state place cell.0 tree.0) machine passed.1 in
        record {
          wire = w;
          there = there;
          may = may;
          place = place;
          flop = cell.0;
          flop_there = cell.1.0;
          flop_is = subst (λ (c : Cell). (is_flop (cell_kind c) && same_signal (at_pin c Q) state) ≡ true) same first.1.1;
          tree = tree.0;
          tree_is = tree.1.0;
          made = made;
          asked = subst (λ z. is_machine ports m state cell.0 z ≡ true) (sym made) passed.0;
        }
      where
        some_same : (a b : Machine) → Some a ≡ Some b → b ≡ a
        some_same a b h = let q : a ≡ b = cc in sym q
