-- The machine of a wire, step by step.
use Rattle.std.proofs.Common.{◌≡◌, ℕ, true, false, List, Option, Some, None, cond, sym, ◌∙◌, ap}
use Rattle.std.specs.Prelude.{◌&&◌, option_and_then, slice_get}
use Rattle.rtl_sig.specs.declared.sig.SigBit.{SigBit}
use Rattle.cell_types.specs.declared.pin_name.PinName.TheVariants.{Q}
use Rattle.rtl_ir.specs.declared.cell.Cell.{Cell}
use Rattle.rtl_ir.specs.declared.module.Module.{Module}
use Rattle.rtl_ir.specs.declared.wire.Wire.{Wire}
use Rattle.rtl_ir.specs.Flat.Cell.{cell_kind}
use Rattle.rtl_ir.specs.Types.{Ports}
use Rattle.rtl_ir.specs.Signals.{same_signal}
use Rattle.net_model.specs.Fsm.Find.{Tree, at_pin, if_machine, is_flop, machine_by, machine_of, made_machine, may_be_state, place_where, tree_of, whole_wire}
use Rattle.fsm_find.specs.declared.whole_drivers.Part.TheVariants.{Flop}
use Rattle.fsm_find.specs.WholeDrivers.{first_giving}

module _ (ports : Ports) (m : Module) (at : ℕ) where
  pub no_wire : slice_get m.wires at ≡ None → None ≡ machine_of ports m at
  no_wire is = sym (ap (option_and_then (λ (w : Wire). cond (may_be_state w) (machine_by ports m at (whole_wire at w) (place_where (λ (c : Cell). is_flop (cell_kind c) && same_signal (at_pin c Q) (whole_wire at w)) 0 m.cells)) None)) is)

  module _ (w : Wire) (is : slice_get m.wires at ≡ Some w) where
    of_state : machine_of ports m at ≡ cond (may_be_state w) (machine_by ports m at (whole_wire at w) (first_giving Flop m.cells (whole_wire at w))) None
    of_state = ap (option_and_then (λ (w : Wire). cond (may_be_state w) (machine_by ports m at (whole_wire at w) (place_where (λ (c : Cell). is_flop (cell_kind c) && same_signal (at_pin c Q) (whole_wire at w)) 0 m.cells)) None)) is

    pub no_state : may_be_state w ≡ false → None ≡ machine_of ports m at
    no_state e = sym (of_state ∙ ap (λ t. cond t (machine_by ports m at (whole_wire at w) (first_giving Flop m.cells (whole_wire at w))) None) e)

    pub of_flop : may_be_state w ≡ true → (flop : Option ℕ) → flop ≡ first_giving Flop m.cells (whole_wire at w) → (state : List SigBit) → state ≡ whole_wire at w → machine_by ports m at state flop ≡ machine_of ports m at
    of_flop e flop f state g =
        (λ i. machine_by ports m at (g i) (f i))
        ∙ sym (of_state ∙ ap (λ t. cond t (machine_by ports m at (whole_wire at w) (first_giving Flop m.cells (whole_wire at w))) None) e)

module _ (ports : Ports) (m : Module) (at : ℕ) (state : List SigBit) (flop : ℕ) where
  pub no_cell : slice_get m.cells flop ≡ None → None ≡ machine_by ports m at state (Some flop)
  no_cell is = sym (ap (option_and_then (λ (c : Cell). option_and_then (λ (t : Tree). if_machine ports m state c (made_machine m at state flop c t)) (tree_of m state c))) is)

  module _ (c : Cell) (is : slice_get m.cells flop ≡ Some c) where
    of_cell : machine_by ports m at state (Some flop) ≡ option_and_then (λ (t : Tree). if_machine ports m state c (made_machine m at state flop c t)) (tree_of m state c)
    of_cell = ap (option_and_then (λ (c : Cell). option_and_then (λ (t : Tree). if_machine ports m state c (made_machine m at state flop c t)) (tree_of m state c))) is

    pub no_tree : tree_of m state c ≡ None → None ≡ machine_by ports m at state (Some flop)
    no_tree e = sym (of_cell ∙ ap (option_and_then (λ (t : Tree). if_machine ports m state c (made_machine m at state flop c t))) e)

    pub with_tree : (t : Tree) → tree_of m state c ≡ Some t → if_machine ports m state c (made_machine m at state flop c t) ≡ machine_by ports m at state (Some flop)
    with_tree t e = sym (of_cell ∙ ap (option_and_then (λ (t : Tree). if_machine ports m state c (made_machine m at state flop c t))) e)
