-- The module in the code, from its steps.
use Rattle.std.proofs.Common.{◌≡◌, ℕ, List, [], ◌∷◌, length, map, Option, Some, None, refl, sym, ◌∙◌, ap, subst}
use Rattle.std.specs.Prelude.{option_map, slice_get}
use Rattle.std.specs.Option.{option_map_or}
use Rattle.rtl_bits.specs.declared.bit.Bit.{Bit}
use Rattle.rtl_sig.specs.declared.sig.SigBit.{SigBit}
use Rattle.cell_types.specs.declared.pin_name.PinName.TheVariants.{Y}
use Rattle.rtl_ir.specs.declared.cell.Cell.{Cell}
use Rattle.rtl_ir.specs.declared.machine.Machine.{Machine}
use Rattle.rtl_ir.specs.declared.module.Module.{Module}
use Rattle.rtl_ir.specs.declared.wire.Wire.{Wire}
use Rattle.rtl_ir.specs.Build.{Building, building_of, fresh_wire}
use Rattle.net_index.specs.Builder.{IsInLimits, PassesLimit}
use Rattle.net_model.specs.Fsm.Code.{Output as Pair, code_init, coded_cells, fresh_outputs, recoded, recoded_of}
use Rattle.net_model.specs.Fsm.Find.{at_pin, whole_wire}
use Rattle.fsm_code.specs.Limits.{recoding, widened}
use Rattle.fsm_code.specs.Links.{with_cells}
use Rattle.fsm_code.specs.Outputs.{fresh_by}
use Rattle.fsm_code.proofs.Freshening.{code_over, module_over, outputs_by}

-- fresh wires leave the cells
cells_stay : (width : ℕ) (signals : List (List SigBit)) (b : Building) → (fresh_by width signals b).1.body.cells ≡ b.body.cells
cells_stay width [] b = refl
cells_stay width (s ∷ signals) b = cells_stay width signals (fresh_wire width [] b).1

module _ (m : Module) (machine : Machine) (signals : List (List SigBit)) (named : map (λ at. option_map (λ (c : Cell). at_pin c Y) (slice_get m.cells at)) machine.muxes ≡ map Some signals) where
  abbrev start : List SigBit × Building
  start = fresh_wire (length machine.states) (code_init machine.states machine.start) (building_of m)

  by_signals : (b : Building) → fresh_outputs (length machine.states) m.cells machine.muxes b ≡ fresh_by (length machine.states) signals b
  by_signals b = outputs_by (length machine.states) m.cells machine.muxes signals b named

  widens : widened m machine ≡ (fresh_by (length machine.states) signals start.1).1
  widens = ap (λ (r : List Pair × Building). r.1) (by_signals start.1)

  module _ (states : List (List Bit)) (are : states ≡ machine.states) (b : Building) (from : b ≡ building_of m) where
    pub over_code : PassesLimit (fresh_wire (length states) (code_init states machine.start) b).1 → PassesLimit (widened m machine)
    over_code over =
        subst PassesLimit (sym widens)
        (code_over (length machine.states) (code_init machine.states machine.start) signals (building_of m)
        (subst PassesLimit (λ i. (fresh_wire (length (are i)) (code_init (are i) machine.start) (from i)).1) over))

    module _ (code : List SigBit) (b' : Building) (made : (code, b') ≡ fresh_wire (length states) (code_init states machine.start) b) where
      first : (code, b') ≡ start
      first = made ∙ (λ i. fresh_wire (length (are i)) (code_init (are i) machine.start) (from i))

      pub over_outputs : PassesLimit (fresh_by (length states) signals b').1 → PassesLimit (widened m machine)
      over_outputs over = subst PassesLimit ((λ i. (fresh_by (length (are i)) signals (first i).1).1) ∙ sym widens) over

      module _ (outputs : List Pair) (b'' : Building) (given : (outputs, b'') ≡ fresh_by (length states) signals b') where
        all : (outputs, b'') ≡ fresh_by (length machine.states) signals start.1
        all = given ∙ (λ i. fresh_by (length (are i)) signals (first i).1)

        pub within_all : IsInLimits b'' → IsInLimits (widened m machine)
        within_all fits = subst IsInLimits (ap (λ (r : List Pair × Building). r.1) all ∙ sym widens) fits

        pub same_cells : b''.body.cells ≡ m.cells
        same_cells = ap (λ (r : List Pair × Building). r.1.body.cells) all ∙ cells_stay (length machine.states) signals start.1

        pub recoded_is : (state : List SigBit) (after : Module) → after ≡ with_cells (coded_cells m machine (record { states = states; state = state; code = code; outputs = outputs }) 0 m.cells (record { body = b''.body; next = b''.next })) → after ≡ recoded m machine state
        recoded_is state after is =
            is
            ∙ (λ i. with_cells (coded_cells m machine (record { states = are i; state = state; code = (first i).0; outputs = (all i).0 }) 0 m.cells (all i).1))
            ∙ (λ i. with_cells (coded_cells m machine (record { states = machine.states; state = state; code = start.0; outputs = (sym (by_signals start.1) i).0 }) 0 m.cells (sym (by_signals start.1) i).1))

-- past a limit already before
pub over_before : (m : Module) (machine : Machine) → PassesLimit (building_of m) → PassesLimit (recoding m machine)
over_before m machine over = by (slice_get m.wires machine.wire)
  where
    by : (o : Option Wire) → PassesLimit (option_map_or (λ (w : Wire). widened m machine) o (building_of m))
    by None = over
    by (Some w) = module_over (length machine.states) (code_init machine.states machine.start) m.cells machine.muxes (building_of m) over

-- the state wire is there
pub recoded_there : (m : Module) (machine : Machine) (width : ℕ) (state : List SigBit) (after : Module) → Some width ≡ option_map (λ (w : Wire). w.width) (slice_get m.wires machine.wire)
    → ((w : Wire) → w.width ≡ width → state ≡ whole_wire machine.wire w) → after ≡ recoded m machine state → after ≡ recoded_of m machine
recoded_there m machine width state after there is made = by (slice_get m.wires machine.wire) there
  where
    by : (o : Option Wire) → Some width ≡ option_map (λ (w : Wire). w.width) o → after ≡ option_map_or (λ (w : Wire). recoded m machine (whole_wire machine.wire w)) o m
    by None e = absurd (cc)
    by (Some w) e = let same : w.width ≡ width = cc in made ∙ ap (recoded m machine) (is w same)
