-- `fsm` does not look at the name of a module.
use Rattle.std.proofs.Common.{◌≡◌, ℕ, zero, suc, ◌+◌, Bool, true, false, cond, List, [], ◌∷◌, ◌++◌, length, Option, Some, None, refl, sym, ◌∙◌, ap}
use Rattle.std.specs.Prelude.{◌&&◌, option_map, slice_get}
use Rattle.std.specs.Option.{option_map_or}
use Rattle.cell_types.specs.declared.pin_name.PinName.TheVariants.{Y}
use Rattle.rtl_ir.specs.Build.{Building, building_of, fresh_wire}
use Rattle.rtl_ir.specs.Types.{Ports}
use Rattle.rtl_ir.specs.declared.cell.Cell.{Cell}
use Rattle.rtl_ir.specs.declared.machine.Machine.{Machine}
use Rattle.rtl_ir.specs.declared.module.Module.{Module}
use Rattle.rtl_ir.specs.declared.wire.Wire.{Wire}
use Rattle.net_model.specs.Fsm.Code.{Output, code_init, fresh_outputs, fsm_of, recoded, recoded_of, wires_recoded}
use Rattle.net_model.specs.Fsm.Find.{at_pin, machine_of, whole_wire}
use Rattle.fsm_code.specs.Limits.{widened}
use Rattle.fsm_laws.proofs.Recoding.{recoded_is}
use Rattle.fsm_steps.specs.Within.{are_within, fsm_within, is_within, machine_within}

module _ (id : List ℕ) where
  -- a module under the name, and what is built of one
  abbrev pub under : Module → Module
  under m = record m { id = id }

  abbrev renamed : Building → Building
  renamed b = record { body = under b.body; next = b.next }

  -- a result beside what is built
  abbrev beside : {A : Type 0} → A × Building → A × Building
  beside r = (r.0, renamed r.1)

  outputs_renamed : (width : ℕ) (cells : List Cell) (places : List ℕ) (b : Building) → fresh_outputs width cells places (renamed b) ≡ beside (fresh_outputs width cells places b)
  outputs_renamed width cells [] b = refl
  outputs_renamed width cells (at ∷ places) b =
      let wire = fresh_wire width [] b in
      ap (λ (rest : List Output × Building). (option_map_or (λ (c : Cell). record { before = at_pin c Y; after = wire.0 } ∷ []) (slice_get cells at) [] ++ rest.0, rest.1)) (outputs_renamed width cells places wire.1)

  widened_renamed : (m : Module) (machine : Machine) → widened (under m) machine ≡ renamed (widened m machine)
  widened_renamed m machine =
      ap (λ (r : List Output × Building). r.1)
      (outputs_renamed (length machine.states) m.cells machine.muxes (fresh_wire (length machine.states) (code_init machine.states machine.start) (building_of m)).1)

  limits_kept : (b : Building) → is_within (renamed b) ≡ is_within b
  unfolding is_within
  limits_kept b = refl

  machine_kept : (m : Module) (o : Option Machine) → machine_within (under m) o ≡ machine_within m o
  machine_kept m None = refl
  machine_kept m (Some machine) = ap is_within (widened_renamed m machine) ∙ limits_kept (widened m machine)

  recoded_renamed : (m : Module) (machine : Machine) → recoded_of (under m) machine ≡ under (recoded_of m machine)
  recoded_renamed m machine = by (slice_get m.wires machine.wire)
    where
      by : (o : Option Wire) → option_map_or (λ (w : Wire). recoded (under m) machine (whole_wire machine.wire w)) o (under m) ≡ under (option_map_or (λ (w : Wire). recoded m machine (whole_wire machine.wire w)) o m)
      by None = refl
      by (Some w) =
          recoded_is (under m) machine (whole_wire machine.wire w) ∙ ap under (sym (recoded_is m machine (whole_wire machine.wire w)))

  next_renamed : (m : Module) (o : Option Machine) → option_map_or (recoded_of (under m)) o (under m) ≡ under (option_map_or (recoded_of m) o m)
  next_renamed m None = refl
  next_renamed m (Some machine) = recoded_renamed m machine

  module _ (ports : Ports) where
    wires_renamed : (at n : ℕ) (m : Module) → wires_recoded ports at n (under m) ≡ under (wires_recoded ports at n m)
    wires_renamed at zero m = refl
    wires_renamed at (suc n) m =
        ap (wires_recoded ports (at + 1) n) (next_renamed m (machine_of ports m at))
        ∙ wires_renamed (at + 1) n (option_map_or (recoded_of m) (machine_of ports m at) m)

    all_kept : (at n : ℕ) (m : Module) → are_within ports at n (under m) ≡ are_within ports at n m
    all_kept at zero m = refl
    all_kept at (suc n) m =
        λ i. machine_kept m (machine_of ports m at) i && (ap (are_within ports (at + 1) n) (next_renamed m (machine_of ports m at)) ∙ all_kept (at + 1) n (option_map_or (recoded_of m) (machine_of ports m at) m)) i

    pub fsm_renamed : (m : Module) → fsm_within ports (under m) ≡ option_map under (fsm_within ports m)
    fsm_renamed m =
        (λ i. cond (all_kept 0 (length m.wires) m i) (Some (wires_renamed 0 (length m.wires) m i)) None) ∙ by (are_within ports 0 (length m.wires) m)
      where
        by : (t : Bool) → cond t (Some (under (fsm_of ports m))) None ≡ option_map under (cond t (Some (fsm_of ports m)) None)
        by true = refl
        by false = refl
