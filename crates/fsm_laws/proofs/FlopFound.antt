-- The flip-flop of a machine that is found has what is asked of one that gets its code.
use Rattle.std.proofs.Common.{◌≡◌, ◌<◌, ℕ, ◌+◌, true, false, cond, List, [], ◌∷◌, length, map, Option, Some, None, ◌⊎◌, inl, inr, refl, sym, ◌∙◌, ap, subst, arith}
use Rattle.std.specs.Prelude.{◌==◌, ◌&&◌, ◌||◌, slice_get}
use Rattle.std.specs.List.{list_all}
use Rattle.std.proofs.lemmas.Bool.{and_parts, eq-eqb}
use Rattle.rtl_bits.proofs.Lists.{all_known_true}
use Rattle.rtl_bits.specs.Knowledge.{all_known}
use Rattle.rtl_bits.specs.Numbers.{number_of}
use Rattle.rtl_bits.specs.declared.bit.Bit.{Bit}
use Rattle.rtl_sig.specs.declared.sig.SigBit.{SigBit}
use Rattle.rtl_sig.specs.declared.sig.SigBit.TheVariants.{Wire as OnWire}
use Rattle.cell_types.specs.Given.{value_in}
use Rattle.cell_types.specs.PinName.{pin_text}
use Rattle.cell_types.specs.declared.kind.CellKind.{CellKind}
use Rattle.cell_types.specs.declared.kind.CellKind.TheVariants.{Storage}
use Rattle.cell_types.specs.declared.param_name.ParamName.TheVariants.{ArstValue}
use Rattle.cell_types.specs.declared.pin_name.PinName.{PinName}
use Rattle.cell_types.specs.declared.pin_name.PinName.TheVariants.{A, Arst, B, Clk, D, Q, Y}
use Rattle.cell_types.specs.declared.storage.StorageKind.{StorageKind}
use Rattle.cell_types.specs.declared.storage.StorageKind.TheVariants.{Adff, Dff}
use Rattle.rtl_ir.specs.Build.{pin_of}
use Rattle.rtl_ir.specs.Flat.Cell as flat
use Rattle.rtl_ir.specs.Flat.Cell.{cell_kind}
use Rattle.rtl_ir.specs.Follow.{follow}
use Rattle.rtl_ir.specs.Outputs.{drives_pin}
use Rattle.rtl_ir.specs.Parameters.{given_params}
use Rattle.rtl_ir.specs.Types.{Library, Ports, cell_type}
use Rattle.rtl_ir.specs.declared.cell.Cell.{Cell}
use Rattle.rtl_ir.specs.declared.machine.Machine.{Machine}
use Rattle.rtl_ir.specs.declared.module.Module.{Module}
use Rattle.net_model.proofs.Ranges.{signal_in}
use Rattle.net_model.specs.Fsm.Code.{coded_flop, coded_fork, is_equal}
use Rattle.net_model.specs.Fsm.Find.{at_pin, compares, compares_with, has_place, has_reset, is_compare, is_flop, may_read, option_state, reset_value, start_bits}
use Rattle.net_model.specs.Lists.{In}
use Rattle.net_model.specs.Refine.{IsWellDriven}
use Rattle.net_model.specs.Within.{Each}
use Rattle.pass_laws.proofs.Faultless.{type_is}
use Rattle.pass_laws.proofs.Outputs.{drives_own}
use Rattle.pass_laws.specs.Ready.{IsReady}
use Rattle.pass_laws.proofs.Finding.{in_place}
use Rattle.fsm_laws.proofs.Made.{made_among}
use Rattle.fsm_laws.proofs.StateOrder.{HasNumber}
use Rattle.fsm_laws.proofs.StatesFound.{reset_state}
use Rattle.fsm_laws.specs.Carried.{carrier_of}
use Rattle.fsm_laws.specs.Machines.{IsFoundMachine}
use Rattle.fsm_laws.specs.Recoded.{asked_bit, cell_made, compare_cells}
use Rattle.fsm_laws.specs.Recodes.{HasReset, IsFree, IsOf, IsOutput, IsPlain}
use Rattle.fsm_laws.proofs.ArmsFound.{flop_kind, flop_output, flop_same, state_carries, state_stays}
use Rattle.fsm_laws.proofs.CarriersFound.{whole_get_bit}
use Rattle.fsm_laws.proofs.ForkFound.{closed}
use Rattle.fsm_laws.proofs.Free.{named_free, own_signal}
use Rattle.fsm_laws.proofs.Setting.{IsFlopPart, cells, coding, more, outputs, start, state}
use Rattle.fsm_laws.proofs.StartFound.{starts}
use Rattle.fsm_laws.proofs.StoodFound.{coded_by, tree_stood}
use Rattle.fsm_laws.proofs.Widths.{leaves_wide, reset_known, reset_wide, start_wide}

module _ (ports : Ports) (m : Module) (at : ℕ) (machine : Machine) (found : IsFoundMachine ports m at machine) (ready : IsReady ports m) (over : flat.Ports) (driven : IsWellDriven over m) where
  abbrev n : ℕ
  n = length machine.states

  abbrev held : List SigBit
  held = state ports m at machine found

  abbrev flop : Cell
  flop = found.flop

  abbrev made_cells : List Cell
  made_cells = cells ports m at machine found

  abbrev data_in : List SigBit
  data_in = coded_by ports m at machine found ready over driven (map (follow m.links) (at_pin flop D))

  at_place : machine.flop ≡ found.place
  at_place = ap (λ (z : Machine). z.flop) found.made

  there : slice_get m.cells machine.flop ≡ Some flop
  there = ap (slice_get m.cells) at_place ∙ found.flop_there

  own : (name : PinName) → Each (IsOf m.wires) (at_pin flop name)
  own name =
      own_signal m.wires (at_pin flop name) (signal_in (length m.wires) flop.pins (pin_text name) (ready.within.cells flop (in_place m.cells machine.flop flop there)))

  -- it stands among the cells that are made
  flop_made : In (coded_flop m (coding ports m at machine found) machine.reset flop) made_cells
  flop_made =
      made_among m machine (coding ports m at machine found) 0 machine.flop m.cells flop there d (subst (λ z. In d (cell_made m machine (coding ports m at machine found) z flop)) first (subst (In d) (sym here) (inl refl)))
    where
      d : Cell
      d = coded_flop m (coding ports m at machine found) machine.reset flop

      first : machine.flop ≡ 0 + machine.flop
      first = omega arith

      here : cell_made m machine (coding ports m at machine found) machine.flop flop ≡ d ∷ []
      here =
          ap (λ t. cond t (d ∷ []) (cond (has_place machine.muxes machine.flop) (coded_fork m (coding ports m at machine found) flop ∷ []) (cond (has_place machine.compares machine.flop) (compare_cells flop (is_equal (cell_kind flop)) (asked_bit m (coding ports m at machine found) flop) (at_pin flop Y)) (flop ∷ [])))) (eq-eqb machine.flop machine.flop refl)

  -- its pins beside D are free
  free : (kind : StorageKind) → cell_kind flop ≡ Some (Storage kind) → (name : PinName) → drives_pin (cell_type ports flop.kind_name) (pin_text name) ≡ false → (may_read machine.muxes machine.flop machine.flop (pin_of (pin_text name) []) ≡ false) → Each (IsFree m.links m.wires (outputs ports m at machine found)) (at_pin flop name)
  free kind is name out may =
      named_free ports m at machine found ready machine.flop flop there no (pin_text name) out may
    where
      no : compares m held flop ≡ false
      no = ap (λ o. is_compare o && (compares_with m held flop (at_pin flop A) (at_pin flop B) || compares_with m held flop (at_pin flop B) (at_pin flop A))) is

  is_output : IsOutput found.wire.width m.links m.wires (outputs ports m at machine found) (at_pin flop Q) (coding ports m at machine found).code
  is_output j q bit =
      let held_bit : slice_get held j ≡ Some (OnWire q) = ap (λ s. slice_get s j) (sym (flop_output ports m at machine found ready)) ∙ bit in
      let lt : j < found.wire.width = (whole_get_bit at found.wire.width j (OnWire q) held_bit).0 in (
        lt,
        (
          own Q (OnWire q) (in_place (at_pin flop Q) j (OnWire q) bit),
          ap (carrier_of (outputs ports m at machine found)) (state_stays ports m at machine found ready over driven j q held_bit) ∙ state_carries ports m at machine found ready j lt (OnWire q) held_bit,
        ),
      )

  -- the reset value
  module _ (is : cell_kind flop ≡ Some (Storage Adff)) where
    abbrev value : List Bit
    value = value_in (given_params flop.params) ArstValue

    has_value : reset_value flop ≡ Some value
    has_value = ap (λ o. cond (has_reset o) (Some value) None) is

    value_known : all_known value ≡ true
    value_known =
        (and_parts (all_known value) true (ap (λ o. list_all all_known (option_state o)) (sym has_value) ∙ reset_known ports m at machine found ready)).0

    value_number : HasNumber machine.states (number_of value)
    value_number =
        subst (λ z. HasNumber z (number_of value)) (sym (ap (λ (z : Machine). z.states) found.made))
        (reset_state found.wire.width found.tree.leaves (reset_value flop) (start_bits m held) (leaves_wide ports m at machine found ready) (reset_known ports m at machine found ready) (reset_wide ports m at machine found ready) (start_wide ports m at machine found ready) value has_value)

    with_reset : In (coded_flop m (coding ports m at machine found) (Some value) flop) made_cells
    with_reset =
        subst (λ r. In (coded_flop m (coding ports m at machine found) r flop) made_cells) (ap (λ (z : Machine). z.reset) found.made ∙ has_value) flop_made

  abbrev KindOf : List SigBit → Type 0
  KindOf d =
      IsPlain found.wire.width machine.states m.links m.wires (outputs ports m at machine found) (length m.wires) made_cells (more ports m at machine found) (start ports m at machine found) flop d
      ⊎ HasReset found.wire.width machine.states m.links m.wires (outputs ports m at machine found) (length m.wires) made_cells (more ports m at machine found) (start ports m at machine found) flop d

  kind_of : KindOf data_in
  kind_of = by (cell_kind flop) refl (flop_kind ports m at machine found ready)
    where
      undriven : (kind : StorageKind) → cell_kind flop ≡ Some (Storage kind) → (name : PinName) → drives_pin (Library (Storage kind)) (pin_text name) ≡ false → drives_pin (cell_type ports flop.kind_name) (pin_text name) ≡ false
      undriven kind is name e = ap (λ t. drives_pin t (pin_text name)) (type_is ports flop (Storage kind) is) ∙ e

      by : (o : Option CellKind) → cell_kind flop ≡ o → is_flop o ≡ true → KindOf data_in
      by (Some (Storage Dff)) is f =
          let none : machine.reset ≡ None = ap (λ (z : Machine). z.reset) found.made ∙ ap (λ o. cond (has_reset o) (Some (value_in (given_params flop.params) ArstValue)) None) is in
          inl (record { kind = is; made = subst (λ r. In (coded_flop m (coding ports m at machine found) r flop) made_cells) none flop_made })
      by (Some (Storage Adff)) is f =
          let number = value_number is in
          inr (record {
            kind = is;
            free = free Adff is Arst (undriven Adff is Arst (drives_own (Storage Adff) Q refl (pin_text Arst))) (closed (has_place machine.muxes machine.flop) (machine.flop == machine.flop));
            known = all_known_true (value is) (value_known is);
            wide = reset_wide ports m at machine found ready (value is) (has_value is);
            place = number.place;
            state = number.state;
            there = number.there;
            number = number.number;
            made = with_reset is;
          })
      by o is f = absurd (cc)

  clock_free : Each (IsFree m.links m.wires (outputs ports m at machine found)) (at_pin flop Clk)
  clock_free = by (cell_kind flop) refl (flop_kind ports m at machine found ready)
    where
      may : may_read machine.muxes machine.flop machine.flop (pin_of (pin_text Clk) []) ≡ false
      may = closed (has_place machine.muxes machine.flop) (machine.flop == machine.flop)

      undriven : (kind : StorageKind) → cell_kind flop ≡ Some (Storage kind) → drives_pin (Library (Storage kind)) (pin_text Clk) ≡ false → drives_pin (cell_type ports flop.kind_name) (pin_text Clk) ≡ false
      undriven kind is e = ap (λ t. drives_pin t (pin_text Clk)) (type_is ports flop (Storage kind) is) ∙ e

      by : (o : Option CellKind) → cell_kind flop ≡ o → is_flop o ≡ true → Each (IsFree m.links m.wires (outputs ports m at machine found)) (at_pin flop Clk)
      by (Some (Storage Dff)) is f = free Dff is Clk (undriven Dff is (drives_own (Storage Dff) Q refl (pin_text Clk))) may
      by (Some (Storage Adff)) is f = free Adff is Clk (undriven Adff is (drives_own (Storage Adff) Q refl (pin_text Clk))) may
      by o is f = absurd (cc)

  here : IsFlopPart ports m at machine found flop
  here =
      let stood = (tree_stood ports m at machine found ready over driven).0 in
      let begun = starts ports m at machine found ready in
      record {
        d = data_in;
        kind = kind_of;
        own_d = own D;
        free = clock_free;
        stands = stood.stands (at_pin flop D) refl;
        tree = stood.tree;
        output = is_output;
        begins = λ k q e i r f. begun.0 k q (ap (λ s. slice_get s k) (sym (flop_output ports m at machine found ready)) ∙ e) i r f;
        hot = begun.1;
      }

  pub flop_part : (c : Cell) → slice_get m.cells machine.flop ≡ Some c → IsFlopPart ports m at machine found c
  flop_part c e =
      subst (IsFlopPart ports m at machine found) (flop_same ports m at machine found ready machine.flop c e (eq-eqb machine.flop machine.flop refl)) here
