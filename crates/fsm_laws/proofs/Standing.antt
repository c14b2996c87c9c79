-- What stands in the place of a cell where a machine has its code: what is said of it, and the flip-flop.
use Rattle.std.proofs.Common.{◌≡◌, ◌<◌, ◌≤◌, ℕ, ◌+◌, true, false, cond, List, [], ◌∷◌, ◌++◌, length, map, Option, Some, None, ◌⊎◌, inl, inr, refl, sym, ◌∙◌, ap, subst, arith}
use Rattle.std.specs.Prelude.{◌==◌, codes, slice_get}
use Rattle.std.proofs.lemmas.Bool.{and_parts, eqb-true}
use Rattle.std.proofs.lemmas.List.{append-nil}
use Rattle.rtl_bits.specs.declared.bit.Bit.{Bit}
use Rattle.rtl_bits.specs.Numbers.{number_of}
use Rattle.rtl_sig.specs.declared.sig.SigBit.{SigBit}
use Rattle.rtl_sig.specs.declared.sig.WireBit.{WireBit}
use Rattle.cell_types.specs.Given.{value_in}
use Rattle.cell_types.specs.Levels.{level_in}
use Rattle.cell_types.specs.PinName.{pin_text}
use Rattle.cell_types.specs.declared.kind.CellKind.{CellKind}
use Rattle.cell_types.specs.declared.kind.CellKind.TheVariants.{Storage}
use Rattle.cell_types.specs.declared.param_name.ParamName.TheVariants.{ArstPolarity, ArstValue, ClkPolarity}
use Rattle.cell_types.specs.declared.pin_name.PinName.{PinName}
use Rattle.cell_types.specs.declared.pin_name.PinName.TheVariants.{Arst, Clk, D, Q}
use Rattle.cell_types.specs.declared.storage.StorageKind.TheVariants.{Adff, Dff}
use Rattle.rtl_ir.specs.Build.{pin_of, whole}
use Rattle.rtl_ir.specs.Faults.Cells.{is_memory_kind}
use Rattle.rtl_ir.specs.Flat.Cell.{cell_kind}
use Rattle.rtl_ir.specs.Follow.{follow}
use Rattle.rtl_ir.specs.Outputs.{output_pin}
use Rattle.rtl_ir.specs.Parameters.{given_params}
use Rattle.rtl_ir.specs.Signals.{bits_of_wire, wire_bits, same_signal}
use Rattle.rtl_ir.specs.Types.{Ports}
use Rattle.rtl_ir.specs.declared.cell.Cell.{Cell}
use Rattle.rtl_ir.specs.declared.cell.Pin.{Pin}
use Rattle.rtl_ir.specs.declared.machine.Machine.{Machine}
use Rattle.rtl_ir.specs.declared.module.Link.{Link}
use Rattle.rtl_ir.specs.declared.module.Module.{Module}
use Rattle.net_model.proofs.Ranges.{each_more, each_none, signal_in}
use Rattle.net_model.specs.Fsm.Code.{Coding, code_of, coded, coded_flop}
use Rattle.net_model.specs.Fsm.Find.{at_pin, has_place, has_reset, is_flop, reset_value, whole_wire}
use Rattle.net_model.specs.Lists.{In}
use Rattle.net_model.specs.Within.{CellIn, Each, SigIn}
use Rattle.map_laws.proofs.Wholes.{cell_more}
use Rattle.pass_laws.proofs.Alone.{shape_of}
use Rattle.pass_laws.proofs.Forming.{own_cells}
use Rattle.pass_laws.specs.Bits.{cells_bits, links_bits}
use Rattle.pass_laws.specs.Ready.{IsReady}
use Rattle.build_laws.proofs.CellFits.{bits_back, no_constant}
use Rattle.pass_laws.proofs.Finding.{in_place}
use Rattle.pass_laws.proofs.PinWidths.{pin_fits}
use Rattle.fsm_laws.specs.Machines.{IsFoundMachine}
use Rattle.fsm_laws.specs.Recoded.{machine_coding}
use Rattle.fsm_laws.proofs.Fits.{Fits, adff_fit, dff_fit, fit_bits}
use Rattle.fsm_laws.proofs.Measures.{position}
use Rattle.fsm_laws.proofs.Signals.{IsCoding, IsSignal, code_length, coded_is, coding_is}
use Rattle.fsm_laws.proofs.Asked.{IsAsked, asked_of}
use Rattle.fsm_laws.proofs.Linking.{AreGood, no_links}

-- what is driven in the place of a cell: what the cell drove, the code, or the fresh output of the place
pub data Drives (ports : Ports) (first width : ℕ) (forks muxes : List ℕ) (flop at : ℕ) (cell : Cell) (bits : List WireBit) : Type 0 where
  Same : bits ≡ cells_bits ports (cell ∷ []) → Drives ports first width forks muxes flop at cell bits
  Code : (at == flop) ≡ true → bits ≡ bits_of_wire first width → Drives ports first width forks muxes flop at cell bits
  Fresh : has_place forks at ≡ true → bits ≡ bits_of_wire (first + 1 + position muxes at) width → Drives ports first width forks muxes flop at cell bits

-- a cell of the library that is none of a memory
abbrev pub IsFit : Cell → Type 0
IsFit c = (kind : CellKind) × Fits kind c

abbrev pub PinIn : ℕ → Pin → Type 0
PinIn count pin = SigIn count pin.sig

pub three_pins : (count : ℕ) (x y z : Pin) → PinIn count x → PinIn count y → PinIn count z → Each (PinIn count) (x ∷ y ∷ z ∷ [])
three_pins count x y z h k l =
    each_more (PinIn count) x (y ∷ z ∷ []) h (each_more (PinIn count) y (z ∷ []) k (each_more (PinIn count) z [] l (each_none (PinIn count))))

pub two_pins : (count : ℕ) (x y : Pin) → PinIn count x → PinIn count y → Each (PinIn count) (x ∷ y ∷ [])
two_pins count x y h k = each_more (PinIn count) x (y ∷ []) h (each_more (PinIn count) y [] k (each_none (PinIn count)))

pub four_pins : (count : ℕ) (x y z u : Pin) → PinIn count x → PinIn count y → PinIn count z → PinIn count u → Each (PinIn count) (x ∷ y ∷ z ∷ u ∷ [])
four_pins count x y z u h k l j =
    each_more (PinIn count) x (y ∷ z ∷ u ∷ []) h (three_pins count y z u k l j)

module _ (ports : Ports) (m : Module) (wire : ℕ) (machine : Machine) (ready : IsReady ports m) (found : IsFoundMachine ports m wire machine) where
  abbrev pub count : ℕ
  count = length m.wires + 1 + length machine.muxes

  abbrev pub state : List SigBit
  state = whole_wire wire found.wire

  abbrev pub coding : Coding
  coding = machine_coding m machine state

  abbrev n : ℕ
  n = length machine.states

  -- what comes in the place of a cell
  pub record IsReplaced (at : ℕ) (cell : Cell) (here : List Cell) (more : List Link) : Type 0 where
    pub old : IsFit cell
    pub new : Each IsFit here
    pub within : Each (CellIn count) here
    pub good : AreGood count more
    pub drives : Drives ports (length m.wires) n found.tree.forks machine.muxes machine.flop at cell (cells_bits ports here ++ links_bits more)

  -- it, or the cell itself
  abbrev pub StandsAt : ℕ → Cell → List Cell → List Link → Type 0
  StandsAt at cell here links = ((here ≡ cell ∷ []) × (links ≡ [])) ⊎ IsReplaced at cell here links

  pub asked : IsAsked m machine
  asked = asked_of ports m wire machine found

  pub some : 0 < n
  some = omega (arith, asked.two)

  pub narrow : n ≤ 4096
  narrow = omega (arith, asked.few)

  pub codes_are : IsCoding count coding
  codes_are = coding_is m machine state count (omega arith)

  pub in_code : (signal : List SigBit) → IsSignal n count (coded coding signal)
  in_code signal = coded_is count coding codes_are signal

  module _ (at : ℕ) (cell : Cell) (there : slice_get m.cells at ≡ Some cell) where
    pub is_in : In cell m.cells
    is_in = in_place m.cells at cell there

    pub old_in : (name : PinName) → SigIn count (at_pin cell name)
    old_in name = signal_in count cell.pins (pin_text name) (cell_more (length m.wires) count cell (omega arith) (ready.within.cells cell is_in))

    pub old_fits : (kind : CellKind) → cell_kind cell ≡ Some kind → is_memory_kind kind ≡ false → Fits kind cell
    old_fits kind own plain =
        let shape = shape_of ports cell kind own (own_cells ports m ready cell is_in) in
        record { own = own; plain = plain; shape = shape.fit; output = shape.output }

    -- one cell that drives a fresh wire
    pub one_new : (old kind : CellKind) → Fits old cell → (d : Cell) → Fits kind d → CellIn count d → (name : PinName) → output_pin kind ≡ Some name → (w : ℕ) → at_pin d name ≡ whole w n
        → ((bits : List WireBit) → bits ≡ bits_of_wire w n → Drives ports (length m.wires) n found.tree.forks machine.muxes machine.flop at cell bits) → IsReplaced at cell (d ∷ []) []
    one_new old kind was d fits inside name out w is drives = record {
      old = (old, was);
      new = each_more IsFit d [] (kind, fits) (each_none IsFit);
      within = each_more (CellIn count) d [] inside (each_none (CellIn count));
      good = no_links count;
      drives =
          drives (cells_bits ports (d ∷ []) ++ [])
          (append-nil (cells_bits ports (d ∷ [])) ∙ fit_bits ports d kind fits name out ∙ ap wire_bits is ∙ bits_back (bits_of_wire w n));
    }

    -- the flip-flop
    flop_same : (at == machine.flop) ≡ true → found.flop ≡ cell
    flop_same e =
        let place : at ≡ found.place = eqb-true at machine.flop e ∙ ap (λ (z : Machine). z.flop) found.made in
        let both : Some found.flop ≡ Some cell = sym found.flop_there ∙ ap (slice_get m.cells) (sym place) ∙ there in
        cc

    reset_is : found.flop ≡ cell → machine.reset ≡ cond (has_reset (cell_kind cell)) (Some (value_in (given_params cell.params) ArstValue)) None
    reset_is e = ap (λ (z : Machine). z.reset) found.made ∙ ap reset_value e

    pub flop_stands : (at == machine.flop) ≡ true → IsReplaced at cell (coded_flop m coding machine.reset cell ∷ []) []
    flop_stands e =
        let same = flop_same e in
        let kind : is_flop (cell_kind cell) ≡ true = ap (λ (z : Cell). is_flop (cell_kind z)) (sym same) ∙ (and_parts (is_flop (cell_kind found.flop)) (same_signal (at_pin found.flop Q) state) found.flop_is).0 in
        by (cell_kind cell) refl kind (reset_is same)
      where
        d : List SigBit
        d = coded coding (map (follow m.links) (at_pin cell D))

        code : IsSignal n count coding.code
        code = codes_are.code

        from : (bits : List WireBit) → bits ≡ bits_of_wire (length m.wires) n → Drives ports (length m.wires) n found.tree.forks machine.muxes machine.flop at cell bits
        from bits is = Code e is

        by : (o : Option CellKind) → cell_kind cell ≡ o → is_flop o ≡ true → machine.reset ≡ cond (has_reset o) (Some (value_in (given_params cell.params) ArstValue)) None → IsReplaced at cell (coded_flop m coding machine.reset cell ∷ []) []
        by (Some (Storage Dff)) own f reset =
            let was = old_fits (Storage Dff) own refl in
            let clock : length (at_pin cell Clk) ≡ 1 = pin_fits (Storage Dff) cell Clk was.shape refl (inl refl) in
            let data_in = in_code (map (follow m.links) (at_pin cell D)) in
            let level = level_in (given_params cell.params) ClkPolarity in
            let fits = dff_fit cell own n level (at_pin cell Clk) d coding.code clock data_in.wide code.wide some narrow (no_constant (bits_of_wire (length m.wires) n)) in
            subst (λ r. IsReplaced at cell (coded_flop m coding r cell ∷ []) []) (sym reset)
            (one_new (Storage Dff) (Storage Dff) was (coded_flop m coding None cell) fits
            (three_pins count (pin_of (codes "\\CLK") (at_pin cell Clk)) (pin_of (codes "\\D") d) (pin_of (codes "\\Q") coding.code) (old_in Clk) data_in.within code.within)
            Q refl (length m.wires) refl from)
        by (Some (Storage Adff)) own f reset =
            let was = old_fits (Storage Adff) own refl in
            let clock : length (at_pin cell Clk) ≡ 1 = pin_fits (Storage Adff) cell Clk was.shape refl (inl refl) in
            let reset_wide : length (at_pin cell Arst) ≡ 1 = pin_fits (Storage Adff) cell Arst was.shape refl (inr (inl refl)) in
            let data_in = in_code (map (follow m.links) (at_pin cell D)) in
            let value : List Bit = value_in (given_params cell.params) ArstValue in
            let fits = adff_fit cell own n (level_in (given_params cell.params) ClkPolarity) (level_in (given_params cell.params) ArstPolarity) (code_of machine.states (number_of value)) (at_pin cell Clk) (at_pin cell Arst) d coding.code (code_length machine.states (number_of value)) clock reset_wide data_in.wide code.wide some narrow (no_constant (bits_of_wire (length m.wires) n)) in
            subst (λ r. IsReplaced at cell (coded_flop m coding r cell ∷ []) []) (sym reset)
            (one_new (Storage Adff) (Storage Adff) was (coded_flop m coding (Some value) cell) fits
            (four_pins count (pin_of (codes "\\CLK") (at_pin cell Clk)) (pin_of (codes "\\ARST") (at_pin cell Arst)) (pin_of (codes "\\D") d) (pin_of (codes "\\Q") coding.code) (old_in Clk) (old_in Arst) data_in.within code.within)
            Q refl (length m.wires) refl from)
        by o own f reset = absurd (cc)
