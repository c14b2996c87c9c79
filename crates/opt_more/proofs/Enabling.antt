-- A register that is always enabled loses its enable: that is a pass.
use Rattle.std.proofs.Common.{◌≡◌, ℕ, ◌<◌, ◌≤◌, Bool, true, false, List, [], ◌∷◌, ◌++◌, length, Some, None, ◌⊎◌, inl, inr, refl, sym, ◌∙◌, ap, subst, arith}
use Rattle.std.specs.Prelude.{◌||◌, ◌==◌, if◌then◌else◌, nat_lt, slice_index_or}
use Rattle.std.proofs.lemmas.Bool.{and_parts, eq-eqb, lt-ltb, ltb-false, ltb-true}
use Rattle.cell_gate.specs.Control.{active_of, was_of}
use Rattle.cell_gate.specs.Storage.{acting_of, next_of}
use Rattle.cell_gate.specs.Store.{reset_at, storage_kind}
use Rattle.cell_gate.specs.declared.pins.Pins.{Pins}
use Rattle.cell_types.specs.Fault.{fault_of}
use Rattle.cell_types.specs.Given.{number_in, value_in}
use Rattle.cell_types.specs.ParamName.{param_text}
use Rattle.cell_types.specs.PinName.{pin_text}
use Rattle.cell_types.specs.declared.kind.CellKind.{CellKind}
use Rattle.cell_types.specs.declared.kind.CellKind.TheVariants.{Storage, StorageGate}
use Rattle.cell_types.specs.declared.level.Level.{Level}
use Rattle.cell_types.specs.declared.level.Level.TheVariants.{Low, High}
use Rattle.cell_types.specs.declared.levels.Levels.{Levels}
use Rattle.cell_types.specs.declared.param_name.ParamName.TheVariants.{Width, ClkPolarity}
use Rattle.cell_types.specs.declared.pin_name.PinName.{PinName}
use Rattle.cell_types.specs.declared.pin_name.PinName.TheVariants.{C, Clk, D, E, En, Q}
use Rattle.cell_types.specs.declared.shape.Shape.{Shape}
use Rattle.cell_types.specs.declared.storage.StorageKind.TheVariants.{Dff, Dffe}
use Rattle.cell_types.specs.declared.storage_gate.StorageGate.TheVariants as gate
use Rattle.rtl_bits.proofs.Orders.{Below_refl}
use Rattle.rtl_bits.specs.Knowledge.{Below, all_known}
use Rattle.rtl_bits.specs.Numbers.{number_of}
use Rattle.rtl_bits.specs.declared.bit.Bit.{Bit}
use Rattle.rtl_bits.specs.declared.bit.Bit.TheVariants.{S1, X}
use Rattle.rtl_sig.specs.declared.sig.SigBit.{SigBit}
use Rattle.rtl_sig.specs.declared.sig.SigBit.TheVariants.{Fixed, Wire as OnWire}
use Rattle.rtl_sig.specs.declared.sig.WireBit.{WireBit}
use Rattle.rtl_ir.specs.Constants.{low_bits}
use Rattle.rtl_ir.specs.Faults.Cells.{misfit}
use Rattle.rtl_ir.specs.Flat.Cell.{cell_kind, cell_shape, gate_store, word_store}
use Rattle.rtl_ir.specs.Flat.Place.{Path, Place}
use Rattle.rtl_ir.specs.Flat.Point.{bit_place}
use Rattle.rtl_ir.specs.Flat.Start.{start_of}
use Rattle.rtl_ir.specs.Parameters.{given_params, signal_at}
use Rattle.rtl_ir.specs.Signals.{has_constant}
use Rattle.rtl_ir.specs.Types as types
use Rattle.rtl_ir.specs.declared.cell.Cell.{Cell}
use Rattle.rtl_ir.specs.declared.cell.Pin.{Pin}
use Rattle.rtl_ir.specs.declared.module.Module.{Module}
use Rattle.rtl_ir.specs.declared.ports.PortTable.{PortTable}
use Rattle.rtl_ir.specs.declared.wire.Wire.{Wire}
use Rattle.net_model.specs.Lists.{In}
use Rattle.net_model.specs.declared.order.Order.TheVariants.{Together}
use Rattle.net_model.specs.Order.{stored_in}
use Rattle.net_model.specs.Run.{Time, Start, Step}
use Rattle.net_model.specs.Valuation.{Valuation, read}
use Rattle.net_model.specs.Value.{pins_of, value_of}
use Rattle.net_model.specs.Within.{SigIn}
use Rattle.net_model.proofs.Released.{NoControl, no_control}
use Rattle.pass_laws.proofs.Alone.{HasShape, library_faultless, shape_of}
use Rattle.pass_laws.proofs.CellNumbers.{number_is, number_known}
use Rattle.pass_laws.proofs.Driving.{own_driver}
use Rattle.pass_laws.proofs.Forming.{own_cells}
use Rattle.pass_laws.proofs.Giving.{became, in_middle, signal_in}
use Rattle.pass_laws.proofs.Outputs.{output_wires}
use Rattle.pass_laws.proofs.PinWidths as widths
use Rattle.pass_laws.specs.Pass.{IsPass}
use Rattle.pass_laws.specs.Ready.{IsReady}
use Rattle.opt_expr.proofs.Known.{shape_kind}
use Rattle.opt_more.specs.Dff.{enabled_of, polarity_of, without_enable}
use Rattle.opt_more.proofs.RegisterBits.{always_below}
use Rattle.opt_more.proofs.Registering.{IsPlain, IsRegister, enable_one, active_unknown, point_is}

or_none : (t : Bool) → t ≡ false → (t || false) ≡ false
or_none t e = ap (λ z. z || false) e

three_within : (n : ℕ) (a b q : Pin) → SigIn n a.sig → SigIn n b.sig → SigIn n q.sig → (pin : Pin) → (pin ≡ a) ⊎ ((pin ≡ b) ⊎ ((pin ≡ q) ⊎ ⊥)) → SigIn n pin.sig
three_within n a b q ha hb hq pin (inl e) = subst (λ (z : Pin). SigIn n z.sig) (sym e) ha
three_within n a b q ha hb hq pin (inr (inl e)) = subst (λ (z : Pin). SigIn n z.sig) (sym e) hb
three_within n a b q ha hb hq pin (inr (inr (inl e))) = subst (λ (z : Pin). SigIn n z.sig) (sym e) hq
three_within n a b q ha hb hq pin (inr (inr (inr i))) = absurd i

-- a flip-flop of words, with its two parameters
dff_fits : (v p : List Bit) (lc ld lq n : ℕ) → all_known v ≡ true → all_known p ≡ true → number_of v ≡ n → lc ≡ 1 → ld ≡ n → lq ≡ n → 0 < n → n ≤ 4096
    → fault_of (Storage Dff) (record { name = param_text Width; value = v } ∷ record { name = param_text ClkPolarity; value = p } ∷ []) (record { name = pin_text Clk; width = lc } ∷ record { name = pin_text D; width = ld } ∷ record { name = pin_text Q; width = lq } ∷ []) ≡ None
dff_fits v p lc ld lq n kv kp nv ec ed eq some few =
    let positive : nat_lt 0 n ≡ true = lt-ltb 0 n some in
    let narrow : nat_lt 4096 n ≡ false = grind arith in
    let same : (n == n) ≡ true = eq-eqb n n refl in
    rw (kv, kp, nv, ec, ed, eq, positive, narrow, same) refl

-- a level that is written as a number and read again
level_back : (level : Level) → (if number_of (low_bits (polarity_of level) 32) == 0 then Low else High) ≡ level
level_back Low = ap (λ n. if n == 0 then Low else High) (number_is 0 (omega arith))
level_back High = ap (λ n. if n == 0 then Low else High) (number_is 1 (omega arith))

-- a register of words
module _ (c : Cell) (fit : misfit (Storage Dffe) c ≡ None) where
  abbrev word_new : Cell
  word_new = without_enable (Storage Dffe) c

  word_kind : cell_kind (without_enable (Storage Dffe) c) ≡ Some (Storage Dff)
  unfolding cell_kind
  word_kind = refl

  word_wide : length (signal_at c.pins (pin_text Q)) ≡ number_in (given_params c.params) Width
  word_wide = widths.pin_fits (Storage Dffe) c Q fit refl (inr (inr (inr (inl refl))))

  word_fit : misfit (Storage Dff) (without_enable (Storage Dffe) c) ≡ None
  unfolding misfit
  word_fit =
      let n : ℕ = length (signal_at c.pins (pin_text Q)) in
      let narrow : number_in (given_params c.params) Width ≤ 4096 = ltb-false 4096 (number_in (given_params c.params) Width) (widths.shape_of (Storage Dffe) c fit).narrow in
      let reads = widths.param_reads (Storage Dffe) c Width fit (inl refl) in
      let positive : 0 < number_in (given_params c.params) Width = ltb-true 0 (number_in (given_params c.params) Width) (and_parts (all_known (value_in (given_params c.params) Width)) (nat_lt 0 (number_in (given_params c.params) Width)) reads).1 in
      let few : n ≤ 4096 = omega (arith, word_wide, narrow) in
      let some : 0 < n = omega (arith, word_wide, positive) in
      let d : length (signal_at c.pins (pin_text D)) ≡ n = widths.pin_fits (Storage Dffe) c D fit refl (inr (inr (inl refl))) ∙ sym word_wide in
      let clk : length (signal_at c.pins (pin_text Clk)) ≡ 1 = widths.pin_fits (Storage Dffe) c Clk fit refl (inl refl) in
      dff_fits (low_bits n 32) (low_bits (polarity_of (cell_shape (Storage Dffe) c.params).levels.clk) 32) (length (signal_at c.pins (pin_text Clk))) (length (signal_at c.pins (pin_text D))) n n (number_known n) (number_known (polarity_of (cell_shape (Storage Dffe) c.params).levels.clk)) (number_is n few) clk d refl some few

  word_level : (cell_shape (Storage Dff) (without_enable (Storage Dffe) c).params).levels.clk ≡ (cell_shape (Storage Dffe) c.params).levels.clk
  unfolding cell_shape
  word_level = level_back (cell_shape (Storage Dffe) c.params).levels.clk

  word_better : (start : SigBit → Bit) (p : Path) (wires : List Wire) (t : Time Place) (w : Valuation) (at : ℕ) (b : WireBit) → enabled_of (Storage Dffe) c ≡ S1 → Below (value_of (own_driver start p wires c (Storage Dffe) at b) t w) (value_of (own_driver start p wires (without_enable (Storage Dffe) c) (Storage Dff) at b) t w)
  word_better start p wires Start w at b on = Below_refl (start (OnWire b))
  word_better start p wires (Step v x manner) w at b on =
      let place : Place = bit_place p wires b in
      let levels : Levels = (cell_shape (Storage Dffe) c.params).levels in
      let levels' : Levels = (cell_shape (Storage Dff) (without_enable (Storage Dffe) c).params).levels in
      let pins : Pins = pins_of v (word_store p wires c.pins at) place in
      let pins' : Pins = pins_of v (word_store p wires (without_enable (Storage Dffe) c).pins at) place in
      let before : Pins = acting_of levels (record pins { clk = was_of manner.first pins.clk }) in
      let now : Pins = acting_of levels (pins_of w (word_store p wires c.pins at) place) in
      let other : Pins = acting_of levels' (record pins' { clk = was_of manner.first pins'.clk }) in
      let after : Pins = acting_of levels' (pins_of w (word_store p wires (without_enable (Storage Dffe) c).pins at) place) in
      let en : before.en ≡ S1 = ap (λ z. active_of levels.en (read v z)) (point_is p wires (signal_at c.pins (pin_text En)) 0) ∙ enable_one (active_of levels.en) v p wires (slice_index_or (signal_at c.pins (pin_text En)) 0 (Fixed X)) (active_unknown levels.en) on in
      let value : Bit = reset_at (storage_kind (cell_shape (Storage Dffe) c.params).kind) (cell_shape (Storage Dffe) c.params).resets at in
      let law : Below (next_of Dffe value before now) (next_of Dff value other after) = always_below value before now other after en refl refl (λ i. active_of (sym word_level i) (was_of manner.first pins.clk)) (λ i. active_of (sym word_level i) (pins_of w (word_store p wires c.pins at) place).clk) in
      let old_shape : Shape = cell_shape (Storage Dffe) c.params in
      let new_shape : Shape = cell_shape (Storage Dff) (without_enable (Storage Dffe) c).params in
      let here : Pins = pins_of w (word_store p wires c.pins at) place in
      let here' : Pins = pins_of w (word_store p wires (without_enable (Storage Dffe) c).pins at) place in
      let value' : Bit = reset_at (storage_kind new_shape.kind) new_shape.resets at in
      let in_old = no_control manner.order (storage_kind old_shape.kind) old_shape.levels value pins here manner.first (subst (λ z. NoControl (storage_kind z)) (sym (shape_kind (Storage Dffe) c)) tt) in
      let in_new = no_control manner.order (storage_kind new_shape.kind) new_shape.levels value' pins' here' manner.first (subst (λ z. NoControl (storage_kind z)) (sym (shape_kind (Storage Dff) (without_enable (Storage Dffe) c))) tt) in
      let low : Below (stored_in Together (storage_kind old_shape.kind) old_shape.levels value pins here manner.first) (stored_in Together (storage_kind new_shape.kind) new_shape.levels value' pins' here' manner.first) =
      subst (λ z. Below (next_of (storage_kind z) value before now) (stored_in Together (storage_kind new_shape.kind) new_shape.levels value' pins' here' manner.first)) (sym (shape_kind (Storage Dffe) c))
      (subst (λ z. Below (next_of Dffe value before now) (next_of (storage_kind z) (reset_at (storage_kind z) new_shape.resets at) other after)) (sym (shape_kind (Storage Dff) (without_enable (Storage Dffe) c))) law) in
      subst (λ z. Below z (stored_in manner.order (storage_kind new_shape.kind) new_shape.levels value' pins' here' manner.first)) (sym in_old)
      (subst (λ z. Below (stored_in Together (storage_kind old_shape.kind) old_shape.levels value pins here manner.first) z) (sym in_new) low)

-- a gate
module _ (clk en : Level) (c : Cell) (fit : misfit (StorageGate (gate.Dffe clk en)) c ≡ None) where
  gate_new_kind : cell_kind (without_enable (StorageGate (gate.Dffe clk en)) c) ≡ Some (StorageGate (gate.Dff clk))
  unfolding cell_kind
  gate_new_kind = by clk
    where
      by : (clk : Level) → cell_kind (without_enable (StorageGate (gate.Dffe clk en)) c) ≡ Some (StorageGate (gate.Dff clk))
      by Low = refl
      by High = refl

  gate_fit : misfit (StorageGate (gate.Dff clk)) (without_enable (StorageGate (gate.Dffe clk en)) c) ≡ None
  unfolding misfit
  gate_fit =
      let d : length (signal_at c.pins (pin_text D)) ≡ 1 = widths.pin_fits (StorageGate (gate.Dffe clk en)) c D fit refl (inl refl) in
      let k : length (signal_at c.pins (pin_text C)) ≡ 1 = widths.pin_fits (StorageGate (gate.Dffe clk en)) c C fit refl (inr (inl refl)) in
      let q : length (signal_at c.pins (pin_text Q)) ≡ 1 = widths.pin_fits (StorageGate (gate.Dffe clk en)) c Q fit refl (inr (inr (inr (inl refl)))) in
      three_fit (length (signal_at c.pins (pin_text D))) (length (signal_at c.pins (pin_text C))) (length (signal_at c.pins (pin_text Q))) d k q
    where
      three_fit : (ld lc lq : ℕ) → ld ≡ 1 → lc ≡ 1 → lq ≡ 1 → fault_of (StorageGate (gate.Dff clk)) [] (record { name = pin_text D; width = ld } ∷ record { name = pin_text C; width = lc } ∷ record { name = pin_text Q; width = lq } ∷ []) ≡ None
      three_fit ld lc lq d k q = rw (d, k, q) refl

  gate_level : (cell_shape (StorageGate (gate.Dff clk)) (without_enable (StorageGate (gate.Dffe clk en)) c).params).levels.clk ≡ (cell_shape (StorageGate (gate.Dffe clk en)) c.params).levels.clk
  unfolding cell_shape
  gate_level = refl

  gate_better : (start : SigBit → Bit) (p : Path) (wires : List Wire) (t : Time Place) (w : Valuation) (at : ℕ) (b : WireBit) → enabled_of (StorageGate (gate.Dffe clk en)) c ≡ S1
      → Below (value_of (own_driver start p wires c (StorageGate (gate.Dffe clk en)) at b) t w) (value_of (own_driver start p wires (without_enable (StorageGate (gate.Dffe clk en)) c) (StorageGate (gate.Dff clk)) at b) t w)
  gate_better start p wires Start w at b on = Below_refl (start (OnWire b))
  gate_better start p wires (Step v x manner) w at b on =
      let place : Place = bit_place p wires b in
      let levels : Levels = (cell_shape (StorageGate (gate.Dffe clk en)) c.params).levels in
      let levels' : Levels = (cell_shape (StorageGate (gate.Dff clk)) (without_enable (StorageGate (gate.Dffe clk en)) c).params).levels in
      let pins : Pins = pins_of v (gate_store p wires c.pins at) place in
      let pins' : Pins = pins_of v (gate_store p wires (without_enable (StorageGate (gate.Dffe clk en)) c).pins at) place in
      let before : Pins = acting_of levels (record pins { clk = was_of manner.first pins.clk }) in
      let now : Pins = acting_of levels (pins_of w (gate_store p wires c.pins at) place) in
      let other : Pins = acting_of levels' (record pins' { clk = was_of manner.first pins'.clk }) in
      let after : Pins = acting_of levels' (pins_of w (gate_store p wires (without_enable (StorageGate (gate.Dffe clk en)) c).pins at) place) in
      let on_en : before.en ≡ S1 = ap (λ z. active_of levels.en (read v z)) (point_is p wires (signal_at c.pins (pin_text E)) 0) ∙ enable_one (active_of levels.en) v p wires (slice_index_or (signal_at c.pins (pin_text E)) 0 (Fixed X)) (active_unknown levels.en) on in
      let value : Bit = reset_at (storage_kind (cell_shape (StorageGate (gate.Dffe clk en)) c.params).kind) (cell_shape (StorageGate (gate.Dffe clk en)) c.params).resets at in
      let law : Below (next_of Dffe value before now) (next_of Dff value other after) = always_below value before now other after on_en refl refl (λ i. active_of (sym gate_level i) (was_of manner.first pins.clk)) (λ i. active_of (sym gate_level i) (pins_of w (gate_store p wires c.pins at) place).clk) in
      let old_shape : Shape = cell_shape (StorageGate (gate.Dffe clk en)) c.params in
      let new_shape : Shape = cell_shape (StorageGate (gate.Dff clk)) (without_enable (StorageGate (gate.Dffe clk en)) c).params in
      let here : Pins = pins_of w (gate_store p wires c.pins at) place in
      let here' : Pins = pins_of w (gate_store p wires (without_enable (StorageGate (gate.Dffe clk en)) c).pins at) place in
      let value' : Bit = reset_at (storage_kind new_shape.kind) new_shape.resets at in
      let in_old = no_control manner.order (storage_kind old_shape.kind) old_shape.levels value pins here manner.first (subst (λ z. NoControl (storage_kind z)) (sym (shape_kind (StorageGate (gate.Dffe clk en)) c)) tt) in
      let in_new = no_control manner.order (storage_kind new_shape.kind) new_shape.levels value' pins' here' manner.first (subst (λ z. NoControl (storage_kind z)) (sym (shape_kind (StorageGate (gate.Dff clk)) (without_enable (StorageGate (gate.Dffe clk en)) c))) tt) in
      let low : Below (stored_in Together (storage_kind old_shape.kind) old_shape.levels value pins here manner.first) (stored_in Together (storage_kind new_shape.kind) new_shape.levels value' pins' here' manner.first) =
      subst (λ z. Below (next_of (storage_kind z) value before now) (stored_in Together (storage_kind new_shape.kind) new_shape.levels value' pins' here' manner.first)) (sym (shape_kind (StorageGate (gate.Dffe clk en)) c))
      (subst (λ z. Below (next_of Dffe value before now) (next_of (storage_kind z) (reset_at (storage_kind z) new_shape.resets at) other after)) (sym (shape_kind (StorageGate (gate.Dff clk)) (without_enable (StorageGate (gate.Dffe clk en)) c))) law) in
      subst (λ z. Below z (stored_in manner.order (storage_kind new_shape.kind) new_shape.levels value' pins' here' manner.first)) (sym in_old)
      (subst (λ z. Below (stored_in Together (storage_kind old_shape.kind) old_shape.levels value pins here manner.first) z) (sym in_new) low)

module _ (table : PortTable) (m : Module) (pre : List Cell) (c : Cell) (post : List Cell) (ready : IsReady (types.table_ports table.modules) m) (is : m.cells ≡ pre ++ c ∷ post) where
  stands : In c m.cells
  stands = subst (In c) (sym is) (in_middle pre c post)

  fine : (kind : CellKind) → cell_kind c ≡ Some kind → HasShape c kind
  fine kind own = shape_of (types.table_ports table.modules) c kind own (own_cells (types.table_ports table.modules) m ready c stands)

  pin_in : (name : PinName) → SigIn (length m.wires) (signal_at c.pins (pin_text name))
  pin_in name = signal_in (length m.wires) c.pins (pin_text name) (ready.within.cells c stands)

  word_passes : cell_kind c ≡ Some (Storage Dffe) → enabled_of (Storage Dffe) c ≡ S1 → IsPass table m (record m { cells = pre ++ without_enable (Storage Dffe) c ∷ post })
  word_passes own on =
      let shape = fine (Storage Dffe) own in
      let none : has_constant (signal_at c.pins (pin_text Q)) ≡ false = output_wires (Storage Dffe) c Q refl shape.output in
      became table m pre c post ready is (Storage Dffe) own refl Q refl (without_enable (Storage Dffe) c) (Storage Dff) (word_kind c shape.fit) Q refl refl
      (library_faultless (types.table_ports table.modules) (without_enable (Storage Dffe) c) (Storage Dff) (word_kind c shape.fit) refl (word_fit c shape.fit) (or_none (has_constant (signal_at c.pins (pin_text Q))) none))
      (λ pin i. three_within (length m.wires) _ _ _ (pin_in Clk) (pin_in D) (pin_in Q) pin i)
      (λ p t w s before at b there. word_better c shape.fit (start_of m.wires m.processes) p m.wires t w at b on)

  gate_passes : (clk en : Level) → cell_kind c ≡ Some (StorageGate (gate.Dffe clk en)) → enabled_of (StorageGate (gate.Dffe clk en)) c ≡ S1 → IsPass table m (record m { cells = pre ++ without_enable (StorageGate (gate.Dffe clk en)) c ∷ post })
  gate_passes clk en own on =
      let shape = fine (StorageGate (gate.Dffe clk en)) own in
      let none : has_constant (signal_at c.pins (pin_text Q)) ≡ false = output_wires (StorageGate (gate.Dffe clk en)) c Q refl shape.output in
      became table m pre c post ready is (StorageGate (gate.Dffe clk en)) own refl Q refl (without_enable (StorageGate (gate.Dffe clk en)) c) (StorageGate (gate.Dff clk)) (gate_new_kind clk en c shape.fit) Q refl refl
      (library_faultless (types.table_ports table.modules) (without_enable (StorageGate (gate.Dffe clk en)) c) (StorageGate (gate.Dff clk)) (gate_new_kind clk en c shape.fit) refl (gate_fit clk en c shape.fit) (or_none (has_constant (signal_at c.pins (pin_text Q))) none))
      (λ pin i. three_within (length m.wires) _ _ _ (pin_in D) (pin_in C) (pin_in Q) pin i)
      (λ p t w s before at b there. gate_better clk en c shape.fit (start_of m.wires m.processes) p m.wires t w at b on)

  -- a register that is always enabled
  pub enabled_passes : (kind : CellKind) → IsRegister c kind → enabled_of kind c ≡ S1 → IsPass table m (record m { cells = pre ++ without_enable kind c ∷ post })
  enabled_passes kind r on = by kind r.own r.plain on
    where
      by : (kind : CellKind) → cell_kind c ≡ Some kind → IsPlain kind → enabled_of kind c ≡ S1 → IsPass table m (record m { cells = pre ++ without_enable kind c ∷ post })
      by (Storage Dffe) own k on = word_passes own on
      by (StorageGate (gate.Dffe clk en)) own k on = gate_passes clk en own on
      by (Storage s) own k on = absurd (cc)
      by (StorageGate g) own k on = absurd (cc)
      by kind own k on = elim k [ ]
