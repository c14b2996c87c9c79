-- A register that always has the same values goes: that is a pass.
use Rattle.std.proofs.Common.{◌≡◌, ℕ, zero, suc, ◌+◌, ◌<◌, true, false, List, [], ◌∷◌, ◌++◌, length, map, Some, None, inl, inr, refl, sym, ◌∙◌, ap, subst, arith}
use Rattle.std.specs.Prelude.{slice_get, slice_index_or}
use Rattle.std.proofs.lemmas.List.{length-map}
use Rattle.cell_gate.specs.Store.{gate_kind}
use Rattle.cell_types.specs.PinName.{pin_text}
use Rattle.cell_types.specs.Pins.{pins_of}
use Rattle.cell_types.specs.declared.kind.CellKind.{CellKind}
use Rattle.cell_types.specs.declared.kind.CellKind.TheVariants.{Storage, StorageGate}
use Rattle.cell_types.specs.declared.pin_name.PinName.TheVariants.{Q}
use Rattle.cell_types.specs.declared.storage_gate.StorageGate.{StorageGate as AnyGate}
use Rattle.cell_types.specs.declared.storage_gate.StorageGate.TheVariants as gate
use Rattle.rtl_bits.proofs.Orders.{Below_trans}
use Rattle.rtl_bits.specs.Knowledge.{Below}
use Rattle.rtl_bits.specs.declared.bit.Bit.{Bit}
use Rattle.rtl_bits.specs.declared.bit.Bit.TheVariants.{S0, S1, X, Z, M, Dash}
use Rattle.rtl_sig.specs.declared.sig.SigBit.{SigBit}
use Rattle.rtl_sig.specs.declared.sig.SigBit.TheVariants.{Fixed, Wire as OnWire}
use Rattle.rtl_sig.specs.declared.sig.WireBit.{WireBit}
use Rattle.rtl_ir.specs.Faults.Cells.{is_memory_kind, misfit}
use Rattle.rtl_ir.specs.Flat.Driver.{Driven, Joined}
use Rattle.rtl_ir.specs.Flat.Link.{joins}
use Rattle.rtl_ir.specs.Flat.Place.{Path, Place}
use Rattle.rtl_ir.specs.Flat.Point.{bit_place, point, points}
use Rattle.rtl_ir.specs.Flat.Rows.{rows_of}
use Rattle.rtl_ir.specs.Flat.Start.{start_of}
use Rattle.rtl_ir.specs.Flat.Tree as flat
use Rattle.rtl_ir.specs.Outputs.{output_pin}
use Rattle.rtl_ir.specs.Parameters.{signal_at}
use Rattle.rtl_ir.specs.Types as types
use Rattle.rtl_ir.specs.declared.cell.Cell.{Cell}
use Rattle.rtl_ir.specs.declared.module.Module.{Module}
use Rattle.rtl_ir.specs.declared.ports.PortTable.{PortTable}
use Rattle.net_model.proofs.Members.{In-left}
use Rattle.net_model.specs.Lists.{In}
use Rattle.net_model.specs.Refine.{Solved, SolvedBefore}
use Rattle.net_model.specs.Run.{Time, Start, Step}
use Rattle.net_model.specs.Valuation.{Valuation, passed_of, read}
use Rattle.net_model.specs.Value.{value_of}
use Rattle.net_model.specs.Within.{BitIn, SigIn}
use Rattle.pass_laws.proofs.Alone.{shape_of}
use Rattle.pass_laws.proofs.Driving.{joined_in, own_driver, row_of}
use Rattle.pass_laws.proofs.Faultless.{plain}
use Rattle.pass_laws.proofs.Forming.{own_cells}
use Rattle.pass_laws.proofs.Giving.{given, in_middle, output_link}
use Rattle.pass_laws.proofs.PinWidths.{pin_fits}
use Rattle.pass_laws.proofs.Rewriting.{more_in}
use Rattle.pass_laws.specs.Pass.{IsPass}
use Rattle.pass_laws.specs.Ready.{IsReady}
use Rattle.pass_laws.specs.Replaces.{replacing}
use Rattle.opt_more.specs.Dff.{bit_at, is_plain, settled_bit, settled_of}
use Rattle.opt_more.proofs.Registering.{IsPlain, IsRegister, IsSettled, OfBits, OfWords, is_settled, settled_at, stored_below}

-- what a connection passes is below what it is
passed_below : (b : Bit) → Below (passed_of b) b
passed_below S0 = refl
passed_below S1 = refl
passed_below X = tt
passed_below Z = tt
passed_below M = tt
passed_below Dash = tt

got_is : (xs : List SigBit) (at : ℕ) (x : SigBit) → slice_get xs at ≡ Some x → (at < length xs) × (slice_index_or xs at (Fixed X) ≡ x)
got_is [] at x e = absurd (cc)
got_is (y ∷ ys) zero x e = (omega arith, (let same : y ≡ x = cc in same))
got_is (y ∷ ys) (suc at) x e = let later = got_is ys at x e in (let lt = later.0 in omega arith, later.1)

plain_memory : (kind : CellKind) → IsPlain kind → is_memory_kind kind ≡ false
plain_memory (Storage s) (OfWords _ p) = refl
plain_memory (StorageGate g) (OfBits _ p) = refl
plain_memory kind k = elim k [ ]

plain_output : (kind : CellKind) → IsPlain kind → output_pin kind ≡ Some Q
plain_output (Storage s) (OfWords _ p) = refl
plain_output (StorageGate g) (OfBits _ p) = refl
plain_output kind k = elim k [ ]

-- the output of a plain gate has one bit
gate_q : (g : AnyGate) → is_plain (gate_kind g) ≡ true → In Q (pins_of (StorageGate g))
gate_q gate.Ff e = inr (inl refl)
gate_q (gate.Dff clk) e = inr (inr (inl refl))
gate_q (gate.Dffe clk en) e = inr (inr (inr (inl refl)))
gate_q (gate.Sdff clk srst value) e = inr (inr (inr (inl refl)))
gate_q (gate.Sdffe clk srst value en) e = inr (inr (inr (inr (inl refl))))
gate_q (gate.Sdffce clk srst value en) e = inr (inr (inr (inr (inl refl))))
gate_q (gate.Adff clk arst value) e = inr (inr (inr (inl refl)))
gate_q (gate.Adffe clk arst value en) e = inr (inr (inr (inr (inl refl))))
gate_q g e = absurd (cc)

gate_one : (g : AnyGate) (c : Cell) → is_plain (gate_kind g) ≡ true → misfit (StorageGate g) c ≡ None → length (signal_at c.pins (pin_text Q)) ≡ 1
gate_one g c e fit = pin_fits (StorageGate g) c Q fit refl (gate_q g e)

module _ (table : PortTable) (m : Module) (pre : List Cell) (c : Cell) (post : List Cell) (ready : IsReady (types.table_ports table.modules) m) (is : m.cells ≡ pre ++ c ∷ post) (kind : CellKind) (r : IsRegister c kind) where
  stands : In c m.cells
  stands = subst (In c) (sym is) (in_middle pre c post)

  fit : misfit kind c ≡ None
  fit = (shape_of (types.table_ports table.modules) c kind r.own (own_cells (types.table_ports table.modules) m ready c stands)).fit

  no_process : m.processes ≡ []
  no_process = (plain (types.table_ports table.modules) m ready.faultless).processes

  only_zero : (at : ℕ) → at < length (signal_at c.pins (pin_text Q)) → (g : AnyGate) → kind ≡ StorageGate g → at ≡ 0
  only_zero at lt g e =
      let one : length (signal_at c.pins (pin_text Q)) ≡ 1 = gate_one g c (gate_plain r.plain) (subst (λ k. misfit k c ≡ None) e fit) in
      omega (arith, lt, one)
    where
      gate_plain : IsPlain kind → is_plain (gate_kind g) ≡ true
      gate_plain k = of_gate (subst IsPlain e k)
        where
          of_gate : IsPlain (StorageGate g) → is_plain (gate_kind g) ≡ true
          of_gate (OfBits _ p) = p

  module _ (values : List Bit) (settled : settled_of m.wires kind c ≡ Some values) where
    abbrev right : List SigBit
    right = map Fixed values

    long : length values ≡ length (signal_at c.pins (pin_text Q))
    long = (settled_at m.wires kind c 0 (length (signal_at c.pins (pin_text Q))) values settled).0

    wide : length (signal_at c.pins (pin_text Q)) ≡ length (map Fixed values)
    wide = sym (length-map values Fixed ∙ long)

    fixed_in : (n : ℕ) (bits : List Bit) → SigIn n (map Fixed bits)
    fixed_in n [] x i = absurd i
    fixed_in n (b ∷ bits) x (inl e) = subst (λ z. BitIn n z) (sym e) tt
    fixed_in n (b ∷ bits) x (inr i) = fixed_in n bits x i

    module _ (p : Path) (t : Time Place) (w : Valuation) (s : Solved (rows_of (flat.table_ports table) p (replacing pre [] post (output_link c Q (map Fixed values) ∷ []) m)) t w)
        (before : SolvedBefore (rows_of (flat.table_ports table) p (replacing pre [] post (output_link c Q (map Fixed values) ∷ []) m)) t) (at : ℕ) (b : WireBit) (there : slice_get (signal_at c.pins (pin_text Q)) at ≡ Some (OnWire b)) where
      lt : at < length (signal_at c.pins (pin_text Q))
      lt = (got_is (signal_at c.pins (pin_text Q)) at (OnWire b) there).0

      value : Bit
      value = slice_index_or values at S0

      has : IsSettled m.wires kind c at (slice_index_or values at S0)
      has =
          let zero_at : 0 + at ≡ at = omega arith in
          is_settled m.wires kind c at (slice_index_or values at S0) (ap (settled_bit m.wires kind c) (sym zero_at) ∙ (settled_at m.wires kind c 0 (length (signal_at c.pins (pin_text Q))) values settled).1 at lt)

      own_bit : bit_at Q c at ≡ OnWire b
      own_bit = (got_is (signal_at c.pins (pin_text Q)) at (OnWire b) there).1

      given_is : slice_index_or (map Fixed values) at (Fixed S0) ≡ Fixed (slice_index_or values at S0)
      given_is = by values at
        where
          by : (bits : List Bit) (n : ℕ) → slice_index_or (map Fixed bits) n (Fixed S0) ≡ Fixed (slice_index_or bits n S0)
          by [] n = refl
          by (x ∷ bits) zero = refl
          by (x ∷ bits) (suc n) = by bits n

      -- the connection's row of the bit
      row : Driven
      row = row_of p m.wires b (Joined (point p m.wires (slice_index_or (map Fixed values) at (Fixed S0))))

      row_in : In (row_of p m.wires b (Joined (point p m.wires (slice_index_or (map Fixed values) at (Fixed S0))))) (rows_of (flat.table_ports table) p (replacing pre [] post (output_link c Q (map Fixed values) ∷ []) m))
      row_in =
          more_in m pre post [] (output_link c Q (map Fixed values) ∷ []) (flat.table_ports table) p _
          (In-left _ (joins (points p m.wires (signal_at c.pins (pin_text Q))) (points p m.wires (map Fixed values))) [] (joined_in p m.wires (signal_at c.pins (pin_text Q)) (map Fixed values) wide at b there))

      -- where that row is tight, the bit is below its value
      bit_below : (v : Valuation) → Below (v (bit_place p m.wires b)) (passed_of (read v (point p m.wires (slice_index_or (map Fixed values) at (Fixed S0))))) → Below (v (bit_place p m.wires b)) (slice_index_or values at S0)
      bit_below v h =
          Below_trans (v (bit_place p m.wires b)) (passed_of (slice_index_or values at S0)) (slice_index_or values at S0)
          (subst (λ z. Below (v (bit_place p m.wires b)) (passed_of (read v (point p m.wires z)))) given_is h)
          (passed_below (slice_index_or values at S0))

      start_below : Below (start_of m.wires m.processes (OnWire b)) (slice_index_or values at S0)
      start_below =
          subst (λ z. Below (start_of m.wires z (OnWire b)) (slice_index_or values at S0)) (sym no_process)
          (subst (λ z. Below (start_of m.wires [] z) (slice_index_or values at S0)) own_bit has.start)

      gives : Below (value_of (own_driver (start_of m.wires m.processes) p m.wires c kind at b) t w) (slice_index_or values at S0)
      gives = by t before r.plain
        where
          by : (t : Time Place) → SolvedBefore (rows_of (flat.table_ports table) p (replacing pre [] post (output_link c Q (map Fixed values) ∷ []) m)) t → IsPlain kind → Below (value_of (own_driver (start_of m.wires m.processes) p m.wires c kind at b) t w) (slice_index_or values at S0)
          by Start old k = at_start kind k
            where
              at_start : (k : CellKind) → IsPlain k → Below (value_of (own_driver (start_of m.wires m.processes) p m.wires c k at b) Start w) (slice_index_or values at S0)
              at_start (Storage s) (OfWords _ e) = start_below
              at_start (StorageGate g) (OfBits _ e) = start_below
              at_start k e = elim e [ ]
          by (Step v x manner) old k =
              stored_below (start_of m.wires m.processes) p m.wires v w x manner c kind at b (slice_index_or values at S0) k (only_zero at lt) own_bit has (bit_below v (old.1.tight _ row_in))

    -- the register goes, and its output is connected
    pub settled_passes : IsPass table m (replacing pre [] post (output_link c Q (map Fixed values) ∷ []) m)
    settled_passes =
        given table m pre c post ready is kind r.own (plain_memory kind r.plain) Q (plain_output kind r.plain) (map Fixed values) wide (fixed_in (length m.wires) values)
        (λ p t w s before at b there.
        subst (λ z. Below (value_of (own_driver (start_of m.wires m.processes) p m.wires c kind at b) t w) (read w (point p m.wires z))) (sym (given_is p t w s before at b there)) (gives p t w s before at b there))
