-- What is known of the other cells in a solution of the rows of a module.
use Rattle.std.proofs.Common.{◌≡◌, ℕ, ◌+◌, ◌<◌, Bool, true, false, List, [], ◌∷◌, length, map, Option, Some, None, inl, inr, refl, sym, ◌∙◌, ap, subst, arith}
use Rattle.std.specs.Prelude.{◌&&◌, ◌≤◌, slice_index_or}
use Rattle.std.proofs.lemmas.Bool.{and_parts}
use Rattle.std.proofs.lemmas.List.{get_or-map, length-map}
use Rattle.cell_types.specs.declared.gate.GateKind.TheVariants as gate
use Rattle.cell_types.specs.declared.kind.CellKind.{CellKind}
use Rattle.cell_types.specs.declared.kind.CellKind.TheVariants as kind
use Rattle.cell_types.specs.declared.pin_name.PinName.TheVariants.{A, B, S, Y}
use Rattle.cell_types.specs.declared.shape.Shape.{Shape}
use Rattle.cell_types.specs.Fault.{has_width}
use Rattle.cell_types.specs.PinName.{pin_text}
use Rattle.rtl_bits.proofs.Orders.{Below_trans}
use Rattle.rtl_bits.specs.Knowledge.{Below}
use Rattle.rtl_bits.specs.Tables.{not_of}
use Rattle.rtl_bits.specs.declared.bit.Bit.{Bit}
use Rattle.rtl_bits.specs.declared.bit.Bit.TheVariants.{X}
use Rattle.rtl_ir.specs.Faults.Cells.{misfit, pin_widths}
use Rattle.rtl_ir.specs.Flat.Cell.{Ports, cell_kind, cell_rows, cell_shape, cells_rows, kind_rows, outputs}
use Rattle.rtl_ir.specs.Flat.Driver.{Driven}
use Rattle.rtl_ir.specs.Flat.Place.{Path, Place}
use Rattle.rtl_ir.specs.Flat.Point.{Point, pin_points, points}
use Rattle.rtl_ir.specs.Parameters.{given_params, signal_at}
use Rattle.rtl_ir.specs.Signals.{has_constant}
use Rattle.rtl_ir.specs.declared.cell.Cell.{Cell}
use Rattle.rtl_ir.specs.declared.wire.Wire.{Wire}
use Rattle.rtl_sig.specs.declared.sig.SigBit.{SigBit}
use Rattle.rtl_sig.specs.declared.sig.SigBit.TheVariants.{Fixed}
use Rattle.net_model.proofs.Members.{In-left, In-right}
use Rattle.net_model.specs.Lists.{In}
use Rattle.net_model.specs.Refine.{IsTight}
use Rattle.net_model.specs.Run.{Time}
use Rattle.net_model.specs.Valuation.{Valuation, read_words}
use Rattle.net_model.specs.Value.{worked_of}
use Rattle.opt_expr.specs.Inverters.{inverts}
use Rattle.opt_expr.specs.Places.{combinational}
use Rattle.opt_expr.proofs.Inverting.{inverse_below}
use Rattle.opt_expr.proofs.Others.{IsInverter}
use Rattle.opt_expr.proofs.Rows.{bit_in, read_is, tight_rows}
use Rattle.opt_expr.proofs.Widths.{signal_width, widths_fit}

-- the words that a cell reads
abbrev pub words_of : Path → List Wire → Cell → List (List Point)
words_of p wires c = pin_points p wires c.pins A ∷ pin_points p wires c.pins B ∷ pin_points p wires c.pins S ∷ []

pub shape_kind : (own : CellKind) (c : Cell) → (cell_shape own c.params).kind ≡ own
unfolding cell_shape
shape_kind own c = refl

-- the rows of a combinational cell
pub rows_worked : (start : SigBit → Bit) (ports : Ports) (p : Path) (wires : List Wire) (c : Cell) (own : CellKind) → combinational (Some own) ≡ Some own → cell_kind c ≡ Some own
    → cell_rows start ports p wires c (cell_kind c) ≡ outputs (cell_shape own c.params) (words_of p wires c) (points p wires (signal_at c.pins (pin_text Y))) 0
rows_worked start ports p wires c own word e = ap (cell_rows start ports p wires c) e ∙ by own word
  where
    by : (own : CellKind) → combinational (Some own) ≡ Some own → kind_rows start p wires c own ≡ outputs (cell_shape own c.params) (words_of p wires c) (points p wires (signal_at c.pins (pin_text Y))) 0
    by (kind.Word k) word = refl
    by (kind.Gate k) word = refl
    by (kind.Storage k) word = absurd (cc)
    by (kind.StorageGate k) word = absurd (cc)
    by (kind.Memory k) word = absurd (cc)

-- the rows of one of some cells are among theirs
pub rows_in : (start : SigBit → Bit) (ports : Ports) (p : Path) (wires : List Wire) (cs : List Cell) (e : Cell) (x : Driven) → In e cs → In x (cell_rows start ports p wires e (cell_kind e)) → In x (cells_rows start ports p wires cs)
rows_in start ports p wires [] e x m i = absurd m
rows_in start ports p wires (c ∷ cs) e x (inl q) i =
    In-left x (cell_rows start ports p wires c (cell_kind c)) (cells_rows start ports p wires cs) (subst (λ z. In x (cell_rows start ports p wires z (cell_kind z))) q i)
rows_in start ports p wires (c ∷ cs) e x (inr m) i =
    In-right x (cell_rows start ports p wires c (cell_kind c)) (cells_rows start ports p wires cs) (rows_in start ports p wires cs e x m i)

-- the words that a cell reads, by its signals
pub words_read_are : (p : Path) (wires : List Wire) (w : Valuation) (c : Cell) → read_words w (words_of p wires c)
    ≡ map (bit_in p wires w) (signal_at c.pins (pin_text A)) ∷ map (bit_in p wires w) (signal_at c.pins (pin_text B)) ∷ map (bit_in p wires w) (signal_at c.pins (pin_text S)) ∷ []
words_read_are p wires w c =
    (λ i. read_is p wires w (signal_at c.pins (pin_text A)) i ∷ read_is p wires w (signal_at c.pins (pin_text B)) i ∷ read_is p wires w (signal_at c.pins (pin_text S)) i ∷ [])

-- an inverter is combinational
inverter_word : (logic : Bool) (o : Option CellKind) → inverts logic o ≡ true → (own : CellKind) × (o ≡ Some own) × (combinational (Some own) ≡ Some own)
inverter_word logic None e = absurd (cc)
inverter_word logic (Some (kind.Word k)) e = (kind.Word k, refl, refl)
inverter_word logic (Some (kind.Gate k)) e = (kind.Gate k, refl, refl)
inverter_word logic (Some (kind.Storage k)) e = absurd (cc)
inverter_word logic (Some (kind.StorageGate k)) e = absurd (cc)
inverter_word logic (Some (kind.Memory k)) e = absurd (cc)

-- an inverting gate reads one bit
gate_one : (c : Cell) (own : CellKind) → misfit own c ≡ None → own ≡ kind.Gate gate.Not → length (signal_at c.pins (pin_text A)) ≤ 1
gate_one c own fit e =
    let fits : misfit (kind.Gate gate.Not) c ≡ None = subst (λ k. misfit k c ≡ None) e fit in
    let both = and_parts (has_width (kind.Gate gate.Not) (given_params c.params) (pin_widths c.pins) A) (has_width (kind.Gate gate.Not) (given_params c.params) (pin_widths c.pins) Y && true) (widths_fit (kind.Gate gate.Not) c fits) in
    signal_width (kind.Gate gate.Not) (given_params c.params) c.pins A both.0

-- a cell that fits its kind and drives no constant
pub record IsWhole (c : Cell) : Type 0 where
  pub fit : (own : CellKind) → cell_kind c ≡ Some own → misfit own c ≡ None
  pub wires : (own : CellKind) → cell_kind c ≡ Some own → combinational (Some own) ≡ Some own → has_constant (signal_at c.pins (pin_text Y)) ≡ false

module _ (start : SigBit → Bit) (ports : Ports) (p : Path) (wires : List Wire) (t : Time Place) (w : Valuation) where
  abbrev f : SigBit → Bit
  f = bit_in p wires w

  -- where the rows of an inverter are tight, its output is known no better than the inverse of its input
  pub inverter_known : (logic : Bool) (e : Cell) (word input : List SigBit) → IsWhole e → IsInverter logic e word input → (logic ≡ true → length word ≡ 1) → ((x : Driven) → In x (cell_rows start ports p wires e (cell_kind e)) → IsTight x t w) → (k : ℕ) → k < length word
      → Below (bit_in p wires w (slice_index_or word k (Fixed X))) (not_of (bit_in p wires w (slice_index_or input k (Fixed X))))
  inverter_known logic e word input whole inv one tight k lt =
      let own = inverter_word logic (cell_kind e) inv.kind in
      let y : List SigBit = signal_at e.pins (pin_text Y) in
      let a : List SigBit = signal_at e.pins (pin_text A) in
      let b : List SigBit = signal_at e.pins (pin_text B) in
      let s : List SigBit = signal_at e.pins (pin_text S) in
      let shape : Shape = cell_shape own.0 e.params in
      let within : k < length y = subst (λ z. k < length z) (sym inv.whole) lt in
      let rows : (x : Driven) → In x (outputs shape (words_of p wires e) (points p wires y) 0) → IsTight x t w = λ x i. tight x (subst (In x) (sym (rows_worked start ports p wires e own.0 own.2 own.1)) i) in
      let known : Below (bit_in p wires w (slice_index_or y k (Fixed X))) (worked_of shape.kind shape (read_words w (words_of p wires e)) (0 + k)) = tight_rows p wires t w shape (words_of p wires e) y 0 k (whole.wires own.0 own.1 own.2) within rows in
      let here : 0 + k ≡ k = omega arith in
      let value : worked_of shape.kind shape (read_words w (words_of p wires e)) (0 + k) ≡ worked_of own.0 shape (map (bit_in p wires w) a ∷ map (bit_in p wires w) b ∷ map (bit_in p wires w) s ∷ []) k = (λ i. worked_of (shape_kind own.0 e i) shape (words_read_are p wires w e i) (here i)) in
      let inside : k < length (map (bit_in p wires w) a) = omega (arith, wide_map a, inv.wide) in
      let inverse : Below (worked_of own.0 shape (map (bit_in p wires w) a ∷ map (bit_in p wires w) b ∷ map (bit_in p wires w) s ∷ []) k) (not_of (slice_index_or (map (bit_in p wires w) a) k X)) = inverse_below logic own.0 shape (subst (λ o. inverts logic o ≡ true) own.1 inv.kind) (shape_kind own.0 e) (map (bit_in p wires w) a) (map (bit_in p wires w) b) (map (bit_in p wires w) s) k inside (λ l. wide_map a ∙ inv.wide ∙ one l) (λ g. let few = gate_one e own.0 (whole.fit own.0 own.1) g in omega (arith, few, inside, wide_map a)) in
      let bit : slice_index_or (map (bit_in p wires w) a) k X ≡ bit_in p wires w (slice_index_or input k (Fixed X)) = get_or-map (bit_in p wires w) a k (Fixed X) X (omega (arith, inv.wide)) ∙ ap (λ z. bit_in p wires w (slice_index_or z k (Fixed X))) inv.reads in
      Below_trans (bit_in p wires w (slice_index_or word k (Fixed X))) (worked_of shape.kind shape (read_words w (words_of p wires e)) (0 + k)) (not_of (bit_in p wires w (slice_index_or input k (Fixed X))))
      (subst (λ z. Below (bit_in p wires w (slice_index_or z k (Fixed X))) (worked_of shape.kind shape (read_words w (words_of p wires e)) (0 + k))) inv.whole known)
      (subst (λ z. Below z (not_of (bit_in p wires w (slice_index_or input k (Fixed X))))) (sym value) (subst (λ z. Below (worked_of own.0 shape (map (bit_in p wires w) a ∷ map (bit_in p wires w) b ∷ map (bit_in p wires w) s ∷ []) k) (not_of z)) bit inverse))
    where
      wide_map : (bits : List SigBit) → length (map (bit_in p wires w) bits) ≡ length bits
      wide_map bits = length-map bits (bit_in p wires w)
