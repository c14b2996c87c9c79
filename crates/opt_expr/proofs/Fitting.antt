-- The widths of a combinational cell that fits its kind, as the rules ask for them.
use Rattle.std.proofs.Common.{◌≡◌, ℕ, ◌*◌, ◌^◌, ◌<◌, ◌≤◌, Bool, true, false, List, [], ◌∷◌, length, map, Some, None, inl, inr, refl, sym, ◌∙◌, ap, subst, arith}
use Rattle.std.specs.Prelude.{◌||◌, ◌-◌, replicate, take}
use Rattle.std.proofs.Math.Nat.{le-mul_of_pos_right}
use Rattle.std.proofs.lemmas.Nat.{pow_pos}
use Rattle.std.specs.List.{list_any}
use Rattle.std.proofs.lemmas.Bool.{ltb-false, true≢false}
use Rattle.std.proofs.lemmas.List.{length-append, length-map, length-take, length-replicate}
use Rattle.cell_types.specs.declared.gate.GateKind.{GateKind}
use Rattle.cell_types.specs.declared.gate.GateKind.TheVariants as Gates
use Rattle.cell_types.specs.declared.kind.CellKind.{CellKind}
use Rattle.cell_types.specs.declared.kind.CellKind.TheVariants.{Word, Gate, Storage, StorageGate, Memory}
use Rattle.cell_types.specs.declared.pin_name.PinName.TheVariants.{A, B, S, Y}
use Rattle.cell_types.specs.declared.shape.Shape.{Shape}
use Rattle.cell_types.specs.declared.param_name.ParamName.TheVariants.{Width, SWidth}
use Rattle.cell_types.specs.declared.word.BitwiseKind.{BitwiseKind}
use Rattle.cell_types.specs.declared.word.BitwiseKind.TheVariants as Bits
use Rattle.cell_types.specs.declared.word.UnaryKind.TheVariants.{Neg}
use Rattle.cell_types.specs.Given.{number_in}
use Rattle.cell_types.specs.declared.word.WordKind.{WordKind}
use Rattle.cell_types.specs.declared.word.WordKind.TheVariants as Words
use Rattle.cell_types.proofs.Within.{made_bounds}
use Rattle.cell_types.specs.Bounds.{AreWordWidths}
use Rattle.cell_types.specs.declared.shape.Widths.{Widths}
use Rattle.cell_types.specs.Fault.{is_wide_pin, limit_of}
use Rattle.cell_types.specs.PinName.{pin_text}
use Rattle.cell_types.specs.Pins.{word_pins}
use Rattle.cell_types.specs.Shape.{small}
use Rattle.cell_types.specs.Widths.{pin_width}
use Rattle.rtl_sig.specs.Signal.{extended, fill_of}
use Rattle.rtl_sig.specs.declared.sig.SigBit.{SigBit}
use Rattle.rtl_ir.specs.Faults.Cells.{misfit, pin_widths}
use Rattle.rtl_ir.specs.Flat.Cell.{cell_shape}
use Rattle.rtl_ir.specs.Parameters.{given_params, signal_at}
use Rattle.rtl_ir.specs.declared.cell.Cell.{Cell}
use Rattle.net_model.specs.Lists.{In}
use Rattle.expr_rules.specs.Change.{chooser_kind, inverter_kind}
use Rattle.expr_rules.specs.Laws.{IsComputed}
use Rattle.expr_rules.specs.Operands.{counted_as, counted_gate, meant_as, meant_of, meant_signed}
use Rattle.rtl_ir.specs.Signals.{constant_of}
use Rattle.expr_rules.specs.declared.change.NewCell.{NewCell}
use Rattle.expr_rules.specs.declared.operands.Operands.{Operands}
use Rattle.opt_expr.specs.Places.{combinational}
use Rattle.opt_expr.proofs.Forming.{IsFormed, gate_chooser, gate_inverter, word_chooser, word_inverter}
use Rattle.opt_expr.proofs.Known.{shape_kind}
use Rattle.opt_expr.proofs.Making.{AreWide, AreWideAs, Chooser, Inverter, IsShaped}
use Rattle.opt_expr.proofs.Widths.{computed, not_wide, pin_fits}
use Rattle.pass_laws.proofs.Outputs.{gate_output, word_output}

any_in : {T : Type 0} (test : T → Bool) (x : T) (xs : List T) → In x xs → list_any test xs ≡ false → test x ≡ false
any_in test x [] i e = absurd i
any_in test x (y ∷ ys) (inl here) e = ap test here ∙ first (test y) (list_any test ys) e
  where
    first : (a b : Bool) → (a || b) ≡ false → a ≡ false
    first true b f = absurd (true≢false f)
    first false b f = refl
any_in test x (y ∷ ys) (inr i) e = any_in test x ys i (later (test y) (list_any test ys) e)
  where
    later : (a b : Bool) → (a || b) ≡ false → b ≡ false
    later true b f = absurd (true≢false f)
    later false b f = f

limit_small : (kind : WordKind) → limit_of kind ≤ 4096
limit_small (Words.Unary Neg) = omega arith
limit_small (Words.Order _) = omega arith
limit_small (Words.Arith _) = omega arith
limit_small (Words.Division _) = omega arith
limit_small _ = omega arith

not_cut : (n : ℕ) → n ≤ 4096 → small n ≡ n
not_cut n le = omega arith

-- the output of a combinational cell that fits its kind is as wide as its shape says
pub output_wide : (own : CellKind) (c : Cell) → combinational (Some own) ≡ Some own → misfit own c ≡ None → length (signal_at c.pins (pin_text Y)) ≡ (cell_shape own c.params).widths.y
unfolding cell_shape
output_wide (Word kind) c word fit =
    let narrow : is_wide_pin kind (given_params c.params) Y ≡ false = any_in (is_wide_pin kind (given_params c.params)) Y (word_pins kind) (word_output kind) (not_wide (Word kind) c fit) in
    let low : pin_width (Word kind) (given_params c.params) Y ≤ limit_of kind = ltb-false (limit_of kind) (pin_width (Word kind) (given_params c.params) Y) narrow in
    let limit = limit_small kind in
    pin_fits (Word kind) c Y word fit (word_output kind) ∙ sym (not_cut (pin_width (Word kind) (given_params c.params) Y) (omega arith))
output_wide (Gate kind) c word fit = pin_fits (Gate kind) c Y word fit (gate_output kind)
output_wide (Storage kind) c word fit = absurd (cc)
output_wide (StorageGate gate) c word fit = absurd (cc)
output_wide (Memory kind) c word fit = absurd (cc)

-- a signal cut or filled up has the width
pub extended-length : (bits : List SigBit) (width : ℕ) (signed : Bool) → length (extended bits width signed) ≡ width
extended-length bits width signed =
    length-append (take width bits) (replicate (width - length bits) (fill_of bits signed)) ∙ omega (arith, length-take width bits, length-replicate (width - length bits) (fill_of bits signed))

gate_one : (kind : GateKind) (c : Cell) → (cell_shape (Gate kind) c.params).widths.y ≡ 1
unfolding cell_shape
gate_one kind c = refl

-- the value of a cell that fits its kind can be computed
pub is_computed : (own : CellKind) (c : Cell) (o : Operands) → combinational (Some own) ≡ Some own → misfit own c ≡ None → o.a ≡ signal_at c.pins (pin_text A) → o.b ≡ signal_at c.pins (pin_text B) → o.s ≡ signal_at c.pins (pin_text S)
    → IsComputed (cell_shape own c.params).kind (cell_shape own c.params) o
is_computed own c o word fit a b s = subst (λ k. IsComputed k (cell_shape own c.params) o) (sym (shape_kind own c)) (by own word fit)
  where
    by : (own : CellKind) → combinational (Some own) ≡ Some own → misfit own c ≡ None → IsComputed own (cell_shape own c.params) o
    by (Word kind) w f = computed c (map constant_of o.a) (map constant_of o.b) (map constant_of o.s) (length-map o.a constant_of ∙ ap length a) (length-map o.b constant_of ∙ ap length b) (length-map o.s constant_of ∙ ap length s) kind f
    by (Gate kind) w f = gate_one kind c
    by (Storage kind) w f = absurd (cc)
    by (StorageGate gate) w f = absurd (cc)
    by (Memory kind) w f = absurd (cc)

-- the operands of a cell that works bit by bit are meant as wide as its output
meant_long : (shape : Shape) (a b x : List SigBit) (kind : BitwiseKind) → counted_as shape.kind ≡ Some (Words.Bitwise kind) → length (meant_of shape a b x) ≡ shape.widths.y
meant_long shape a b x kind e =
    ap (λ k. length (meant_as k shape a b x)) e ∙ extended-length x shape.widths.y (meant_signed (Words.Bitwise kind) shape)

module _ (c : Cell) (o : Operands) (a : o.a ≡ signal_at c.pins (pin_text A)) (b : o.b ≡ signal_at c.pins (pin_text B)) (s : o.s ≡ signal_at c.pins (pin_text S)) where
  bitwise_wide : (shape : Shape) (kind : BitwiseKind) → counted_as shape.kind ≡ Some (Words.Bitwise kind) → o.left ≡ meant_of shape o.a o.b o.a → o.right ≡ meant_of shape o.a o.b o.b → (length o.left ≡ shape.widths.y) × (length o.right ≡ shape.widths.y)
  bitwise_wide shape kind e l r = (ap length l ∙ meant_long shape o.a o.b o.a kind e, ap length r ∙ meant_long shape o.a o.b o.b kind e)

  word_wide : (kind : WordKind) → misfit (Word kind) c ≡ None → o.left ≡ meant_of (cell_shape (Word kind) c.params) o.a o.b o.a → o.right ≡ meant_of (cell_shape (Word kind) c.params) o.a o.b o.b → AreWide kind (cell_shape (Word kind) c.params) o
  word_wide (Words.Bitwise kind) fit l r = bitwise_wide (cell_shape (Word (Words.Bitwise kind)) c.params) kind (ap counted_as (shape_kind (Word (Words.Bitwise kind)) c)) l r
  word_wide Words.Mux fit l r =
      let out = sym (pin_fits (Word Words.Mux) c Y refl fit (inr (inr (inr (inl refl))))) ∙ output_wide (Word Words.Mux) c refl fit in
      (ap length a ∙ pin_fits (Word Words.Mux) c A refl fit (inl refl) ∙ out, ap length b ∙ pin_fits (Word Words.Mux) c B refl fit (inr (inl refl)) ∙ out, ap length s ∙ pin_fits (Word Words.Mux) c S refl fit (inr (inr (inl refl))))
  word_wide Words.Pmux fit l r =
      let out = sym (pin_fits (Word Words.Pmux) c Y refl fit (inr (inr (inr (inl refl))))) ∙ output_wide (Word Words.Pmux) c refl fit in
      let all = pin_fits (Word Words.Pmux) c B refl fit (inr (inl refl)) in
      let parts = pin_fits (Word Words.Pmux) c S refl fit (inr (inr (inl refl))) in (
        ap length a ∙ pin_fits (Word Words.Pmux) c A refl fit (inl refl) ∙ out,
        λ one. ap length b ∙ all ∙ once (number_in (given_params c.params) Width) (number_in (given_params c.params) SWidth) (sym parts ∙ sym (ap length s) ∙ one) ∙ out,
      )
    where
      once : (w n : ℕ) → n ≡ 1 → w * n ≡ w
      once w n e = rw e (omega arith)
  word_wide kind fit l r = tt

  gate_wide : (kind : GateKind) → misfit (Gate kind) c ≡ None → o.left ≡ meant_of (cell_shape (Gate kind) c.params) o.a o.b o.a → o.right ≡ meant_of (cell_shape (Gate kind) c.params) o.a o.b o.b → AreWideAs (counted_gate kind) (cell_shape (Gate kind) c.params) o
  gate_wide Gates.And fit l r = bitwise_wide (cell_shape (Gate Gates.And) c.params) Bits.And (ap counted_as (shape_kind (Gate Gates.And) c)) l r
  gate_wide Gates.Or fit l r = bitwise_wide (cell_shape (Gate Gates.Or) c.params) Bits.Or (ap counted_as (shape_kind (Gate Gates.Or) c)) l r
  gate_wide Gates.Xor fit l r = bitwise_wide (cell_shape (Gate Gates.Xor) c.params) Bits.Xor (ap counted_as (shape_kind (Gate Gates.Xor) c)) l r
  gate_wide Gates.Xnor fit l r = bitwise_wide (cell_shape (Gate Gates.Xnor) c.params) Bits.Xnor (ap counted_as (shape_kind (Gate Gates.Xnor) c)) l r
  gate_wide Gates.Mux fit l r =
      let out : 1 ≡ (cell_shape (Gate Gates.Mux) c.params).widths.y = sym (gate_one Gates.Mux c) in
      (ap length a ∙ pin_fits (Gate Gates.Mux) c A refl fit (inl refl) ∙ out, ap length b ∙ pin_fits (Gate Gates.Mux) c B refl fit (inr (inl refl)) ∙ out, ap length s ∙ pin_fits (Gate Gates.Mux) c S refl fit (inr (inr (inl refl))))
  gate_wide kind fit l r = tt

  -- the operands are as wide as new cells ask
  pub all_wide : (own : CellKind) → combinational (Some own) ≡ Some own → misfit own c ≡ None → o.left ≡ meant_of (cell_shape own c.params) o.a o.b o.a → o.right ≡ meant_of (cell_shape own c.params) o.a o.b o.b
      → AreWideAs (counted_as (cell_shape own c.params).kind) (cell_shape own c.params) o
  all_wide own word fit l r = subst (λ k. AreWideAs (counted_as k) (cell_shape own c.params) o) (sym (shape_kind own c)) (by own word fit l r)
    where
      by : (own : CellKind) → combinational (Some own) ≡ Some own → misfit own c ≡ None → o.left ≡ meant_of (cell_shape own c.params) o.a o.b o.a → o.right ≡ meant_of (cell_shape own c.params) o.a o.b o.b → AreWideAs (counted_as own) (cell_shape own c.params) o
      by (Word kind) w f l r = word_wide kind f l r
      by (Gate kind) w f l r = gate_wide kind f l r
      by (Storage kind) w f l r = absurd (cc)
      by (StorageGate gate) w f l r = absurd (cc)
      by (Memory kind) w f l r = absurd (cc)

-- a width of a word cell is within the limits
y_within : (kind : WordKind) (w : Widths) (offset : ℕ) → AreWordWidths kind w offset → (0 < w.y) × (w.y ≤ 4096)
y_within (Words.Unary kind) w offset h = let l = limit_small (Words.Unary kind) in let y = h.1 in (y.0, omega (arith, y.1))
y_within (Words.Fold kind) w offset h = h.1
y_within (Words.Bitwise kind) w offset h = h.2
y_within (Words.Logic kind) w offset h = h.2
y_within (Words.Equal kind) w offset h = h.2
y_within (Words.Order kind) w offset h = let y = h.2 in (y.0, omega (arith, y.1))
y_within (Words.Arith kind) w offset h = let y = h.2 in (y.0, omega (arith, y.1))
y_within (Words.Division kind) w offset h = let y = h.2 in (y.0, omega (arith, y.1))
y_within (Words.Shift kind) w offset h = h.2
y_within Words.Mux w offset h = let a = h.0 in let e = h.3 in (omega (arith, a.0, e), omega (arith, a.1, e))
y_within Words.Pmux w offset h = let a = h.0 in let e = h.3 in (omega (arith, a.0, e), omega (arith, a.1, e))
y_within Words.Slice w offset h = h.0.1
y_within Words.Concat w offset h = let a = h.0 in let e = h.2 in (omega (arith, a.0, e), h.3)
y_within Words.Buf w offset h = let a = h.0 in let e = h.1 in (omega (arith, a.0, e), omega (arith, a.1, e))
y_within Words.Bwmux w offset h = let a = h.0 in let e = h.3 in (omega (arith, a.0, e), omega (arith, a.1, e))
y_within Words.Bmux w offset h = h.0
y_within Words.Demux w offset h =
    let a = h.0 in
    let e = h.2 in
    let more : w.a ≤ w.a * 2 ^ w.s = le-mul_of_pos_right w.a (pow_pos w.s) in
    (omega (arith, a.0, e, more), h.3)

word_bounds : (kind : WordKind) (c : Cell) → misfit (Word kind) c ≡ None → (0 < (cell_shape (Word kind) c.params).widths.y) × ((cell_shape (Word kind) c.params).widths.y ≤ 4096)
unfolding misfit cell_shape
word_bounds kind c fit = y_within kind _ _ (made_bounds (Word kind) (given_params c.params) (pin_widths c.pins) fit)

-- a new cell of the shape that a rule asks is well formed in the cell's place
pub is_formed : (own : CellKind) (c : Cell) (new : NewCell) → combinational (Some own) ≡ Some own → misfit own c ≡ None → IsShaped (cell_shape own c.params) new → IsFormed c new
is_formed own c new word fit (Inverter k b s wide) =
    subst (IsFormed c) (λ i. record { kind = sym (k ∙ ap inverter_kind (shape_kind own c)) i; a = new.a; b = sym b i; s = sym s i }) (by own word fit wide)
  where
    by : (own : CellKind) → combinational (Some own) ≡ Some own → misfit own c ≡ None → length new.a ≡ (cell_shape own c.params).widths.y → IsFormed c (record { kind = inverter_kind own; a = new.a; b = []; s = [] })
    by (Word kind) w f h =
        let out = output_wide (Word kind) c refl f in
        let bound = word_bounds kind c f in
        word_inverter c new.a [] [] (h ∙ sym out) (omega (arith, bound.0, out)) (omega (arith, bound.1, out))
    by (Gate kind) w f h =
        let out = output_wide (Gate kind) c refl f in
        gate_inverter c new.a [] [] (h ∙ sym out) (out ∙ gate_one kind c)
    by (Storage kind) w f h = absurd (cc)
    by (StorageGate gate) w f h = absurd (cc)
    by (Memory kind) w f h = absurd (cc)
is_formed own c new word fit (Chooser k wide high long) =
    subst (IsFormed c) (λ i. record { kind = sym (k ∙ ap chooser_kind (shape_kind own c)) i; a = new.a; b = new.b; s = new.s }) (by own word fit wide high)
  where
    by : (own : CellKind) → combinational (Some own) ≡ Some own → misfit own c ≡ None → length new.a ≡ (cell_shape own c.params).widths.y → length new.b ≡ (cell_shape own c.params).widths.y → IsFormed c (record { kind = chooser_kind own; a = new.a; b = new.b; s = new.s })
    by (Word kind) w f h h' =
        let out = output_wide (Word kind) c refl f in
        let bound = word_bounds kind c f in
        word_chooser c new.a new.b new.s (h ∙ sym out) (h' ∙ sym out) long (omega (arith, bound.0, out)) (omega (arith, bound.1, out))
    by (Gate kind) w f h h' =
        let out = output_wide (Gate kind) c refl f in
        gate_chooser c new.a new.b new.s (h ∙ sym out) (h' ∙ sym out) long (out ∙ gate_one kind c)
    by (Storage kind) w f h h' = absurd (cc)
    by (StorageGate gate) w f h h' = absurd (cc)
    by (Memory kind) w f h h' = absurd (cc)
