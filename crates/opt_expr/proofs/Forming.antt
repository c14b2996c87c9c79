-- The cells that rules form fit their kinds.
use Rattle.std.proofs.Common.{◌≡◌, ℕ, ◌<◌, ◌≤◌, Bool, true, false, List, [], ◌∷◌, length, Some, None, ◌⊎◌, inl, inr, refl, sym, ◌∙◌, ap, subst, arith}
use Rattle.std.specs.Prelude.{◌==◌, ◌||◌, nat_lt}
use Rattle.std.proofs.lemmas.Bool.{eq-eqb, lt-ltb}
use Rattle.cell_types.specs.declared.gate.GateKind.TheVariants as gate
use Rattle.cell_types.specs.declared.kind.CellKind.TheVariants.{Word, Gate}
use Rattle.cell_types.specs.declared.param_name.ParamName.TheVariants.{ASigned, AWidth, YWidth, Width}
use Rattle.cell_types.specs.declared.pin_name.PinName.TheVariants.{A, B, S, Y}
use Rattle.cell_types.specs.declared.word.UnaryKind.TheVariants.{Not}
use Rattle.cell_types.specs.declared.word.WordKind.TheVariants.{Unary, Mux}
use Rattle.cell_types.specs.Fault.{fault_of}
use Rattle.cell_types.specs.ParamName.{param_text}
use Rattle.cell_types.specs.PinName.{pin_text}
use Rattle.cell_types.specs.Shape.{small}
use Rattle.rtl_bits.specs.Knowledge.{all_known}
use Rattle.rtl_bits.specs.Numbers.{number_of}
use Rattle.rtl_bits.specs.declared.bit.Bit.{Bit}
use Rattle.rtl_ir.specs.Constants.{low_bits}
use Rattle.rtl_ir.specs.Faults.Cells.{has_constant_output, misfit}
use Rattle.rtl_ir.specs.Flat.Cell.{cell_kind, cell_shape}
use Rattle.rtl_ir.specs.Parameters.{signal_at}
use Rattle.rtl_ir.specs.Signals.{has_constant}
use Rattle.rtl_ir.specs.Types.{Library}
use Rattle.rtl_ir.specs.declared.cell.Cell.{Cell}
use Rattle.rtl_ir.specs.declared.cell.Pin.{Pin}
use Rattle.rtl_sig.specs.declared.sig.SigBit.{SigBit}
use Rattle.net_model.specs.Within.{CellIn, SigIn}
use Rattle.expr_rules.specs.declared.change.NewCell.{NewCell}
use Rattle.opt_expr.specs.Formed.{formed}
use Rattle.opt_expr.specs.Places.{combinational}
use Rattle.pass_laws.proofs.CellNumbers.{number_known, number_is}

-- a new cell in the place of another is one of its kind, has its signals, and the other's output
pub record IsFormed (c : Cell) (new : NewCell) : Type 0 where
  pub kind : cell_kind (formed new c) ≡ Some new.kind
  pub word : combinational (Some new.kind) ≡ Some new.kind
  pub fit : misfit new.kind (formed new c) ≡ None
  pub wires : has_constant (signal_at c.pins (pin_text Y)) ≡ false → has_constant_output (Library new.kind) (formed new c).pins ≡ false
  pub output : signal_at (formed new c).pins (pin_text Y) ≡ signal_at c.pins (pin_text Y)
  pub at_a : signal_at (formed new c).pins (pin_text A) ≡ new.a
  pub at_b : signal_at (formed new c).pins (pin_text B) ≡ new.b
  pub at_s : signal_at (formed new c).pins (pin_text S) ≡ new.s
  pub width : (cell_shape new.kind (formed new c).params).widths.y ≡ length (signal_at c.pins (pin_text Y))
  pub within : (n : ℕ) → SigIn n new.a → SigIn n new.b → SigIn n new.s → SigIn n (signal_at c.pins (pin_text Y)) → CellIn n (formed new c)

-- an inverter of words, with its three parameters
not_fits : (z va vy : List Bit) (la ly n : ℕ) → all_known z ≡ true → all_known va ≡ true → all_known vy ≡ true → number_of va ≡ n → number_of vy ≡ n → la ≡ n → ly ≡ n → 0 < n → n ≤ 4096
    → fault_of (Word (Unary Not)) (record { name = param_text ASigned; value = z } ∷ record { name = param_text AWidth; value = va } ∷ record { name = param_text YWidth; value = vy } ∷ [])
    (record { name = pin_text A; width = la } ∷ record { name = pin_text Y; width = ly } ∷ []) ≡ None
not_fits z va vy la ly n kz ka ky na ny ea ey some few =
    let positive : nat_lt 0 n ≡ true = lt-ltb 0 n some in
    let narrow : nat_lt 4096 n ≡ false = grind arith in
    let same : (n == n) ≡ true = eq-eqb n n refl in
    rw (kz, ka, ky, na, ny, ea, ey, positive, narrow, same) refl

-- a multiplexer of words, with its one parameter
mux_fits : (v : List Bit) (la lb ls ly n : ℕ) → all_known v ≡ true → number_of v ≡ n → la ≡ n → lb ≡ n → ls ≡ 1 → ly ≡ n → 0 < n → n ≤ 4096
    → fault_of (Word Mux) (record { name = param_text Width; value = v } ∷ [])
    (record { name = pin_text A; width = la } ∷ record { name = pin_text B; width = lb } ∷ record { name = pin_text S; width = ls } ∷ record { name = pin_text Y; width = ly } ∷ []) ≡ None
mux_fits v la lb ls ly n k e ea eb es ey some few =
    let positive : nat_lt 0 n ≡ true = lt-ltb 0 n some in
    let narrow : nat_lt 4096 n ≡ false = grind arith in
    let same : (n == n) ≡ true = eq-eqb n n refl in
    rw (k, e, ea, eb, es, ey, positive, narrow, same) refl

gate_not_fits : (la ly : ℕ) → la ≡ 1 → ly ≡ 1 → fault_of (Gate gate.Not) [] (record { name = pin_text A; width = la } ∷ record { name = pin_text Y; width = ly } ∷ []) ≡ None
gate_not_fits la ly ea ey = rw (ea, ey) refl

gate_mux_fits : (la lb ls ly : ℕ) → la ≡ 1 → lb ≡ 1 → ls ≡ 1 → ly ≡ 1
    → fault_of (Gate gate.Mux) [] (record { name = pin_text A; width = la } ∷ record { name = pin_text B; width = lb } ∷ record { name = pin_text S; width = ls } ∷ record { name = pin_text Y; width = ly } ∷ []) ≡ None
gate_mux_fits la lb ls ly ea eb es ey = rw (ea, eb, es, ey) refl

or_none : (t : Bool) → t ≡ false → (t || false) ≡ false
or_none t e = rw e refl

two_within : (n : ℕ) (a y : Pin) → SigIn n a.sig → SigIn n y.sig → (pin : Pin) → (pin ≡ a) ⊎ ((pin ≡ y) ⊎ ⊥) → SigIn n pin.sig
two_within n a y h k pin (inl e) = subst (λ (q : Pin). SigIn n q.sig) (sym e) h
two_within n a y h k pin (inr (inl e)) = subst (λ (q : Pin). SigIn n q.sig) (sym e) k
two_within n a y h k pin (inr (inr i)) = absurd i

four_within : (n : ℕ) (a b s y : Pin) → SigIn n a.sig → SigIn n b.sig → SigIn n s.sig → SigIn n y.sig → (pin : Pin) → (pin ≡ a) ⊎ ((pin ≡ b) ⊎ ((pin ≡ s) ⊎ ((pin ≡ y) ⊎ ⊥))) → SigIn n pin.sig
four_within n a b s y ha hb hs hy pin (inl e) = subst (λ (q : Pin). SigIn n q.sig) (sym e) ha
four_within n a b s y ha hb hs hy pin (inr (inl e)) = subst (λ (q : Pin). SigIn n q.sig) (sym e) hb
four_within n a b s y ha hb hs hy pin (inr (inr (inl e))) = subst (λ (q : Pin). SigIn n q.sig) (sym e) hs
four_within n a b s y ha hb hs hy pin (inr (inr (inr (inl e)))) = subst (λ (q : Pin). SigIn n q.sig) (sym e) hy
four_within n a b s y ha hb hs hy pin (inr (inr (inr (inr i)))) = absurd i

module _ (c : Cell) (a b s : List SigBit) where
  abbrev y : List SigBit
  y = signal_at c.pins (pin_text Y)

  -- the four kinds
  pub word_inverter : length a ≡ length (signal_at c.pins (pin_text Y)) → 0 < length (signal_at c.pins (pin_text Y)) → length (signal_at c.pins (pin_text Y)) ≤ 4096 → IsFormed c (record { kind = Word (Unary Not); a = a; b = []; s = [] })
  unfolding cell_kind cell_shape misfit
  word_inverter wide some few = record {
    kind = refl;
    word = refl;
    fit = not_fits (low_bits 0 32) (low_bits (length a) 32) (low_bits (length y) 32) (length a) (length y) (length y) (number_known 0) (number_known (length a)) (number_known (length y)) (number_is (length a) (omega arith) ∙ wide) (number_is (length y) few) wide refl some few;
    wires = λ h. or_none (has_constant y) h;
    output = refl;
    at_a = refl;
    at_b = refl;
    at_s = refl;
    width = ap small (number_is (length y) few) ∙ small_is (length y) few;
    within = λ n h k l o pin i. two_within n _ _ h o pin i;
  }
    where
      small_is : (n : ℕ) → n ≤ 4096 → small n ≡ n
      small_is n le = omega arith

  pub gate_inverter : length a ≡ length (signal_at c.pins (pin_text Y)) → length (signal_at c.pins (pin_text Y)) ≡ 1 → IsFormed c (record { kind = Gate gate.Not; a = a; b = []; s = [] })
  unfolding cell_kind cell_shape misfit
  gate_inverter wide one = record {
    kind = refl;
    word = refl;
    fit = gate_not_fits (length a) (length y) (wide ∙ one) one;
    wires = λ h. or_none (has_constant y) h;
    output = refl;
    at_a = refl;
    at_b = refl;
    at_s = refl;
    width = sym one;
    within = λ n h k l o pin i. two_within n _ _ h o pin i;
  }

  pub word_chooser : length a ≡ length (signal_at c.pins (pin_text Y)) → length b ≡ length (signal_at c.pins (pin_text Y)) → length s ≡ 1 → 0 < length (signal_at c.pins (pin_text Y)) → length (signal_at c.pins (pin_text Y)) ≤ 4096 → IsFormed c (record { kind = Word Mux; a = a; b = b; s = s })
  unfolding cell_kind cell_shape misfit
  word_chooser wide high long some few = record {
    kind = refl;
    word = refl;
    fit = mux_fits (low_bits (length y) 32) (length a) (length b) (length s) (length y) (length y) (number_known (length y)) (number_is (length y) few) wide high long refl some few;
    wires = λ h. or_none (has_constant y) h;
    output = refl;
    at_a = refl;
    at_b = refl;
    at_s = refl;
    width = ap small (number_is (length y) few) ∙ small_is (length y) few;
    within = λ n h k l o pin i. four_within n _ _ _ _ h k l o pin i;
  }
    where
      small_is : (n : ℕ) → n ≤ 4096 → small n ≡ n
      small_is n le = omega arith

  pub gate_chooser : length a ≡ length (signal_at c.pins (pin_text Y)) → length b ≡ length (signal_at c.pins (pin_text Y)) → length s ≡ 1 → length (signal_at c.pins (pin_text Y)) ≡ 1 → IsFormed c (record { kind = Gate gate.Mux; a = a; b = b; s = s })
  unfolding cell_kind cell_shape misfit
  gate_chooser wide high long one = record {
    kind = refl;
    word = refl;
    fit = gate_mux_fits (length a) (length b) (length s) (length y) (wide ∙ one) (high ∙ one) long one;
    wires = λ h. or_none (has_constant y) h;
    output = refl;
    at_a = refl;
    at_b = refl;
    at_s = refl;
    width = sym one;
    within = λ n h k l o pin i. four_within n _ _ _ _ h k l o pin i;
  }
