-- The rules for cells whose value is a constant say no less.
use Rattle.std.proofs.Common.{◌≡◌, ℕ, zero, suc, ◌<◌, true, List, [], ◌∷◌, map, Some, refl, sym, ◌∙◌, ap, subst, arith}
use Rattle.std.specs.Prelude.{slice_index_or, ◌&&◌}
use Rattle.std.specs.List.{list_all}
use Rattle.std.proofs.lemmas.Bool.{and_parts}
use Rattle.rtl_bits.proofs.Lists.{AreBelow_known, all_known_true}
use Rattle.rtl_bits.proofs.Orders.{Below_from_equal}
use Rattle.rtl_bits.specs.Knowledge.{AreBelow, Below, all_known}
use Rattle.rtl_bits.specs.declared.bit.Bit.{Bit}
use Rattle.rtl_bits.specs.declared.bit.Bit.TheVariants.{S0, X}
use Rattle.rtl_sig.specs.declared.sig.SigBit.{SigBit}
use Rattle.rtl_sig.specs.declared.sig.SigBit.TheVariants.{Fixed, Wire as OnWire}
use Rattle.rtl_ir.specs.Signals.{constant_of, is_all_constant, is_constant}
use Rattle.cell_types.specs.declared.kind.CellKind.{CellKind}
use Rattle.cell_types.specs.declared.kind.CellKind.TheVariants.{Gate}
use Rattle.cell_types.specs.declared.shape.Shape.{Shape}
use Rattle.cell_gate.proofs.Monotone.{output_below}
use Rattle.cell_word.proofs.Monotone.{word_value_below}
use Rattle.cell_word.specs.Values.{InputsBelow}
use Rattle.net_model.specs.Value.{worked_of}
use Rattle.expr_rules.specs.Laws.{IsReading, SaysAll, output_at, words_read}
use Rattle.expr_rules.specs.Rules.Constants.{constant_inputs, constant_value, known_value, value_by}
use Rattle.expr_rules.specs.Signals.{constants_of}
use Rattle.expr_rules.specs.declared.change.Change.{Change}
use Rattle.expr_rules.specs.declared.change.Change.TheVariants.{Gives}
use Rattle.expr_rules.specs.declared.operands.Operands.{Operands}
use Rattle.expr_rules.proofs.Cases.{when_case}
use Rattle.expr_rules.proofs.Says.{IsNarrow}

first_below : (as' bs : List Bit) → AreBelow as' bs → Below (slice_index_or as' 0 X) (slice_index_or bs 0 X)
first_below [] bs h = tt
first_below (a ∷ as') [] h = absurd h
first_below (a ∷ as') (b ∷ bs) h = h.0

-- the value of a cell keeps the order of knowledge
value_below : (kind : CellKind) (shape : Shape) (a b s a' b' s' : List Bit) → AreBelow a a' → AreBelow b b' → AreBelow s s' → AreBelow (value_by kind shape a b s) (value_by kind shape a' b' s')
value_below kind shape a b s a' b' s' ha hb hs = by kind
  where
    inputs : InputsBelow Below (a ∷ b ∷ s ∷ []) (a' ∷ b' ∷ s' ∷ [])
    inputs zero = ha
    inputs (suc zero) = hb
    inputs (suc (suc zero)) = hs
    inputs (suc (suc (suc at))) = tt

    by : (kind : CellKind) → AreBelow (value_by kind shape a b s) (value_by kind shape a' b' s')
    by (Gate gate) = (output_below gate _ _ _ _ _ _ (first_below a a' ha) (first_below b b' hb) (first_below s s' hs), tt)
    by kind = word_value_below shape (a ∷ b ∷ s ∷ []) (a' ∷ b' ∷ s' ∷ []) inputs

module _ (f : SigBit → Bit) (fixed : IsReading f) where
  constant_below : (b : SigBit) → Below (constant_of b) (f b)
  constant_below (Fixed c) = Below_from_equal c (f (Fixed c)) (sym (fixed c))
  constant_below (OnWire b) = tt

  constants_below : (word : List SigBit) → AreBelow (constants_of word) (map f word)
  constants_below [] = tt
  constants_below (b ∷ word) = (constant_below b, constants_below word)

  constant_is : (b : SigBit) → is_constant b ≡ true → constant_of b ≡ f b
  constant_is (Fixed c) e = sym (fixed c)
  constant_is (OnWire b) e = absurd (cc)

  constants_are : (word : List SigBit) → is_all_constant word ≡ true → constants_of word ≡ map f word
  constants_are [] e = refl
  constants_are (b ∷ word) e =
      let p = and_parts (is_constant b) (list_all is_constant word) e in
      let x : constant_of b ≡ f b = constant_is b p.0 in
      let y : constants_of word ≡ map f word = constants_are word p.1 in
      λ i. x i ∷ y i

  -- a word of constants is read as itself
  fixed_read : (word : List Bit) (at : ℕ) → Below (slice_index_or word at X) (f (slice_index_or (map Fixed word) at (Fixed S0)))
  fixed_read [] at = tt
  fixed_read (b ∷ word) zero = Below_from_equal b (f (Fixed b)) (sym (fixed b))
  fixed_read (b ∷ word) (suc at) = fixed_read word at

  module _ (shape : Shape) (o : Operands) (narrow : IsNarrow shape.kind shape.widths.y) where
    -- a bit of the output
    output_bit : (at : ℕ) → at < shape.widths.y → output_at f shape o at ≡ slice_index_or (value_by shape.kind shape (map f o.a) (map f o.b) (map f o.s)) at X
    output_bit at h = by shape.kind narrow
      where
        by : (kind : CellKind) → IsNarrow kind shape.widths.y → worked_of kind shape (words_read f o.a o.b o.s) at ≡ slice_index_or (value_by kind shape (map f o.a) (map f o.b) (map f o.s)) at X
        by (Gate gate) n =
            let z : at ≡ 0 = omega (arith, n) in
            sym (ap (λ k. slice_index_or (value_by (Gate gate) shape (map f o.a) (map f o.b) (map f o.s)) k X) z)
        by kind n = refl

    -- a word that the value equals
    value_says : (value : List Bit) → value_by shape.kind shape (map f o.a) (map f o.b) (map f o.s) ≡ value → SaysAll f shape o (Gives (map Fixed value))
    value_says value e at h =
        subst (λ z. Below z (f (slice_index_or (map Fixed value) at (Fixed S0)))) (sym (output_bit at h ∙ ap (λ v. slice_index_or v at X) e)) (fixed_read value at)

    pub constant_inputs_says : (change : Change) → constant_inputs shape o ≡ Some change → SaysAll f shape o change
    constant_inputs_says change e =
        when_case (SaysAll f shape o) change (is_all_constant o.a && (is_all_constant o.b && is_all_constant o.s)) (Gives (map Fixed (constant_value shape o))) e (λ t.
        let p = and_parts (is_all_constant o.a) (is_all_constant o.b && is_all_constant o.s) t in
        let q = and_parts (is_all_constant o.b) (is_all_constant o.s) p.1 in
        value_says (constant_value shape o) (sym (
        ap (λ z. value_by shape.kind shape z (constants_of o.b) (constants_of o.s)) (constants_are o.a p.0)
        ∙ ap (λ z. value_by shape.kind shape (map f o.a) z (constants_of o.s)) (constants_are o.b q.0)
        ∙ ap (λ z. value_by shape.kind shape (map f o.a) (map f o.b) z) (constants_are o.s q.1))))

    pub known_value_says : (change : Change) → known_value shape o ≡ Some change → SaysAll f shape o change
    known_value_says change e =
        when_case (SaysAll f shape o) change (all_known (constant_value shape o)) (Gives (map Fixed (constant_value shape o))) e (λ t.
        value_says (constant_value shape o)
        (AreBelow_known (constant_value shape o) (value_by shape.kind shape (map f o.a) (map f o.b) (map f o.s)) (all_known_true (constant_value shape o) t)
        (value_below shape.kind shape (constants_of o.a) (constants_of o.b) (constants_of o.s) (map f o.a) (map f o.b) (map f o.s) (constants_below o.a) (constants_below o.b) (constants_below o.s))))
