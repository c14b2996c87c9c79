-- Each rule says no less, and so does the first that fits.
use Rattle.std.proofs.Common.{◌≡◌, ℕ, ◌<◌, Bool, false, List, [], ◌∷◌, map, Option, Some, None, refl, sym, ◌∙◌, ap, subst, arith}
use Rattle.std.specs.Prelude.{slice_index_or}
use Rattle.rtl_bits.proofs.Orders.{Below_from_equal, Below_trans}
use Rattle.rtl_bits.proofs.Tables.{and_of_mono, not_of_mono, or_of_mono, seen_of_mono, xor_of_mono}
use Rattle.rtl_bits.specs.Knowledge.{Below}
use Rattle.rtl_bits.specs.Tables.{mux_of, not_of, seen_of}
use Rattle.rtl_bits.specs.declared.bit.Bit.{Bit}
use Rattle.rtl_bits.specs.declared.bit.Bit.TheVariants.{S0, X}
use Rattle.rtl_sig.specs.declared.sig.SigBit.{SigBit}
use Rattle.rtl_sig.specs.declared.sig.SigBit.TheVariants.{Fixed}
use Rattle.cell_gate.specs.Gates.{output_of}
use Rattle.cell_types.specs.declared.gate.GateKind.{GateKind}
use Rattle.cell_types.specs.declared.gate.GateKind.TheVariants as GateOf
use Rattle.cell_types.specs.declared.kind.CellKind.{CellKind}
use Rattle.cell_types.specs.declared.kind.CellKind.TheVariants.{Word, Gate}
use Rattle.cell_types.specs.declared.shape.Shape.{Shape}
use Rattle.cell_types.specs.declared.word.BitwiseKind.{BitwiseKind}
use Rattle.cell_types.specs.declared.word.BitwiseKind.TheVariants as Bits
use Rattle.cell_types.specs.declared.word.UnaryKind.TheVariants.{Not, Pos}
use Rattle.cell_types.specs.declared.word.WordKind.{WordKind}
use Rattle.cell_types.specs.declared.word.WordKind.TheVariants.{Unary, Bitwise, Mux}
use Rattle.cell_word.specs.Bitwise.{bit_by}
use Rattle.cell_word.specs.Values as words
use Rattle.cell_word.specs.Values.{both_signed}
use Rattle.cell_word.specs.Words.{extended_at}
use Rattle.net_model.specs.Value.{worked_of}
use Rattle.expr_rules.specs.Change.{fitted}
use Rattle.expr_rules.specs.Laws.{IsComputed, IsReading, KnowsInverters, Refines, SaysAll, output_at, words_read}
use Rattle.expr_rules.specs.Operands.{IsMeant, counted_as, counted_gate, meant_as}
use Rattle.expr_rules.specs.Rules.{change_of, first_of, result_as, result_by, result_of, result_of_gate, rules_in_order}
use Rattle.expr_rules.specs.Rules.Arith.{add_zero, divide_by_power, equal_difference, mul_by_bit, mul_by_power}
use Rattle.expr_rules.specs.Rules.Compare.{compare}
use Rattle.expr_rules.specs.Rules.Fold.{one_bit}
use Rattle.expr_rules.specs.Rules.Logic.{and_with_ones, double_not, equal_operands, equal_parity, or_with_zeros, xor_with_ones}
use Rattle.expr_rules.specs.Rules.Mux.{equal_arms, equal_words, inverted_select, known_select, known_selects, select_inverse, select_itself, unknown_arm}
use Rattle.expr_rules.specs.Rules.Parts.{known_part, known_place}
use Rattle.expr_rules.specs.Rules.Shift.{known_shift}
use Rattle.expr_rules.specs.Rules.Wiring.{buffer, wiring}
use Rattle.expr_rules.specs.declared.change.Change.{Change}
use Rattle.expr_rules.specs.declared.change.Change.TheVariants.{Gives, Becomes}
use Rattle.expr_rules.specs.declared.operands.Operands.{Operands}
use Rattle.expr_rules.specs.declared.rules.Rule.{Rule}
use Rattle.expr_rules.specs.declared.rules.Rule.TheVariants as By
use Rattle.expr_rules.proofs.ArithLaws.{add_zero_says, equal_difference_says, mul_by_bit_says, mul_by_power_says}
use Rattle.expr_rules.proofs.Cases.{first_case, map_case}
use Rattle.expr_rules.proofs.CompareLaws.{compare_says}
use Rattle.expr_rules.proofs.ConstantLaws.{constant_inputs_says, known_value_says}
use Rattle.expr_rules.proofs.DivisionLaws.{divide_by_power_says}
use Rattle.expr_rules.proofs.FoldLaws.{one_bit_says}
use Rattle.expr_rules.proofs.LogicLaws.{and_with_ones_says, double_not_says, equal_operands_says, equal_parity_says, or_with_zeros_says, xor_with_ones_says}
use Rattle.expr_rules.proofs.MuxLaws.{equal_arms_says, equal_words_says, known_selects_says, inverted_select_says, known_select_says, select_inverse_says, select_itself_says, unknown_arm_says}
use Rattle.expr_rules.proofs.PartLaws.{known_part_says, known_place_says}
use Rattle.expr_rules.proofs.Reading.{extended_below, extended_bit, read_word, word_at}
use Rattle.expr_rules.proofs.Says.{IsMeantAs, IsNarrow, RuleSays, WordSays, bit_of}
use Rattle.expr_rules.proofs.ShiftLaws.{known_shift_says}
use Rattle.expr_rules.proofs.WiringLaws.{buffer_says, wiring_says}

narrow_of : (kind : CellKind) (shape : Shape) (o : Operands) → IsComputed kind shape o → IsNarrow kind shape.widths.y
narrow_of (Gate kind) shape o c = c
narrow_of kind shape o c = tt

module _ (f : SigBit → Bit) (fixed : IsReading f) (shape : Shape) (o : Operands) where
  -- a bit of an input, as it is extended
  input_below : (signed : Bool) (word : List SigBit) → Below (slice_index_or (map f word) 0 X) (extended_at signed (map f word) 0)
  input_below signed word = subst (λ z. Below z (extended_at signed (map f word) 0)) (sym (read_word f fixed word 0)) (extended_below f fixed signed word 0)

  bits_below : (kind : BitwiseKind) → 0 < shape.widths.y → Below (bit_by kind (slice_index_or (map f o.a) 0 X) (slice_index_or (map f o.b) 0 X)) (bit_of f shape o (Bitwise kind) 0)
  bits_below kind h =
      subst (Below (bit_by kind (slice_index_or (map f o.a) 0 X) (slice_index_or (map f o.b) 0 X)))
      (sym (word_at (λ at. bit_by kind (extended_at (both_signed shape) (map f o.a) at) (extended_at (both_signed shape) (map f o.b) at)) shape.widths.y 0 h))
      (by kind)
    where
      a : Below (slice_index_or (map f o.a) 0 X) (extended_at (both_signed shape) (map f o.a) 0)
      a = input_below (both_signed shape) o.a

      b : Below (slice_index_or (map f o.b) 0 X) (extended_at (both_signed shape) (map f o.b) 0)
      b = input_below (both_signed shape) o.b

      by : (kind : BitwiseKind) → Below (bit_by kind (slice_index_or (map f o.a) 0 X) (slice_index_or (map f o.b) 0 X)) (bit_by kind (extended_at (both_signed shape) (map f o.a) 0) (extended_at (both_signed shape) (map f o.b) 0))
      by Bits.And = and_of_mono _ _ _ _ a b
      by Bits.Or = or_of_mono _ _ _ _ a b
      by Bits.Xor = xor_of_mono _ _ _ _ a b
      by Bits.Xnor = not_of_mono _ _ (xor_of_mono _ _ _ _ a b)

  -- a gate says no more than the word cell that it counts as
  gate_below : (gate : GateKind) (kind : WordKind) → counted_gate gate ≡ Some kind → 0 < shape.widths.y → Below (output_of gate (slice_index_or (map f o.a) 0 X) (slice_index_or (map f o.b) 0 X) (slice_index_or (map f o.s) 0 X)) (bit_of f shape o kind 0)
  gate_below GateOf.Buf kind e h =
      let k : Unary Pos ≡ kind = cc in
      subst (λ k. Below (seen_of (slice_index_or (map f o.a) 0 X)) (bit_of f shape o k 0)) k
      (subst (Below (seen_of (slice_index_or (map f o.a) 0 X))) (sym (word_at (λ at. seen_of (extended_at shape.signs.a (map f o.a) at)) shape.widths.y 0 h))
      (seen_of_mono _ _ (input_below shape.signs.a o.a)))
  gate_below GateOf.Not kind e h =
      let k : Unary Not ≡ kind = cc in
      subst (λ k. Below (not_of (slice_index_or (map f o.a) 0 X)) (bit_of f shape o k 0)) k
      (subst (Below (not_of (slice_index_or (map f o.a) 0 X))) (sym (word_at (λ at. not_of (extended_at shape.signs.a (map f o.a) at)) shape.widths.y 0 h))
      (not_of_mono _ _ (input_below shape.signs.a o.a)))
  gate_below GateOf.And kind e h =
      let k : Bitwise Bits.And ≡ kind = cc in
      subst (λ k. Below (bit_by Bits.And (slice_index_or (map f o.a) 0 X) (slice_index_or (map f o.b) 0 X)) (bit_of f shape o k 0)) k (bits_below Bits.And h)
  gate_below GateOf.Or kind e h =
      let k : Bitwise Bits.Or ≡ kind = cc in
      subst (λ k. Below (bit_by Bits.Or (slice_index_or (map f o.a) 0 X) (slice_index_or (map f o.b) 0 X)) (bit_of f shape o k 0)) k (bits_below Bits.Or h)
  gate_below GateOf.Xor kind e h =
      let k : Bitwise Bits.Xor ≡ kind = cc in
      subst (λ k. Below (bit_by Bits.Xor (slice_index_or (map f o.a) 0 X) (slice_index_or (map f o.b) 0 X)) (bit_of f shape o k 0)) k (bits_below Bits.Xor h)
  gate_below GateOf.Xnor kind e h =
      let k : Bitwise Bits.Xnor ≡ kind = cc in
      subst (λ k. Below (bit_by Bits.Xnor (slice_index_or (map f o.a) 0 X) (slice_index_or (map f o.b) 0 X)) (bit_of f shape o k 0)) k (bits_below Bits.Xnor h)
  gate_below GateOf.Mux kind e h =
      let k : Mux ≡ kind = cc in
      subst (λ k. Below (mux_of (slice_index_or (map f o.a) 0 X) (slice_index_or (map f o.b) 0 X) (slice_index_or (map f o.s) 0 X)) (bit_of f shape o k 0)) k
      (Below_from_equal _ _ (sym (word_at (λ at. mux_of (slice_index_or (map f o.a) at X) (slice_index_or (map f o.b) at X) (slice_index_or (map f o.s) 0 X)) shape.widths.y 0 h)))
  gate_below gate kind e h = absurd (cc)

  -- a bit of a cell says no more than that of the word cell that it counts as
  output_below_word : (own : CellKind) → shape.kind ≡ own → IsNarrow own shape.widths.y → (kind : WordKind) → counted_as own ≡ Some kind → (at : ℕ) → at < shape.widths.y → Below (worked_of own shape (words_read f o.a o.b o.s) at) (bit_of f shape o kind at)
  output_below_word (Word k) own n kind c at h =
      let same : k ≡ kind = cc in
      Below_from_equal _ _ (ap (λ own. slice_index_or (words.value_by own shape (words_read f o.a o.b o.s)) at X) own ∙ ap (λ k. bit_of f shape o k at) same)
  output_below_word (Gate gate) own n kind c at h =
      let z : 0 ≡ at = omega (arith, n) in
      subst (λ at. Below (worked_of (Gate gate) shape (words_read f o.a o.b o.s) at) (bit_of f shape o kind at)) z (gate_below gate kind c (omega (arith, n)))
  output_below_word own e n kind c at h = absurd (cc)

  module _ (narrow : IsNarrow shape.kind shape.widths.y) (meant : IsMeant shape o) (knows : KnowsInverters f o) where
    says_all : (kind : WordKind) → counted_as shape.kind ≡ Some kind → (change : Change) → WordSays f shape o kind change → SaysAll f shape o change
    says_all kind c (Gives word) says = λ at h. Below_trans _ _ _ (output_below_word shape.kind refl narrow kind c at h) (says at h)
    says_all kind c (Becomes cell) says = λ new e w at h. Below_trans _ _ _ (output_below_word shape.kind refl narrow kind c at h) (says new e w at h)

    meant_by : (kind : WordKind) → counted_as shape.kind ≡ Some kind → IsMeantAs kind shape o
    meant_by kind c = record {
      left = meant.left ∙ ap (λ k. meant_as k shape o.a o.b o.a) c;
      right = meant.right ∙ ap (λ k. meant_as k shape o.a o.b o.b) c;
    }

    -- a rule by the kind of word cell
    by_kind : (rule : WordKind → Option Change) → RuleSays f shape o rule → (kind : WordKind) → counted_as shape.kind ≡ Some kind → (change : Change) → rule kind ≡ Some change → SaysAll f shape o change
    by_kind rule says kind c change e = says_all kind c change (says kind (meant_by kind c) change e)

    word_rule_says : (rule : Rule) (kind : WordKind) → counted_as shape.kind ≡ Some kind → (change : Change) → result_by rule kind shape o ≡ Some change → SaysAll f shape o change
    word_rule_says By.ConstantInputs kind c change e = constant_inputs_says f fixed shape o narrow change e
    word_rule_says By.KnownValue kind c change e = known_value_says f fixed shape o narrow change e
    word_rule_says By.Buffer kind c change e = by_kind (λ kind. buffer kind o) (buffer_says f fixed shape o) kind c change e
    word_rule_says By.Wiring kind c change e = by_kind (λ kind. wiring kind shape o) (wiring_says f fixed shape o) kind c change e
    word_rule_says By.KnownSelect kind c change e = by_kind (λ kind. known_select kind o) (known_select_says f fixed shape o) kind c change e
    word_rule_says By.EqualArms kind c change e = by_kind (λ kind. equal_arms kind o) (equal_arms_says f fixed shape o) kind c change e
    word_rule_says By.UnknownArm kind c change e = by_kind (λ kind. unknown_arm kind o) (unknown_arm_says f fixed shape o) kind c change e
    word_rule_says By.SelectItself kind c change e = by_kind (λ kind. select_itself kind o) (select_itself_says f fixed shape o) kind c change e
    word_rule_says By.SelectInverse kind c change e = by_kind (λ kind. select_inverse kind shape.kind o) (select_inverse_says f fixed shape o shape.kind narrow) kind c change e
    word_rule_says By.InvertedSelect kind c change e = by_kind (λ kind. inverted_select kind shape.kind o) (inverted_select_says f fixed shape o shape.kind narrow knows) kind c change e
    word_rule_says By.AndWithOnes kind c change e = by_kind (λ kind. and_with_ones kind o) (and_with_ones_says f fixed shape o) kind c change e
    word_rule_says By.OrWithZeros kind c change e = by_kind (λ kind. or_with_zeros kind o) (or_with_zeros_says f fixed shape o) kind c change e
    word_rule_says By.EqualOperands kind c change e = by_kind (λ kind. equal_operands kind o) (equal_operands_says f fixed shape o) kind c change e
    word_rule_says By.EqualParity kind c change e = by_kind (λ kind. equal_parity kind shape o) (equal_parity_says f fixed shape o) kind c change e
    word_rule_says By.XorWithOnes kind c change e = by_kind (λ kind. xor_with_ones kind shape.kind o) (xor_with_ones_says f fixed shape o shape.kind narrow) kind c change e
    word_rule_says By.DoubleNot kind c change e = by_kind (λ kind. double_not kind shape o) (double_not_says f fixed shape o knows) kind c change e
    word_rule_says By.AddZero kind c change e = by_kind (λ kind. add_zero kind o) (add_zero_says f fixed shape o) kind c change e
    word_rule_says By.EqualDifference kind c change e = by_kind (λ kind. equal_difference kind shape o) (equal_difference_says f fixed shape o) kind c change e
    word_rule_says By.MulByBit kind c change e = by_kind (λ kind. mul_by_bit kind shape o) (mul_by_bit_says f fixed shape o) kind c change e
    word_rule_says By.MulByPower kind c change e = by_kind (λ kind. mul_by_power kind o) (mul_by_power_says f fixed shape o) kind c change e
    word_rule_says By.DivideByPower kind c change e = by_kind (λ kind. divide_by_power kind shape o) (divide_by_power_says f fixed shape o) kind c change e
    word_rule_says By.KnownShift kind c change e = by_kind (λ kind. known_shift kind shape o) (known_shift_says f fixed shape o) kind c change e
    word_rule_says By.Compare kind c change e = by_kind (λ kind. compare kind shape.kind shape o) (compare_says f fixed shape o shape.kind narrow) kind c change e
    word_rule_says By.OneBit kind c change e = by_kind (λ kind. one_bit kind shape.kind shape o) (one_bit_says f fixed shape o shape.kind narrow) kind c change e
    word_rule_says By.KnownSelects kind c change e = by_kind (λ kind. known_selects kind shape o) (known_selects_says f fixed shape o) kind c change e
    word_rule_says By.EqualWords kind c change e = by_kind (λ kind. equal_words kind o) (equal_words_says f fixed shape o) kind c change e
    word_rule_says By.KnownPart kind c change e = by_kind (λ kind. known_part kind shape o) (known_part_says f fixed shape o) kind c change e
    word_rule_says By.KnownPlace kind c change e = by_kind (λ kind. known_place kind o) (known_place_says f fixed shape o) kind c change e

    gate_rule_says : (rule : Rule) (change : Change) → result_of_gate rule shape o ≡ Some change → SaysAll f shape o change
    gate_rule_says By.ConstantInputs change e = constant_inputs_says f fixed shape o narrow change e
    gate_rule_says By.KnownValue change e = known_value_says f fixed shape o narrow change e
    gate_rule_says rule change e = absurd (cc)

    rule_says : (rule : Rule) (change : Change) → result_of rule shape o ≡ Some change → SaysAll f shape o change
    rule_says rule change e = by (counted_as shape.kind) refl e
      where
        by : (kind : Option WordKind) → counted_as shape.kind ≡ kind → result_as kind rule shape o ≡ Some change → SaysAll f shape o change
        by None c e = gate_rule_says rule change e
        by (Some kind) c e = word_rule_says rule kind c change e

    first_says : (rules : List Rule) (change : Change) → first_of rules shape o ≡ Some change → SaysAll f shape o change
    first_says [] change e = absurd (cc)
    first_says (rule ∷ rules) change e =
        first_case (SaysAll f shape o) change (result_of rule shape o) (first_of rules shape o) e (rule_says rule change) (first_says rules change)

    -- a result keeps its bits where it is cut or filled up
    fitted_says : (change : Change) → SaysAll f shape o change → SaysAll f shape o (fitted shape.widths.y change)
    fitted_says (Gives word) says = λ at h. subst (λ s. Below (output_at f shape o at) (f s)) (sym (extended_bit word shape.widths.y false at (Fixed S0) h)) (says at h)
    fitted_says (Becomes c) says = says

    all_say : (change : Change) → change_of shape o ≡ Some change → SaysAll f shape o change
    all_say change e =
        map_case (SaysAll f shape o) change (fitted shape.widths.y) (first_of rules_in_order shape o) e (λ first g. fitted_says first (first_says rules_in_order first g))

-- what comes in the place of a cell refines it
pub change_refines : (shape : Shape) (o : Operands) → IsComputed shape.kind shape o → IsMeant shape o → (change : Change) → change_of shape o ≡ Some change → Refines shape o change
change_refines shape o c m change e f fixed knows = all_say f fixed shape o (narrow_of shape.kind shape o c) m knows change e

-- and so does what one rule puts there
pub rule_refines : (rule : Rule) (shape : Shape) (o : Operands) → IsComputed shape.kind shape o → IsMeant shape o → (change : Change) → result_of rule shape o ≡ Some change → Refines shape o change
rule_refines rule shape o c m change e f fixed knows = rule_says f fixed shape o (narrow_of shape.kind shape o c) m knows rule change e
