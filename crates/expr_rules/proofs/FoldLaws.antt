-- The rule for folds of one bit, and for `$pmux` of one, says no less.
use Rattle.std.proofs.Common.{◌≡◌, ℕ, zero, suc, ◌+◌, ◌-◌, ◌*◌, ◌<◌, List, [], ◌∷◌, length, map, Some, refl, sym, ◌∙◌, ap, subst, arith}
use Rattle.std.specs.Prelude.{slice_index_or, ◌&&◌, ◌==◌}
use Rattle.std.proofs.lemmas.Bool.{and_parts}
use Rattle.std.proofs.lemmas.List.{get_or-replicate}
use Rattle.rtl_bits.proofs.Orders.{Below_from_equal}
use Rattle.rtl_bits.proofs.Tables.{not_of_mono}
use Rattle.rtl_bits.specs.Knowledge.{Below}
use Rattle.rtl_bits.specs.Tables.{mux_of, not_of, seen_of}
use Rattle.rtl_bits.specs.declared.bit.Bit.{Bit}
use Rattle.rtl_bits.specs.declared.bit.Bit.TheVariants.{S0, S1, X}
use Rattle.rtl_sig.specs.declared.sig.SigBit.{SigBit}
use Rattle.rtl_sig.specs.declared.sig.SigBit.TheVariants.{Fixed}
use Rattle.cell_types.specs.declared.kind.CellKind.{CellKind}
use Rattle.cell_types.specs.declared.shape.Shape.{Shape}
use Rattle.cell_types.specs.declared.word.FoldKind.{FoldKind}
use Rattle.cell_types.specs.declared.word.FoldKind.TheVariants as Fold
use Rattle.cell_types.specs.declared.word.WordKind.TheVariants as Word
use Rattle.cell_word.specs.Choice.{picked_of}
use Rattle.cell_word.specs.Folds.{folded_of}
use Rattle.cell_word.specs.Words.{one_bit_of}
use Rattle.expr_rules.specs.Change.{chooser, inverter, when}
use Rattle.expr_rules.specs.Laws.{IsReading, read_at}
use Rattle.expr_rules.specs.Rules.Fold.{folded_bit, one_bit}
use Rattle.expr_rules.specs.declared.change.Change.{Change}
use Rattle.expr_rules.specs.declared.change.Change.TheVariants.{Gives}
use Rattle.expr_rules.specs.declared.operands.Operands.{Operands}
use Rattle.expr_rules.proofs.Cases.{when_case}
use Rattle.expr_rules.proofs.Reading.{read_word, word_at}
use Rattle.expr_rules.proofs.Sameness.{equal_numbers}
use Rattle.expr_rules.proofs.Says.{IsNarrow, RuleSays, WordSays, becomes_chooser, becomes_inverter}
use Rattle.expr_rules.proofs.Tables.{one_and, zero_or, zero_xor}

-- a word of one bit
pub one_of : {A : Type 0} (word : List A) → length word ≡ 1 → (d : A) → word ≡ slice_index_or word 0 d ∷ []
one_of [] e d = absurd (omega arith)
one_of (b ∷ []) e d = refl
one_of (b ∷ c ∷ word) e d = absurd (omega arith)

-- above bit 0 of a result of one bit there are zeros
pub above_bit : (v : Bit) (width at : ℕ) → suc at < width → slice_index_or (one_bit_of v width) (suc at) X ≡ S0
above_bit v width at h = get_or-replicate (width - 1) at S0 X (omega arith)

module _ (f : SigBit → Bit) (fixed : IsReading f) (shape : Shape) (o : Operands) where
  -- a result of one bit is no more than a bit, and zeros
  pub bit_says : (v : Bit) (b : SigBit) → Below v (f b) → (at : ℕ) → at < shape.widths.y → Below (slice_index_or (one_bit_of v shape.widths.y) at X) (f (slice_index_or (b ∷ []) at (Fixed S0)))
  bit_says v b below zero h = below
  bit_says v b below (suc at) h = Below_from_equal _ _ (above_bit v shape.widths.y at h ∙ sym (fixed S0))

  -- of one bit, and no more than an inverse
  pub inverse_says : (v : Bit) (word : List SigBit) → shape.widths.y ≡ 1 → Below v (not_of (read_at f word 0)) → (at : ℕ) → at < shape.widths.y → Below (slice_index_or (one_bit_of v shape.widths.y) at X) (not_of (read_at f word at))
  inverse_says v word one below zero h = below
  inverse_says v word one below (suc at) h = absurd (omega (arith, one))

  fold_one : (kind : FoldKind) → (r : Bit) → length o.a ≡ 1 → Below (folded_of kind (read_at f o.a 0 ∷ [])) r → Below (folded_of kind (map f o.a)) r
  fold_one kind r one h = subst (λ w. Below (folded_of kind (map f w)) r) (sym (one_of o.a one (Fixed X))) h

  -- a fold that gives its one bit
  fold_gives : (kind : FoldKind) → ((b : Bit) → Below (folded_of kind (b ∷ [])) b) → (change : Change) → when (length o.a == 1) (Gives o.a) ≡ Some change → WordSays f shape o (Word.Fold kind) change
  fold_gives kind below change e =
      when_case (WordSays f shape o (Word.Fold kind)) change (length o.a == 1) (Gives o.a) e (λ t at h.
      let one : length o.a ≡ 1 = equal_numbers (length o.a) 1 t in
      subst (λ w. Below (slice_index_or (one_bit_of (folded_of kind (map f o.a)) shape.widths.y) at X) (f (slice_index_or w at (Fixed S0)))) (sym (one_of o.a one (Fixed X)))
      (bit_says (folded_of kind (map f o.a)) (slice_index_or o.a 0 (Fixed X)) (fold_one kind (read_at f o.a 0) one (below (read_at f o.a 0))) at h))

  module _ (own : CellKind) (narrow : IsNarrow own shape.widths.y) where
    -- a fold that is the inverse of its one bit
    fold_inverts : (kind : FoldKind) → ((b : Bit) → Below (folded_of kind (b ∷ [])) (not_of b)) → (change : Change) → when ((length o.a == 1) && (shape.widths.y == 1)) (inverter own o.a) ≡ Some change → WordSays f shape o (Word.Fold kind) change
    fold_inverts kind below change e =
        when_case (WordSays f shape o (Word.Fold kind)) change ((length o.a == 1) && (shape.widths.y == 1)) (inverter own o.a) e (λ t.
        let p = and_parts (length o.a == 1) (shape.widths.y == 1) t in
        let one : length o.a ≡ 1 = equal_numbers (length o.a) 1 p.0 in
        let width : shape.widths.y ≡ 1 = equal_numbers shape.widths.y 1 p.1 in
        becomes_inverter f fixed shape o (Word.Fold kind) own narrow o.a
        (inverse_says (folded_of kind (map f o.a)) o.a width (fold_one kind (not_of (read_at f o.a 0)) one (below (read_at f o.a 0)))))

    fold_says : (kind : FoldKind) (change : Change) → folded_bit kind own shape o ≡ Some change → WordSays f shape o (Word.Fold kind) change
    fold_says Fold.And change e = fold_gives Fold.And one_and change e
    fold_says Fold.Or change e = fold_gives Fold.Or zero_or change e
    fold_says Fold.Xor change e = fold_gives Fold.Xor zero_xor change e
    fold_says Fold.Bool change e = fold_gives Fold.Bool zero_or change e
    fold_says Fold.Xnor change e = fold_inverts Fold.Xnor (λ b. not_of_mono _ _ (zero_xor b)) change e
    fold_says Fold.LogicNot change e = fold_inverts Fold.LogicNot (λ b. not_of_mono _ _ (zero_or b)) change e

    -- a choice of one part
    picked_below : (a b : List Bit) (s : Bit) (at : ℕ) → at < shape.widths.y → Below (slice_index_or (picked_of a b (s ∷ []) shape.widths.y) at X) (mux_of (slice_index_or a at X) (slice_index_or b at X) s)
    picked_below a b S0 at h =
        let z : 0 + at ≡ at = omega arith in
        Below_from_equal _ _ (word_at (λ at. seen_of (slice_index_or a (0 + at) X)) shape.widths.y at h ∙ ap (λ k. seen_of (slice_index_or a k X)) z)
    picked_below a b S1 at h =
        let z : 0 * shape.widths.y + at ≡ at = omega arith in
        Below_from_equal _ _ (word_at (λ at. seen_of (slice_index_or b (0 * shape.widths.y + at) X)) shape.widths.y at h ∙ ap (λ k. seen_of (slice_index_or b k X)) z)
    picked_below a b s at h = subst (λ z. Below z (mux_of (slice_index_or a at X) (slice_index_or b at X) s)) (sym (get_or-replicate shape.widths.y at X X h)) tt

    pub one_bit_says : RuleSays f shape o (λ kind. one_bit kind own shape o)
    one_bit_says (Word.Fold kind) m change e = fold_says kind change e
    one_bit_says Word.Pmux m change e =
        when_case (WordSays f shape o Word.Pmux) change (length o.s == 1) (chooser own o.a o.b o.s) e (λ t.
        let one : length o.s ≡ 1 = equal_numbers (length o.s) 1 t in
        becomes_chooser f fixed shape o Word.Pmux own narrow o.a o.b o.s (λ at h.
        subst (λ w. Below (slice_index_or (picked_of (map f o.a) (map f o.b) (map f w) shape.widths.y) at X) (mux_of (read_at f o.a at) (read_at f o.b at) (read_at f o.s 0))) (sym (one_of o.s one (Fixed X)))
        (subst (λ z. Below (slice_index_or (picked_of (map f o.a) (map f o.b) (read_at f o.s 0 ∷ []) shape.widths.y) at X) (mux_of z (read_at f o.b at) (read_at f o.s 0))) (read_word f fixed o.a at)
        (subst (λ z. Below (slice_index_or (picked_of (map f o.a) (map f o.b) (read_at f o.s 0 ∷ []) shape.widths.y) at X) (mux_of (slice_index_or (map f o.a) at X) z (read_at f o.s 0))) (read_word f fixed o.b at)
        (picked_below (map f o.a) (map f o.b) (read_at f o.s 0) at h)))))
    one_bit_says kind m change e = absurd (cc)
