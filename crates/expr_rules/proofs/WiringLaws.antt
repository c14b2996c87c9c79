-- The rules for cells that only pass bits on say no less.
use Rattle.std.proofs.Common.{◌≡◌, ℕ, false, zero, suc, ◌+◌, List, [], ◌∷◌, ◌++◌, map, refl, sym, ◌∙◌, ap, subst, arith}
use Rattle.std.specs.Prelude.{slice_index_or}
use Rattle.std.proofs.Math.ListN.{get_or-map}
use Rattle.std.proofs.lemmas.List.FromFn.{get_or-map-range_with_len}
use Rattle.rtl_bits.proofs.Orders.{Below_trans}
use Rattle.rtl_bits.specs.Knowledge.{Below}
use Rattle.rtl_bits.specs.Tables.{seen_of}
use Rattle.rtl_bits.specs.declared.bit.Bit.{Bit}
use Rattle.rtl_bits.specs.declared.bit.Bit.TheVariants.{S0, X}
use Rattle.rtl_sig.specs.declared.sig.SigBit.{SigBit}
use Rattle.rtl_sig.specs.declared.sig.SigBit.TheVariants.{Fixed}
use Rattle.cell_types.specs.declared.shape.Shape.{Shape}
use Rattle.cell_types.specs.declared.word.UnaryKind.TheVariants.{Pos}
use Rattle.cell_types.specs.declared.word.WordKind.TheVariants.{Unary, Slice, Concat, Buf}
use Rattle.cell_word.specs.Words.{extended_at}
use Rattle.expr_rules.specs.Laws.{IsReading, read_at}
use Rattle.expr_rules.specs.Rules.Wiring.{buffer, wiring}
use Rattle.expr_rules.specs.Signals.{part_of}
use Rattle.expr_rules.specs.declared.change.Change.TheVariants.{Gives}
use Rattle.expr_rules.specs.declared.operands.Operands.{Operands}
use Rattle.expr_rules.proofs.Cases.{some_case}
use Rattle.expr_rules.proofs.Reading.{extended_read, read_below, read_word, word_at}
use Rattle.expr_rules.proofs.Says.{RuleSays, WordSays, bit_of}
use Rattle.expr_rules.proofs.Tables.{seen_below}

module _ (f : SigBit → Bit) (fixed : IsReading f) (shape : Shape) (o : Operands) where
  pub buffer_says : RuleSays f shape o (λ kind. buffer kind o)
  buffer_says (Unary Pos) m change e =
      some_case (WordSays f shape o (Unary Pos)) change (Gives o.left) e (λ at h.
      let b : f (slice_index_or o.left at (Fixed S0)) ≡ extended_at shape.signs.a (map f o.a) at =
      ap (λ w. f (slice_index_or w at (Fixed S0))) m.left ∙ extended_read f fixed shape.signs.a o.a shape.widths.y at (Fixed S0) h in
      subst (λ z. Below z (f (slice_index_or o.left at (Fixed S0)))) (sym (word_at (λ at. seen_of (extended_at shape.signs.a (map f o.a) at)) shape.widths.y at h))
      (subst (Below (seen_of (extended_at shape.signs.a (map f o.a) at))) (sym b) (seen_below (extended_at shape.signs.a (map f o.a) at))))
  buffer_says Buf m change e =
      some_case (WordSays f shape o Buf) change (Gives o.a) e (λ at h.
      let b : extended_at false (map f o.a) at ≡ f (slice_index_or o.a at (Fixed S0)) =
      ap (slice_index_or (map f o.a) at) (sym (fixed S0)) ∙ get_or-map f o.a at (Fixed S0) in
      subst (λ z. Below z (f (slice_index_or o.a at (Fixed S0)))) (sym (word_at (λ at. seen_of (extended_at false (map f o.a) at)) shape.widths.y at h))
      (subst (λ z. Below (seen_of z) (f (slice_index_or o.a at (Fixed S0)))) (sym b) (seen_below (f (slice_index_or o.a at (Fixed S0))))))
  buffer_says kind m change e = absurd (cc)

  -- two signals, one on top of the other
  joined_read : (a b : List SigBit) (at : ℕ) → slice_index_or (map seen_of (map f a ++ map f b)) at X ≡ seen_of (read_at f (a ++ b) at)
  joined_read [] [] at = sym (ap seen_of (fixed X))
  joined_read [] (b ∷ bs) zero = refl
  joined_read [] (b ∷ bs) (suc at) = joined_read [] bs at
  joined_read (a ∷ as') bs zero = refl
  joined_read (a ∷ as') bs (suc at) = joined_read as' bs at

  pub wiring_says : RuleSays f shape o (λ kind. wiring kind shape o)
  wiring_says Slice m change e =
      some_case (WordSays f shape o Slice) change (Gives (part_of o.a shape.offset shape.widths.y)) e (λ at h.
      let p : slice_index_or (part_of o.a shape.offset shape.widths.y) at (Fixed S0) ≡ slice_index_or o.a (shape.offset + at) (Fixed X) =
      get_or-map-range_with_len (λ at. slice_index_or o.a (shape.offset + at) (Fixed X)) 0 shape.widths.y at at (Fixed S0) h (omega arith) in
      let v : bit_of f shape o Slice at ≡ seen_of (read_at f o.a (shape.offset + at)) =
      word_at (λ at. seen_of (slice_index_or (map f o.a) (shape.offset + at) X)) shape.widths.y at h ∙ ap seen_of (read_word f fixed o.a (shape.offset + at)) in
      subst (λ z. Below z (f (slice_index_or (part_of o.a shape.offset shape.widths.y) at (Fixed S0)))) (sym v)
      (subst (λ s. Below (seen_of (read_at f o.a (shape.offset + at))) (f s)) (sym p) (seen_below (read_at f o.a (shape.offset + at)))))
  wiring_says Concat m change e =
      some_case (WordSays f shape o Concat) change (Gives (o.a ++ o.b)) e (λ at h.
      subst (λ z. Below z (f (slice_index_or (o.a ++ o.b) at (Fixed S0)))) (sym (joined_read o.a o.b at))
      (Below_trans _ _ _ (seen_below (read_at f (o.a ++ o.b) at)) (read_below f fixed (o.a ++ o.b) at (Fixed S0))))
  wiring_says kind m change e = absurd (cc)
