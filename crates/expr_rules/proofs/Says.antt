-- What a change of a cell that counts as a word cell says, and what new cells say.
use Rattle.std.proofs.Common.{◌≡◌, ℕ, ◌<◌, List, [], length, map, Option, Some, refl, sym, ◌∙◌, ap, subst, arith}
use Rattle.std.specs.Prelude.{slice_index_or}
use Rattle.rtl_bits.proofs.Orders.{Below_from_equal, Below_trans}
use Rattle.rtl_bits.proofs.Tables.{not_of_mono}
use Rattle.rtl_bits.specs.Knowledge.{Below}
use Rattle.rtl_bits.specs.Tables.{mux_of, not_of}
use Rattle.rtl_bits.specs.declared.bit.Bit.{Bit}
use Rattle.rtl_bits.specs.declared.bit.Bit.TheVariants.{S0, X}
use Rattle.rtl_sig.specs.declared.sig.SigBit.{SigBit}
use Rattle.rtl_sig.specs.declared.sig.SigBit.TheVariants.{Fixed}
use Rattle.rtl_sig.specs.Signal.{extended}
use Rattle.cell_types.specs.declared.kind.CellKind.{CellKind}
use Rattle.cell_types.specs.declared.kind.CellKind.TheVariants.{Word, Gate}
use Rattle.cell_types.specs.declared.shape.Shape.{Shape}
use Rattle.cell_types.specs.declared.word.UnaryKind.TheVariants.{Not}
use Rattle.cell_types.specs.declared.word.WordKind.{WordKind}
use Rattle.cell_types.specs.declared.word.WordKind.TheVariants.{Unary, Mux}
use Rattle.cell_word.specs.Values.{value_by, value_of}
use Rattle.cell_word.specs.Words.{extended_at}
use Rattle.net_model.specs.Value.{worked_of}
use Rattle.expr_rules.specs.Change.{chooser, chooser_kind, inverter, inverter_kind}
use Rattle.expr_rules.specs.Laws.{IsReading, read_at, words_read}
use Rattle.expr_rules.specs.Operands.{meant_signed, meant_width}
use Rattle.expr_rules.specs.declared.change.Change.{Change}
use Rattle.expr_rules.specs.declared.change.Change.TheVariants.{Gives, Becomes}
use Rattle.expr_rules.specs.declared.operands.Operands.{Operands}
use Rattle.expr_rules.proofs.Reading.{extended_below, read_word, word_at}

-- a gate has one bit
abbrev pub IsNarrow : CellKind → ℕ → Type 0
IsNarrow (Gate kind) width = width ≡ 1
IsNarrow kind width = Unit {0}

-- the operands are meant as those of a word cell of a kind
pub record IsMeantAs (kind : WordKind) (shape : Shape) (o : Operands) : Type 0 where
  pub left : o.left ≡ extended o.a (meant_width kind (length o.a) (length o.b) shape.widths.y) (meant_signed kind shape)
  pub right : o.right ≡ extended o.b (meant_width kind (length o.a) (length o.b) shape.widths.y) (meant_signed kind shape)

-- a bit of a word cell's output
abbrev pub bit_of : (SigBit → Bit) → Shape → Operands → WordKind → ℕ → Bit
bit_of f shape o kind at = slice_index_or (value_of kind shape (map f o.a) (map f o.b) (map f o.s)) at X

-- a change says no less than the word cell
abbrev pub WordSays : (SigBit → Bit) → Shape → Operands → WordKind → Change → Type 0
WordSays f shape o kind (Gives word) =
    (at : ℕ) → at < shape.widths.y → Below (bit_of f shape o kind at) (f (slice_index_or word at (Fixed S0)))
WordSays f shape o kind (Becomes c) =
    (new : Shape) → new.kind ≡ c.kind → new.widths.y ≡ shape.widths.y → (at : ℕ) → at < shape.widths.y →
    Below (bit_of f shape o kind at) (worked_of c.kind new (words_read f c.a c.b c.s) at)

-- what a rule owes of each kind
abbrev pub RuleSays : (SigBit → Bit) → Shape → Operands → (WordKind → Option Change) → Type 0
RuleSays f shape o rule =
    (kind : WordKind) → IsMeantAs kind shape o → (change : Change) → rule kind ≡ Some change → WordSays f shape o kind change

module _ (f : SigBit → Bit) (fixed : IsReading f) (new : Shape) (at : ℕ) (h : at < new.widths.y) where
  -- the bits of a new word cell
  word_not : (a : List SigBit) → new.kind ≡ Word (Unary Not) → Below (not_of (read_at f a at)) (worked_of (Word (Unary Not)) new (words_read f a [] []) at)
  word_not a e =
      let whole : slice_index_or (value_by new.kind new (words_read f a [] [])) at X ≡ not_of (extended_at new.signs.a (map f a) at) =
      ap (λ k. slice_index_or (value_by k new (words_read f a [] [])) at X) e ∙ word_at (λ at. not_of (extended_at new.signs.a (map f a) at)) new.widths.y at h in
      subst (λ z. Below (not_of (read_at f a at)) z) (sym whole) (not_of_mono _ _ (extended_below f fixed new.signs.a a at))

  word_mux : (a b s : List SigBit) → new.kind ≡ Word Mux → Below (mux_of (read_at f a at) (read_at f b at) (read_at f s 0)) (worked_of (Word Mux) new (words_read f a b s) at)
  word_mux a b s e =
      let whole : slice_index_or (value_by new.kind new (words_read f a b s)) at X ≡ mux_of (slice_index_or (map f a) at X) (slice_index_or (map f b) at X) (slice_index_or (map f s) 0 X) =
      ap (λ k. slice_index_or (value_by k new (words_read f a b s)) at X) e
      ∙ word_at (λ at. mux_of (slice_index_or (map f a) at X) (slice_index_or (map f b) at X) (slice_index_or (map f s) 0 X)) new.widths.y at h in
      Below_from_equal _ _ (
      ap (λ z. mux_of z (read_at f b at) (read_at f s 0)) (sym (read_word f fixed a at))
      ∙ ap (λ z. mux_of (slice_index_or (map f a) at X) z (read_at f s 0)) (sym (read_word f fixed b at))
      ∙ ap (λ z. mux_of (slice_index_or (map f a) at X) (slice_index_or (map f b) at X) z) (sym (read_word f fixed s 0))
      ∙ sym whole)

  -- a gate has bit 0 alone
  gate_not : (a : List SigBit) → at ≡ 0 → (inputs : List (List Bit)) → inputs ≡ words_read f a [] [] → Below (not_of (read_at f a at)) (not_of (slice_index_or (map f a) 0 X))
  gate_not a z inputs e = Below_from_equal _ _ (ap (λ at. not_of (read_at f a at)) z ∙ ap not_of (sym (read_word f fixed a 0)))

  pub inverter_says : (own : CellKind) → IsNarrow own new.widths.y → (a : List SigBit) → new.kind ≡ inverter_kind own → Below (not_of (read_at f a at)) (worked_of (inverter_kind own) new (words_read f a [] []) at)
  inverter_says (Gate kind) n a e = gate_not a (omega (arith, n)) (words_read f a [] []) refl
  inverter_says own n a e = word_not a e

  pub chooser_says : (own : CellKind) → IsNarrow own new.widths.y → (a b s : List SigBit) → new.kind ≡ chooser_kind own → Below (mux_of (read_at f a at) (read_at f b at) (read_at f s 0)) (worked_of (chooser_kind own) new (words_read f a b s) at)
  chooser_says (Gate kind) n a b s e =
      let z : at ≡ 0 = omega (arith, n) in
      Below_from_equal _ _ (
      ap (λ at. mux_of (read_at f a at) (read_at f b at) (read_at f s 0)) z
      ∙ ap (λ z. mux_of z (read_at f b 0) (read_at f s 0)) (sym (read_word f fixed a 0))
      ∙ ap (λ z. mux_of (slice_index_or (map f a) 0 X) z (read_at f s 0)) (sym (read_word f fixed b 0))
      ∙ ap (λ z. mux_of (slice_index_or (map f a) 0 X) (slice_index_or (map f b) 0 X) z) (sym (read_word f fixed s 0)))
  chooser_says own n a b s e = word_mux a b s e

-- what becomes an inverter says no less where its bits do
module _ (f : SigBit → Bit) (fixed : IsReading f) (shape : Shape) (o : Operands) (kind : WordKind) (own : CellKind) (narrow : IsNarrow own shape.widths.y) where
  pub becomes_inverter : (a : List SigBit) → ((at : ℕ) → at < shape.widths.y → Below (bit_of f shape o kind at) (not_of (read_at f a at))) → WordSays f shape o kind (inverter own a)
  becomes_inverter a below new e w at h =
      Below_trans _ _ _ (below at h) (inverter_says f fixed new at (subst (λ z. at < z) (sym w) h) own (subst (IsNarrow own) (sym w) narrow) a e)

  pub becomes_chooser : (a b s : List SigBit) → ((at : ℕ) → at < shape.widths.y → Below (bit_of f shape o kind at) (mux_of (read_at f a at) (read_at f b at) (read_at f s 0))) → WordSays f shape o kind (chooser own a b s)
  becomes_chooser a b s below new e w at h =
      Below_trans _ _ _ (below at h) (chooser_says f fixed new at (subst (λ z. at < z) (sym w) h) own (subst (IsNarrow own) (sym w) narrow) a b s e)
