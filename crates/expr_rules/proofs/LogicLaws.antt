-- The rules for cells that work bit by bit say no less.
use Rattle.std.proofs.Common.{◌≡◌, ℕ, ◌<◌, Bool, true, List, length, map, Option, Some, None, refl, sym, ◌∙◌, ap, subst}
use Rattle.std.specs.Prelude.{slice_index_or, ◌&&◌, ◌==◌}
use Rattle.std.specs.Option.{option_map, option_map_or}
use Rattle.std.specs.List.{list_all}
use Rattle.std.proofs.lemmas.Bool.{and_parts}
use Rattle.std.proofs.lemmas.List.{get_or-replicate, length-map}
use Rattle.rtl_bits.specs.Knowledge.{Below}
use Rattle.rtl_bits.specs.Tables.{not_of}
use Rattle.rtl_bits.specs.declared.bit.Bit.{Bit}
use Rattle.rtl_bits.specs.declared.bit.Bit.TheVariants.{S0, S1, X}
use Rattle.rtl_sig.specs.declared.sig.SigBit.{SigBit}
use Rattle.rtl_sig.specs.declared.sig.SigBit.TheVariants.{Fixed}
use Rattle.cell_types.specs.declared.kind.CellKind.{CellKind}
use Rattle.cell_types.specs.declared.shape.Shape.{Shape}
use Rattle.cell_types.specs.declared.word.BitwiseKind.{BitwiseKind}
use Rattle.cell_types.specs.declared.word.BitwiseKind.TheVariants.{And, Or, Xor, Xnor}
use Rattle.cell_types.specs.declared.word.UnaryKind.TheVariants.{Not}
use Rattle.cell_types.specs.declared.word.WordKind.TheVariants.{Unary, Bitwise}
use Rattle.cell_word.specs.Bitwise.{bit_by}
use Rattle.cell_word.specs.Values.{both_signed}
use Rattle.cell_word.specs.Words as words
use Rattle.cell_word.specs.Words.{extended_at}
use Rattle.expr_rules.specs.Change.{first_some, inverter, when}
use Rattle.expr_rules.specs.Laws.{IsReading, KnowsInverters, read_at}
use Rattle.expr_rules.specs.Rules.Logic.{and_with_ones, beside_ones, beside_zeros, double_not, equal_operands, equal_parity, or_with_zeros, xor_with_ones}
use Rattle.rtl_ir.specs.Signals.{same_signal}
use Rattle.expr_rules.specs.Signals.{filled, is_one, is_zero}
use Rattle.expr_rules.specs.declared.change.Change.{Change}
use Rattle.expr_rules.specs.declared.change.Change.TheVariants.{Gives}
use Rattle.expr_rules.specs.declared.operands.Operands.{Operands}
use Rattle.expr_rules.proofs.Cases.{first_case, map_case, when_case}
use Rattle.expr_rules.proofs.Reading.{all_at, default_at, extended_length, extended_read, read_word, word_at}
use Rattle.rtl_ir.proofs.SamePlaces.{signal_is}
use Rattle.expr_rules.proofs.Sameness.{equal_numbers}
use Rattle.expr_rules.proofs.Says.{IsMeantAs, IsNarrow, RuleSays, WordSays, becomes_inverter, bit_of}
use Rattle.expr_rules.proofs.Tables.{and_one, and_same, not_below, one_and, one_xor, or_same, or_zero, xnor_same, xor_one, xor_same, xor_zero, zero_or, zero_xor}

-- which word is beside one that is all of these
pub beside_case : (P : List SigBit → Type 0) (p : SigBit → Bool) (left right word : List SigBit) → first_some (when (list_all p right) left) (when (list_all p left) right) ≡ Some word → (list_all p right ≡ true → P left) → (list_all p left ≡ true → P right) → P word
beside_case P p left right word e h k =
    first_case P word (when (list_all p right) left) (when (list_all p left) right) e
    (λ e. when_case P word (list_all p right) left e h)
    (λ e. when_case P word (list_all p left) right e k)

-- a word of one constant
pub filled_at : (width : ℕ) (b : Bit) (at : ℕ) (d : SigBit) → at < width → slice_index_or (filled width b) at d ≡ Fixed b
filled_at width b at d h = get_or-replicate width at (Fixed b) d h

module _ (f : SigBit → Bit) (fixed : IsReading f) where
  pub one_is : (b : SigBit) → is_one b ≡ true → f b ≡ S1
  one_is (Fixed S1) e = fixed S1
  one_is b e = absurd (cc)

  pub zero_is : (b : SigBit) → is_zero b ≡ true → f b ≡ S0
  zero_is (Fixed S0) e = fixed S0
  zero_is b e = absurd (cc)

  pub ones_read : (word : List SigBit) (at : ℕ) (d : SigBit) → list_all is_one word ≡ true → at < length word → f (slice_index_or word at d) ≡ S1
  ones_read word at d e h = one_is (slice_index_or word at d) (all_at is_one word at d e h)

  pub zeros_read : (word : List SigBit) (at : ℕ) (d : SigBit) → list_all is_zero word ≡ true → at < length word → f (slice_index_or word at d) ≡ S0
  zeros_read word at d e h = zero_is (slice_index_or word at d) (all_at is_zero word at d e h)

  module _ (shape : Shape) (o : Operands) where
    module _ (kind : BitwiseKind) (m : IsMeantAs (Bitwise kind) shape o) where
      pub left_length : length o.left ≡ shape.widths.y
      left_length = ap length m.left ∙ extended_length o.a shape.widths.y (both_signed shape)

      pub right_length : length o.right ≡ shape.widths.y
      right_length = ap length m.right ∙ extended_length o.b shape.widths.y (both_signed shape)

      -- a bit of the output
      bitwise_bit : (at : ℕ) → at < shape.widths.y → bit_of f shape o (Bitwise kind) at ≡ bit_by kind (f (slice_index_or o.left at (Fixed S0))) (f (slice_index_or o.right at (Fixed S0)))
      bitwise_bit at h =
          let l : extended_at (both_signed shape) (map f o.a) at ≡ f (slice_index_or o.left at (Fixed S0)) =
          sym (ap (λ w. f (slice_index_or w at (Fixed S0))) m.left ∙ extended_read f fixed (both_signed shape) o.a shape.widths.y at (Fixed S0) h) in
          let r : extended_at (both_signed shape) (map f o.b) at ≡ f (slice_index_or o.right at (Fixed S0)) =
          sym (ap (λ w. f (slice_index_or w at (Fixed S0))) m.right ∙ extended_read f fixed (both_signed shape) o.b shape.widths.y at (Fixed S0) h) in
          word_at (λ at. bit_by kind (extended_at (both_signed shape) (map f o.a) at) (extended_at (both_signed shape) (map f o.b) at)) shape.widths.y at h
          ∙ ap (λ z. bit_by kind z (extended_at (both_signed shape) (map f o.b) at)) l
          ∙ ap (λ z. bit_by kind (f (slice_index_or o.left at (Fixed S0))) z) r

      -- below the bits of a result
      bits_below : (r : ℕ → Bit) → ((at : ℕ) → at < shape.widths.y → Below (bit_by kind (f (slice_index_or o.left at (Fixed S0))) (f (slice_index_or o.right at (Fixed S0)))) (r at)) → (at : ℕ) → at < shape.widths.y → Below (bit_of f shape o (Bitwise kind) at) (r at)
      bits_below r h at lt = subst (λ z. Below z (r at)) (sym (bitwise_bit at lt)) (h at lt)

      -- the right operand is all one bit
      right_is : (p : SigBit → Bool) (c : Bit) → ((word : List SigBit) (at : ℕ) (d : SigBit) → list_all p word ≡ true → at < length word → f (slice_index_or word at d) ≡ c) → list_all p o.right ≡ true → (g : Bit → Bit) → ((a : Bit) → Below (bit_by kind a c) (g a)) → (at : ℕ) → at < shape.widths.y → Below (bit_of f shape o (Bitwise kind) at) (g (f (slice_index_or o.left at (Fixed S0))))
      right_is p c reads all g below =
          bits_below (λ at. g (f (slice_index_or o.left at (Fixed S0)))) (λ at h.
          subst (λ z. Below (bit_by kind (f (slice_index_or o.left at (Fixed S0))) z) (g (f (slice_index_or o.left at (Fixed S0)))))
          (sym (reads o.right at (Fixed S0) all (subst (λ z. at < z) (sym right_length) h)))
          (below (f (slice_index_or o.left at (Fixed S0)))))

      left_is : (p : SigBit → Bool) (c : Bit) → ((word : List SigBit) (at : ℕ) (d : SigBit) → list_all p word ≡ true → at < length word → f (slice_index_or word at d) ≡ c) → list_all p o.left ≡ true → (g : Bit → Bit) → ((a : Bit) → Below (bit_by kind c a) (g a)) → (at : ℕ) → at < shape.widths.y → Below (bit_of f shape o (Bitwise kind) at) (g (f (slice_index_or o.right at (Fixed S0))))
      left_is p c reads all g below =
          bits_below (λ at. g (f (slice_index_or o.right at (Fixed S0)))) (λ at h.
          subst (λ z. Below (bit_by kind z (f (slice_index_or o.right at (Fixed S0)))) (g (f (slice_index_or o.right at (Fixed S0)))))
          (sym (reads o.left at (Fixed S0) all (subst (λ z. at < z) (sym left_length) h)))
          (below (f (slice_index_or o.right at (Fixed S0)))))

      -- equal operands
      equal_is : same_signal o.left o.right ≡ true → (g : Bit → Bit) → ((a : Bit) → Below (bit_by kind a a) (g a)) → (at : ℕ) → at < shape.widths.y → Below (bit_of f shape o (Bitwise kind) at) (g (f (slice_index_or o.left at (Fixed S0))))
      equal_is t g below =
          bits_below (λ at. g (f (slice_index_or o.left at (Fixed S0)))) (λ at h.
          subst (λ w. Below (bit_by kind (f (slice_index_or o.left at (Fixed S0))) (f (slice_index_or w at (Fixed S0)))) (g (f (slice_index_or o.left at (Fixed S0)))))
          (signal_is o.left o.right t)
          (below (f (slice_index_or o.left at (Fixed S0)))))

      -- the operand beside zeros
      zeros_say : ((a : Bit) → Below (bit_by kind a S0) a) → ((a : Bit) → Below (bit_by kind S0 a) a) → (change : Change) → option_map Gives (beside_zeros o) ≡ Some change → WordSays f shape o (Bitwise kind) change
      zeros_say right left change e =
          map_case (WordSays f shape o (Bitwise kind)) change Gives (beside_zeros o) e (λ word b.
          beside_case (λ word. WordSays f shape o (Bitwise kind) (Gives word)) is_zero o.left o.right word b
          (λ t. right_is is_zero S0 zeros_read t (λ a. a) right)
          (λ t. left_is is_zero S0 zeros_read t (λ a. a) left))

      -- equal operands that give themselves
      same_say : ((a : Bit) → Below (bit_by kind a a) a) → (change : Change) → when (same_signal o.left o.right) (Gives o.left) ≡ Some change → WordSays f shape o (Bitwise kind) change
      same_say below change e =
          when_case (WordSays f shape o (Bitwise kind)) change (same_signal o.left o.right) (Gives o.left) e (λ t. equal_is t (λ a. a) below)

      -- equal operands that give a constant
      parity_say : (c : Bit) → ((a : Bit) → Below (bit_by kind a a) c) → (change : Change) → when (same_signal o.left o.right) (Gives (filled shape.widths.y c)) ≡ Some change → WordSays f shape o (Bitwise kind) change
      parity_say c below change e =
          when_case (WordSays f shape o (Bitwise kind)) change (same_signal o.left o.right) (Gives (filled shape.widths.y c)) e (λ t at h.
          subst (Below (bit_of f shape o (Bitwise kind) at)) (sym (ap f (filled_at shape.widths.y c at (Fixed S0) h) ∙ fixed c)) (equal_is t (λ a. c) below at h))

    pub and_with_ones_says : RuleSays f shape o (λ kind. and_with_ones kind o)
    and_with_ones_says (Bitwise And) m change e =
        map_case (WordSays f shape o (Bitwise And)) change Gives (beside_ones o) e (λ word b.
        beside_case (λ word. WordSays f shape o (Bitwise And) (Gives word)) is_one o.left o.right word b
        (λ t. right_is And m is_one S1 ones_read t (λ a. a) and_one)
        (λ t. left_is And m is_one S1 ones_read t (λ a. a) one_and))
    and_with_ones_says kind m change e = absurd (cc)

    pub or_with_zeros_says : RuleSays f shape o (λ kind. or_with_zeros kind o)
    or_with_zeros_says (Bitwise Or) m change e = zeros_say Or m or_zero zero_or change e
    or_with_zeros_says (Bitwise Xor) m change e = zeros_say Xor m xor_zero zero_xor change e
    or_with_zeros_says kind m change e = absurd (cc)

    pub equal_operands_says : RuleSays f shape o (λ kind. equal_operands kind o)
    equal_operands_says (Bitwise And) m change e = same_say And m and_same change e
    equal_operands_says (Bitwise Or) m change e = same_say Or m or_same change e
    equal_operands_says kind m change e = absurd (cc)

    pub equal_parity_says : RuleSays f shape o (λ kind. equal_parity kind shape o)
    equal_parity_says (Bitwise Xor) m change e = parity_say Xor m S0 xor_same change e
    equal_parity_says (Bitwise Xnor) m change e = parity_say Xnor m S1 xnor_same change e
    equal_parity_says kind m change e = absurd (cc)

    -- within a word the default does not count
    other_default : (word : List SigBit) (at : ℕ) → length word ≡ shape.widths.y → at < shape.widths.y → f (slice_index_or word at (Fixed S0)) ≡ read_at f word at
    other_default word at l h = ap f (default_at word at (Fixed S0) (Fixed X) (subst (λ z. at < z) (sym l) h))

    pub xor_with_ones_says : (own : CellKind) → IsNarrow own shape.widths.y → RuleSays f shape o (λ kind. xor_with_ones kind own o)
    xor_with_ones_says own narrow (Bitwise Xor) m change e =
        map_case (WordSays f shape o (Bitwise Xor)) change (inverter own) (beside_ones o) e (λ word b.
        beside_case (λ word. WordSays f shape o (Bitwise Xor) (inverter own word)) is_one o.left o.right word b
        (λ t. becomes_inverter f fixed shape o (Bitwise Xor) own narrow o.left (λ at h.
        subst (λ z. Below (bit_of f shape o (Bitwise Xor) at) (not_of z)) (other_default o.left at (left_length Xor m) h)
        (right_is Xor m is_one S1 ones_read t not_of xor_one at h)))
        (λ t. becomes_inverter f fixed shape o (Bitwise Xor) own narrow o.right (λ at h.
        subst (λ z. Below (bit_of f shape o (Bitwise Xor) at) (not_of z)) (other_default o.right at (right_length Xor m) h)
        (left_is Xor m is_one S1 ones_read t not_of one_xor at h))))
    xor_with_ones_says own narrow kind m change e = absurd (cc)

    -- a bit of an inverted word
    not_bit : (at : ℕ) → at < shape.widths.y → length o.a ≡ shape.widths.y → bit_of f shape o (Unary Not) at ≡ not_of (read_at f o.a at)
    not_bit at h l =
        word_at (λ at. not_of (extended_at shape.signs.a (map f o.a) at)) shape.widths.y at h
        ∙ ap not_of (default_at (map f o.a) at (words.fill_of shape.signs.a (map f o.a)) X (subst (λ z. at < z) (sym (length-map o.a f ∙ l)) h) ∙ read_word f fixed o.a at)

    pub double_not_says : KnowsInverters f o → RuleSays f shape o (λ kind. double_not kind shape o)
    double_not_says k (Unary Not) m change e = by o.inner refl e
      where
        by : (inner : Option (List SigBit)) → o.inner ≡ inner → option_map_or (λ inner. when ((length o.a == shape.widths.y) && (length inner == shape.widths.y)) (Gives inner)) inner None ≡ Some change → WordSays f shape o (Unary Not) change
        by None i e = absurd (cc)
        by (Some inner) i e =
            when_case (WordSays f shape o (Unary Not)) change ((length o.a == shape.widths.y) && (length inner == shape.widths.y)) (Gives inner) e (λ t at h.
            let p = and_parts (length o.a == shape.widths.y) (length inner == shape.widths.y) t in
            let la : length o.a ≡ shape.widths.y = equal_numbers (length o.a) shape.widths.y p.0 in
            let li : length inner ≡ shape.widths.y = equal_numbers (length inner) shape.widths.y p.1 in
            subst (λ z. Below z (f (slice_index_or inner at (Fixed S0)))) (sym (not_bit at h la))
            (subst (Below (not_of (read_at f o.a at))) (sym (other_default inner at li h))
            (not_below (read_at f o.a at) (read_at f inner at) (k.inner inner i at (subst (λ z. at < z) (sym li) h)))))
    double_not_says k kind m change e = absurd (cc)
