-- The rules for multiplexers say no less.
use Rattle.std.proofs.Common.{◌≡◌, ℕ, zero, suc, ◌<◌, true, false, List, [], ◌∷◌, map, Some, refl, sym, ◌∙◌, ap, subst, arith}
use Rattle.std.specs.Prelude.{slice_index_or, ◌&&◌, if◌then◌else◌}
use Rattle.std.specs.List.{list_all, range_with_len}
use Rattle.std.proofs.lemmas.Bool.{and_parts}
use Rattle.std.proofs.lemmas.List.FromFn.{get_or-map-range_with_len}
use Rattle.rtl_bits.proofs.Orders.{Below_trans}
use Rattle.rtl_bits.specs.Knowledge.{Below, is_known}
use Rattle.rtl_bits.specs.Tables.{mux_of, not_of}
use Rattle.rtl_bits.specs.declared.bit.Bit.{Bit}
use Rattle.rtl_bits.specs.declared.bit.Bit.TheVariants.{S0, S1, X, Z, M, Dash}
use Rattle.rtl_sig.specs.declared.sig.SigBit.{SigBit}
use Rattle.rtl_sig.specs.declared.sig.SigBit.TheVariants.{Fixed, Wire as OnWire}
use Rattle.cell_types.specs.declared.kind.CellKind.{CellKind}
use Rattle.cell_types.specs.declared.shape.Shape.{Shape}
use Rattle.cell_types.specs.declared.word.WordKind.TheVariants as Word
use Rattle.expr_rules.specs.Change.{chooser, inverter, when}
use Rattle.expr_rules.specs.Laws.{IsReading, KnowsInverters, read_at}
use Rattle.expr_rules.specs.Rules.Mux.{arm_bit, arm_of, equal_arms, equal_words, known_selects, inverted_select, known_select, select_inverse, select_itself, unknown_arm}
use Rattle.expr_rules.specs.Signals.{first_bit, is_bit, is_known_constant, is_one, is_unknown_constant}
use Rattle.expr_rules.specs.declared.change.Change.{Change}
use Rattle.expr_rules.specs.declared.change.Change.TheVariants.{Gives}
use Rattle.expr_rules.specs.declared.operands.Operands.{Operands}
use Rattle.expr_rules.proofs.Cases.{first_case, map_case, some_case, when_case}
use Rattle.expr_rules.proofs.Reading.{read_below, read_word, word_at}
use Rattle.rtl_ir.proofs.SamePlaces.{signal_is}
use Rattle.expr_rules.proofs.Says.{IsNarrow, RuleSays, WordSays, becomes_chooser, becomes_inverter, bit_of}
use Rattle.rtl_ir.specs.Signals.{is_constant, same_signal}
use Rattle.expr_rules.proofs.Tables.{merge_left, mux_inverse, mux_itself, mux_left, mux_none, mux_right, mux_same, mux_turned, seen_below}

module _ (f : SigBit → Bit) (fixed : IsReading f) (shape : Shape) (o : Operands) where
  -- a bit of the output
  pub mux_bit : (at : ℕ) → at < shape.widths.y → bit_of f shape o Word.Mux at ≡ mux_of (read_at f o.a at) (read_at f o.b at) (read_at f o.s 0)
  mux_bit at h =
      word_at (λ at. mux_of (slice_index_or (map f o.a) at X) (slice_index_or (map f o.b) at X) (slice_index_or (map f o.s) 0 X)) shape.widths.y at h
      ∙ ap (λ z. mux_of z (slice_index_or (map f o.b) at X) (slice_index_or (map f o.s) 0 X)) (read_word f fixed o.a at)
      ∙ ap (λ z. mux_of (read_at f o.a at) z (slice_index_or (map f o.s) 0 X)) (read_word f fixed o.b at)
      ∙ ap (λ z. mux_of (read_at f o.a at) (read_at f o.b at) z) (read_word f fixed o.s 0)

  -- what a word gives that is no less than the bits, as far as it goes
  gives : (word : List SigBit) → ((at : ℕ) → at < shape.widths.y → Below (mux_of (read_at f o.a at) (read_at f o.b at) (read_at f o.s 0)) (read_at f word at)) → WordSays f shape o Word.Mux (Gives word)
  gives word below at h = subst (λ z. Below z (f (slice_index_or word at (Fixed S0)))) (sym (mux_bit at h)) (Below_trans _ _ _ (below at h) (read_below f fixed word at (Fixed S0)))

  known_arm : (s : SigBit) → first_bit o.s ≡ s → (change : Change) → arm_of s o.a o.b ≡ Some change → WordSays f shape o Word.Mux change
  known_arm (Fixed S0) g change e =
      some_case (WordSays f shape o Word.Mux) change (Gives o.a) e
      (gives o.a (λ at h. subst (λ z. Below (mux_of (read_at f o.a at) (read_at f o.b at) z) (read_at f o.a at)) (sym (ap f g ∙ fixed S0)) (seen_below (read_at f o.a at))))
  known_arm (Fixed S1) g change e =
      some_case (WordSays f shape o Word.Mux) change (Gives o.b) e
      (gives o.b (λ at h. subst (λ z. Below (mux_of (read_at f o.a at) (read_at f o.b at) z) (read_at f o.b at)) (sym (ap f g ∙ fixed S1)) (seen_below (read_at f o.b at))))
  known_arm s g change e = absurd (cc)

  pub known_select_says : RuleSays f shape o (λ kind. known_select kind o)
  known_select_says Word.Mux m change e = known_arm (first_bit o.s) refl change e
  known_select_says kind m change e = absurd (cc)

  pub equal_arms_says : RuleSays f shape o (λ kind. equal_arms kind o)
  equal_arms_says Word.Mux m change e =
      when_case (WordSays f shape o Word.Mux) change (same_signal o.a o.b) (Gives o.a) e (λ t.
      let same : o.a ≡ o.b = signal_is o.a o.b t in
      gives o.a (λ at h. subst (λ z. Below (mux_of (read_at f o.a at) (read_at f z at) (read_at f o.s 0)) (read_at f o.a at)) same (mux_same (read_at f o.a at) (read_at f o.s 0))))
  equal_arms_says kind m change e = absurd (cc)

  unknown_constant : (b : SigBit) → is_unknown_constant b ≡ true → is_known (f b) ≡ false
  unknown_constant (Fixed S0) e = absurd (cc)
  unknown_constant (Fixed S1) e = absurd (cc)
  unknown_constant (Fixed c) e = ap is_known (fixed c)
  unknown_constant (OnWire b) e = absurd (cc)

  -- each bit of a word of unknown constants is unknown
  unknown_read : (word : List SigBit) (at : ℕ) → list_all is_unknown_constant word ≡ true → is_known (read_at f word at) ≡ false
  unknown_read [] at e = ap is_known (fixed X)
  unknown_read (b ∷ word) zero e = unknown_constant b (and_parts (is_unknown_constant b) (list_all is_unknown_constant word) e).0
  unknown_read (b ∷ word) (suc at) e = unknown_read word at (and_parts (is_unknown_constant b) (list_all is_unknown_constant word) e).1

  pub unknown_arm_says : RuleSays f shape o (λ kind. unknown_arm kind o)
  unknown_arm_says Word.Mux m change e =
      first_case (WordSays f shape o Word.Mux) change (when (list_all is_unknown_constant o.a) (Gives o.b)) (when (list_all is_unknown_constant o.b) (Gives o.a)) e
      (λ e. when_case (WordSays f shape o Word.Mux) change (list_all is_unknown_constant o.a) (Gives o.b) e (λ t.
      gives o.b (λ at h. mux_left (read_at f o.a at) (read_at f o.b at) (read_at f o.s 0) (unknown_read o.a at t))))
      (λ e. when_case (WordSays f shape o Word.Mux) change (list_all is_unknown_constant o.b) (Gives o.a) e (λ t.
      gives o.a (λ at h. mux_right (read_at f o.a at) (read_at f o.b at) (read_at f o.s 0) (unknown_read o.b at t))))
  unknown_arm_says kind m change e = absurd (cc)

  -- arms of one constant each
  bit_arms : (x y : Bit) → (o.a ≡ Fixed x ∷ []) → (o.b ≡ Fixed y ∷ []) → (r : ℕ → Bit) → Below (mux_of x y (read_at f o.s 0)) (r 0) → (at : ℕ) → Below (mux_of (read_at f o.a at) (read_at f o.b at) (read_at f o.s 0)) (r at)
  bit_arms x y a b r h at = subst (λ z. Below (mux_of (read_at f z at) (read_at f o.b at) (read_at f o.s 0)) (r at)) (sym a) (subst (λ z. Below (mux_of (read_at f (Fixed x ∷ []) at) (read_at f z at) (read_at f o.s 0)) (r at)) (sym b) (by at))
    where
      by : (at : ℕ) → Below (mux_of (read_at f (Fixed x ∷ []) at) (read_at f (Fixed y ∷ []) at) (read_at f o.s 0)) (r at)
      by zero = subst (λ z. Below (mux_of z (f (Fixed y)) (read_at f o.s 0)) (r 0)) (sym (fixed x)) (subst (λ z. Below (mux_of x z (read_at f o.s 0)) (r 0)) (sym (fixed y)) h)
      by (suc at) = subst (λ z. Below (mux_of z z (read_at f o.s 0)) (r (suc at))) (sym (fixed X)) (mux_none (read_at f o.s 0) (r (suc at)))

  pub select_itself_says : RuleSays f shape o (λ kind. select_itself kind o)
  select_itself_says Word.Mux m change e =
      when_case (WordSays f shape o Word.Mux) change (is_bit S0 o.a && is_bit S1 o.b) (Gives o.s) e (λ t.
      let p = and_parts (is_bit S0 o.a) (is_bit S1 o.b) t in
      gives o.s (λ at h. bit_arms S0 S1 (signal_is o.a (Fixed S0 ∷ []) p.0) (signal_is o.b (Fixed S1 ∷ []) p.1) (read_at f o.s) (mux_itself (read_at f o.s 0)) at))
  select_itself_says kind m change e = absurd (cc)

  -- a bit of the output where each bit has its own S
  bwmux_bit : (at : ℕ) → at < shape.widths.y → bit_of f shape o Word.Bwmux at ≡ mux_of (read_at f o.a at) (read_at f o.b at) (read_at f o.s at)
  bwmux_bit at h =
      word_at (λ at. mux_of (slice_index_or (map f o.a) at X) (slice_index_or (map f o.b) at X) (slice_index_or (map f o.s) at X)) shape.widths.y at h
      ∙ ap (λ z. mux_of z (slice_index_or (map f o.b) at X) (slice_index_or (map f o.s) at X)) (read_word f fixed o.a at)
      ∙ ap (λ z. mux_of (read_at f o.a at) z (slice_index_or (map f o.s) at X)) (read_word f fixed o.b at)
      ∙ ap (λ z. mux_of (read_at f o.a at) (read_at f o.b at) z) (read_word f fixed o.s at)

  -- a word that says at each place what a constant chooses there
  constant_at : (word : List SigBit) (at : ℕ) → list_all is_known_constant word ≡ true → is_constant (slice_index_or word at (Fixed X)) ≡ true
  constant_at [] at e = refl
  constant_at (b ∷ word) zero e = constant b (and_parts (is_known_constant b) (list_all is_known_constant word) e).0
    where
      constant : (b : SigBit) → is_known_constant b ≡ true → is_constant b ≡ true
      constant (Fixed c) e = refl
      constant (OnWire b) e = absurd (cc)
  constant_at (b ∷ word) (suc at) e = constant_at word at (and_parts (is_known_constant b) (list_all is_known_constant word) e).1

  arm_says : (s a b : SigBit) → is_constant s ≡ true → Below (mux_of (f a) (f b) (f s)) (f (if is_one s then b else a))
  arm_says (Fixed S0) a b k = subst (λ z. Below (mux_of (f a) (f b) z) (f a)) (sym (fixed S0)) (seen_below (f a))
  arm_says (Fixed S1) a b k = subst (λ z. Below (mux_of (f a) (f b) z) (f b)) (sym (fixed S1)) (seen_below (f b))
  arm_says (Fixed X) a b k = subst (λ z. Below (mux_of (f a) (f b) z) (f a)) (sym (fixed X)) (merge_left (f a) (f b))
  arm_says (Fixed Z) a b k = subst (λ z. Below (mux_of (f a) (f b) z) (f a)) (sym (fixed Z)) (merge_left (f a) (f b))
  arm_says (Fixed M) a b k = subst (λ z. Below (mux_of (f a) (f b) z) (f a)) (sym (fixed M)) (merge_left (f a) (f b))
  arm_says (Fixed Dash) a b k = subst (λ z. Below (mux_of (f a) (f b) z) (f a)) (sym (fixed Dash)) (merge_left (f a) (f b))
  arm_says (OnWire s) a b k = absurd (cc)

  pub known_selects_says : RuleSays f shape o (λ kind. known_selects kind shape o)
  known_selects_says Word.Bwmux m change e =
      when_case (WordSays f shape o Word.Bwmux) change (list_all is_known_constant o.s) (Gives (map (arm_bit o) (range_with_len 0 shape.widths.y))) e (λ t at h.
      let p : slice_index_or (map (arm_bit o) (range_with_len 0 shape.widths.y)) at (Fixed S0) ≡ arm_bit o at =
      get_or-map-range_with_len (arm_bit o) 0 shape.widths.y at at (Fixed S0) h (omega arith) in
      subst (λ z. Below z (f (slice_index_or (map (arm_bit o) (range_with_len 0 shape.widths.y)) at (Fixed S0)))) (sym (bwmux_bit at h))
      (subst (λ s. Below (mux_of (read_at f o.a at) (read_at f o.b at) (read_at f o.s at)) (f s)) (sym p)
      (arm_says (slice_index_or o.s at (Fixed X)) (slice_index_or o.a at (Fixed X)) (slice_index_or o.b at (Fixed X)) (constant_at o.s at t))))
  known_selects_says kind m change e = absurd (cc)

  pub equal_words_says : RuleSays f shape o (λ kind. equal_words kind o)
  equal_words_says Word.Bwmux m change e =
      when_case (WordSays f shape o Word.Bwmux) change (same_signal o.a o.b) (Gives o.a) e (λ t at h.
      let same : o.a ≡ o.b = signal_is o.a o.b t in
      subst (λ z. Below z (f (slice_index_or o.a at (Fixed S0)))) (sym (bwmux_bit at h))
      (Below_trans _ _ _
      (subst (λ z. Below (mux_of (read_at f o.a at) (read_at f z at) (read_at f o.s at)) (read_at f o.a at)) same (mux_same (read_at f o.a at) (read_at f o.s at)))
      (read_below f fixed o.a at (Fixed S0))))
  equal_words_says kind m change e = absurd (cc)

  module _ (own : CellKind) (narrow : IsNarrow own shape.widths.y) where
    pub select_inverse_says : RuleSays f shape o (λ kind. select_inverse kind own o)
    select_inverse_says Word.Mux m change e =
        when_case (WordSays f shape o Word.Mux) change (is_bit S1 o.a && is_bit S0 o.b) (inverter own o.s) e (λ t.
        let p = and_parts (is_bit S1 o.a) (is_bit S0 o.b) t in
        becomes_inverter f fixed shape o Word.Mux own narrow o.s (λ at h.
        subst (λ z. Below z (not_of (read_at f o.s at))) (sym (mux_bit at h))
        (bit_arms S1 S0 (signal_is o.a (Fixed S1 ∷ []) p.0) (signal_is o.b (Fixed S0 ∷ []) p.1) (λ at. not_of (read_at f o.s at)) (mux_inverse (read_at f o.s 0)) at)))
    select_inverse_says kind m change e = absurd (cc)

    pub inverted_select_says : KnowsInverters f o → RuleSays f shape o (λ kind. inverted_select kind own o)
    inverted_select_says k Word.Mux m change e =
        map_case (WordSays f shape o Word.Mux) change (λ s. chooser own o.b o.a (s ∷ [])) o.inverted e (λ s i.
        becomes_chooser f fixed shape o Word.Mux own narrow o.b o.a (s ∷ []) (λ at h.
        subst (λ z. Below z (mux_of (read_at f o.b at) (read_at f o.a at) (f s))) (sym (mux_bit at h))
        (mux_turned (read_at f o.a at) (read_at f o.b at) (read_at f o.s 0) (f s) (k.inverted s i))))
    inverted_select_says k kind m change e = absurd (cc)
