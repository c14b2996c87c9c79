-- The rule for shifts says no less.
use Rattle.std.proofs.Common.{◌≡◌, refl, sym, ◌∙◌, ap, subst, inl, inr, ℕ, zero, suc, ◌-◌, max, Bool, true, false, List, [], ◌∷◌, map, length, arith, ℤ, pos, negsuc, ◌+ℤ◌}
use Rattle.std.specs.Prelude.{nat_lt, if◌then◌else◌, slice_get, slice_index_or, unwrap_or}
use Rattle.std.specs.List.{list_all, range_with_len}
use Rattle.std.proofs.lemmas.Bool.{and_parts}
use Rattle.std.proofs.lemmas.List.{length-map}
use Rattle.std.proofs.lemmas.List.FromFn.{get_or-map-range_with_len}
use Rattle.std.proofs.Math.ListN.{get_or-map}
use Rattle.rtl_bits.proofs.Orders.{Below_from_equal}
use Rattle.rtl_bits.specs.Knowledge.{Below, all_known}
use Rattle.rtl_bits.specs.Tables.{seen_of}
use Rattle.rtl_bits.specs.declared.bit.Bit.{Bit}
use Rattle.rtl_bits.specs.declared.bit.Bit.TheVariants.{S0, X}
use Rattle.rtl_sig.specs.Signal.{fill_of}
use Rattle.rtl_sig.specs.declared.sig.SigBit.{SigBit}
use Rattle.rtl_sig.specs.declared.sig.SigBit.TheVariants.{Fixed, Wire as OnWire}
use Rattle.cell_types.specs.declared.shape.Shape.{Shape}
use Rattle.cell_types.specs.declared.word.ShiftKind.{ShiftKind}
use Rattle.cell_types.specs.declared.word.ShiftKind.TheVariants.{Sshr, Shiftx}
use Rattle.cell_types.specs.declared.word.WordKind.TheVariants.{Shift}
use Rattle.cell_word.specs.Shifts as words
use Rattle.cell_word.specs.Shifts.{below_of, distance_of, moved_of, read_of}
use Rattle.cell_word.specs.Words.{extended_at, unknown_of}
use Rattle.net_model.specs.Within.{Each}
use Rattle.expr_rules.specs.Laws.{IsReading}
use Rattle.expr_rules.specs.Rules.Shift.{known_shift, moved_signal, signal_at, signal_from}
use Rattle.expr_rules.specs.Signals.{constants_of, is_known_constant}
use Rattle.rtl_ir.specs.Signals.{constant_of}
use Rattle.expr_rules.specs.declared.change.Change.TheVariants.{Gives}
use Rattle.expr_rules.specs.declared.operands.Operands.{Operands}
use Rattle.expr_rules.proofs.Cases.{when_case}
use Rattle.expr_rules.proofs.Distances.{known_constants}
use Rattle.expr_rules.proofs.Reading.{fill_read, read_word, word_at}
use Rattle.expr_rules.proofs.Says.{RuleSays, WordSays, bit_of}
use Rattle.expr_rules.proofs.Tables.{seen_below}

module _ (f : SigBit → Bit) (fixed : IsReading f) where
  known_is : (b : SigBit) → is_known_constant b ≡ true → constant_of b ≡ f b
  known_is (Fixed c) e = sym (fixed c)
  known_is (OnWire b) e = absurd (cc)

  pub known_are : (word : List SigBit) → list_all is_known_constant word ≡ true → constants_of word ≡ map f word
  known_are [] e = refl
  known_are (b ∷ word) e =
      let p = and_parts (is_known_constant b) (list_all is_known_constant word) e in
      let x : constant_of b ≡ f b = known_is b p.0 in
      let y : constants_of word ≡ map f word = known_are word p.1 in
      λ i. x i ∷ y i

  extended_bit_read : (signed : Bool) (a : List SigBit) (at : ℕ) → extended_at signed (map f a) at ≡ f (slice_index_or a at (fill_of a signed))
  extended_bit_read signed a at = ap (slice_index_or (map f a) at) (fill_read f fixed signed a) ∙ get_or-map f a at (fill_of a signed)

  if_read : (t : Bool) (x : Bit) (b : SigBit) → x ≡ f b → (if t then x else S0) ≡ f (if t then b else Fixed S0)
  if_read true x b e = e
  if_read false x b e = sym (fixed S0)

  -- the bit at a place is what the word has there
  place_read : (kind : ShiftKind) (signed : Bool) (a : List SigBit) (width at : ℕ) → words.read_at kind signed (map f a) width at ≡ f (signal_at kind signed a width at)
  place_read Sshr signed a width at = extended_bit_read signed a at
  place_read Shiftx signed a width at = read_word f fixed a at
  place_read kind signed a width at = if_read (nat_lt at width) (extended_at signed (map f a) at) (slice_index_or a at (fill_of a signed)) (extended_bit_read signed a at)

  from_below : (kind : ShiftKind) (signed : Bool) (a : List SigBit) (width : ℕ) (z : ℤ) → Below (read_of kind signed (map f a) width z) (f (signal_from kind signed a width z))
  from_below kind signed a width (pos at) = subst (λ x. Below (seen_of x) (f (signal_at kind signed a width at))) (sym (place_read kind signed a width at)) (seen_below (f (signal_at kind signed a width at)))
  from_below kind signed a width (negsuc n) = Below_from_equal (below_of kind) (f (Fixed (below_of kind))) (sym (fixed (below_of kind)))

  module _ (shape : Shape) (o : Operands) where
    pub known_shift_says : RuleSays f shape o (λ kind. known_shift kind shape o)
    known_shift_says (Shift kind) m change e =
        when_case (WordSays f shape o (Shift kind)) change (list_all is_known_constant o.b) (Gives (moved_signal kind shape.signs.a o.a (distance_of kind shape.signs.b (constants_of o.b)) shape.widths.y)) e (λ t at h.
        let b : constants_of o.b ≡ map f o.b = known_are o.b t in
        let k : all_known (map f o.b) ≡ true = ap all_known (sym b) ∙ known_constants o.b t in
        let z : ℤ = pos at +ℤ distance_of kind shape.signs.b (constants_of o.b) in
        let v : bit_of f shape o (Shift kind) at ≡ read_of kind shape.signs.a (map f o.a) (max (length o.a) shape.widths.y) z =
        ap (λ t. slice_index_or (if t then moved_of kind shape.signs.a (map f o.a) (distance_of kind shape.signs.b (map f o.b)) shape.widths.y else unknown_of shape.widths.y) at X) k
        ∙ word_at (λ at. read_of kind shape.signs.a (map f o.a) (max (length (map f o.a)) shape.widths.y) (pos at +ℤ distance_of kind shape.signs.b (map f o.b))) shape.widths.y at h
        ∙ ap (λ n. read_of kind shape.signs.a (map f o.a) (max n shape.widths.y) (pos at +ℤ distance_of kind shape.signs.b (map f o.b))) (length-map o.a f)
        ∙ ap (λ w. read_of kind shape.signs.a (map f o.a) (max (length o.a) shape.widths.y) (pos at +ℤ distance_of kind shape.signs.b w)) (sym b) in
        let s : slice_index_or (moved_signal kind shape.signs.a o.a (distance_of kind shape.signs.b (constants_of o.b)) shape.widths.y) at (Fixed S0) ≡ signal_from kind shape.signs.a o.a (max (length o.a) shape.widths.y) z =
        get_or-map-range_with_len (λ at. signal_from kind shape.signs.a o.a (max (length o.a) shape.widths.y) (pos at +ℤ distance_of kind shape.signs.b (constants_of o.b))) 0 shape.widths.y at at (Fixed S0) h (omega arith) in
        subst (λ x. Below x (f (slice_index_or (moved_signal kind shape.signs.a o.a (distance_of kind shape.signs.b (constants_of o.b)) shape.widths.y) at (Fixed S0)))) (sym v)
        (subst (λ x. Below (read_of kind shape.signs.a (map f o.a) (max (length o.a) shape.widths.y) z) (f x)) (sym s)
        (from_below kind shape.signs.a o.a (max (length o.a) shape.widths.y) z)))
    known_shift_says kind m change e = absurd (cc)

-- a moved word is made of the bits of the operand and of constants
module _ (P : SigBit → Type 0) (constants : (c : Bit) → P (Fixed c)) where
  at_has : (word : List SigBit) (at : ℕ) (d : SigBit) → P d → Each P word → P (slice_index_or word at d)
  at_has [] at d p h = p
  at_has (b ∷ word) zero d p h = h b (inl refl)
  at_has (b ∷ word) (suc at) d p h = at_has word at d p (λ x i. h x (inr i))

  got_has : (word : List SigBit) (at : ℕ) → Each P word → P (unwrap_or (slice_get word at) (Fixed S0))
  got_has [] at h = constants S0
  got_has (b ∷ word) zero h = h b (inl refl)
  got_has (b ∷ word) (suc at) h = got_has word at (λ x i. h x (inr i))

  fill_has : (signed : Bool) (word : List SigBit) → Each P word → P (fill_of word signed)
  fill_has true word h = got_has word (length word - 1) h
  fill_has false word h = constants S0

  if_has : (t : Bool) (b : SigBit) → P b → P (if t then b else Fixed S0)
  if_has true b p = p
  if_has false b p = constants S0

  place_has : (kind : ShiftKind) (signed : Bool) (a : List SigBit) (width at : ℕ) → Each P a → P (signal_at kind signed a width at)
  place_has Sshr signed a width at h = at_has a at (fill_of a signed) (fill_has signed a h) h
  place_has Shiftx signed a width at h = at_has a at (Fixed X) (constants X) h
  place_has kind signed a width at h = if_has (nat_lt at width) (slice_index_or a at (fill_of a signed)) (at_has a at (fill_of a signed) (fill_has signed a h) h)

  from_has : (kind : ShiftKind) (signed : Bool) (a : List SigBit) (width : ℕ) (z : ℤ) → Each P a → P (signal_from kind signed a width z)
  from_has kind signed a width (pos at) h = place_has kind signed a width at h
  from_has kind signed a width (negsuc n) h = constants (below_of kind)

  each_place : (g : ℕ → SigBit) (places : List ℕ) → ((at : ℕ) → P (g at)) → Each P (map g places)
  each_place g [] h x i = absurd i
  each_place g (at ∷ places) h x (inl e) = subst P (sym e) (h at)
  each_place g (at ∷ places) h x (inr i) = each_place g places h x i

  pub moved_has : (kind : ShiftKind) (signed : Bool) (a : List SigBit) (distance : ℤ) (width : ℕ) → Each P a → Each P (moved_signal kind signed a distance width)
  moved_has kind signed a distance width h =
      each_place (λ at. signal_from kind signed a (max (length a) width) (pos at +ℤ distance)) (range_with_len 0 width) (λ at. from_has kind signed a (max (length a) width) (pos at +ℤ distance) h)
