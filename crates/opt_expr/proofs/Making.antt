-- What changes are made of: bits of the operands and constants, and the shapes of new cells.
use Rattle.std.proofs.Common.{◌≡◌, ℕ, zero, suc, Bool, true, false, List, [], ◌∷◌, ◌++◌, map, take, drop, replicate, Option, Some, None, ◌⊎◌, inl, inr, ⊎_elim, refl, sym, ◌∙◌, ap, subst}
use Rattle.std.specs.Prelude.{◌&&◌, ◌==◌, ◌-◌, ◌+◌, ◌*◌, ◌+ℤ◌, ℤ, pos, negsuc, max, nat_lt, length, slice_get, slice_index_or, unwrap_or, if◌then◌else◌}
use Rattle.std.proofs.lemmas.Bool.{and_parts, eqb-true}
use Rattle.std.specs.List.{list_all, range_with_len}
use Rattle.rtl_bits.specs.Knowledge.{all_known}
use Rattle.rtl_ir.specs.Signals.{is_all_constant, same_signal}
use Rattle.std.specs.Option.{option_map, option_map_or}
use Rattle.rtl_bits.specs.declared.bit.Bit.{Bit}
use Rattle.rtl_bits.specs.declared.bit.Bit.TheVariants.{S0, S1, X}
use Rattle.rtl_sig.specs.Signal.{extended, fill_of}
use Rattle.rtl_sig.specs.declared.sig.SigBit.{SigBit}
use Rattle.rtl_sig.specs.declared.sig.SigBit.TheVariants.{Fixed}
use Rattle.cell_types.specs.declared.shape.Shape.{Shape}
use Rattle.cell_types.specs.declared.word.ArithKind.TheVariants as Ariths
use Rattle.cell_types.specs.declared.word.BitwiseKind.TheVariants as Bits
use Rattle.cell_types.specs.declared.word.DivisionKind.{DivisionKind}
use Rattle.cell_types.specs.declared.word.DivisionKind.TheVariants as Divisions
use Rattle.cell_types.specs.declared.word.EqualKind.{EqualKind}
use Rattle.cell_types.specs.declared.word.FoldKind.{FoldKind}
use Rattle.cell_types.specs.declared.word.FoldKind.TheVariants as Folds
use Rattle.cell_types.specs.declared.word.ShiftKind.{ShiftKind}
use Rattle.cell_types.specs.declared.word.ShiftKind.TheVariants as Shifts
use Rattle.cell_types.specs.declared.word.UnaryKind.TheVariants as Unaries
use Rattle.cell_types.specs.declared.word.WordKind.{WordKind}
use Rattle.cell_types.specs.declared.word.WordKind.TheVariants as Word
use Rattle.cell_word.specs.Shifts.{below_of, distance_of}
use Rattle.cell_word.specs.Values.{both_signed}
use Rattle.net_model.proofs.Members.{In-cases}
use Rattle.net_model.specs.Lists.{In}
use Rattle.net_model.specs.Within.{Each}
use Rattle.rtl_ir.proofs.SamePlaces.{signal_is}
use Rattle.expr_rules.specs.Change.{chooser, chooser_kind, first_some, fitted, inverter, inverter_kind, when}
use Rattle.expr_rules.specs.Operands.{counted_as}
use Rattle.expr_rules.specs.Rules.{change_of, first_of, result_as, result_by, result_of, result_of_gate, rules_in_order}
use Rattle.expr_rules.specs.Rules.Arith.{add_zero, divide_by_power, equal_difference, moved_up, mul_by_bit, mul_by_power, power_of, quotient_by, times_small}
use Rattle.expr_rules.specs.Rules.Compare.{beside_bit, compare, of_equals, one_bit_compare, passing, turning}
use Rattle.expr_rules.specs.Rules.Constants.{constant_value}
use Rattle.expr_rules.specs.Rules.Fold.{folded_bit, one_bit}
use Rattle.expr_rules.specs.Rules.Logic.{and_with_ones, beside_ones, beside_zeros, double_not, equal_operands, equal_parity, or_with_zeros, xor_with_ones}
use Rattle.expr_rules.specs.Rules.Mux.{arm_bit, arm_of, equal_arms, equal_words, known_selects, inverted_select, known_select, select_inverse, select_itself, unknown_arm}
use Rattle.expr_rules.specs.Rules.Parts.{known_part, known_place, number_in}
use Rattle.expr_rules.specs.Rules.Shift.{known_shift, moved_signal, signal_at, signal_from}
use Rattle.expr_rules.specs.Rules.Wiring.{buffer, wiring}
use Rattle.expr_rules.specs.Signals.{filled, first_bit, constants_of, is_bit, is_known_constant, is_one, is_unknown_constant, is_zero, part_of}
use Rattle.expr_rules.specs.declared.change.Change.{Change}
use Rattle.expr_rules.specs.declared.change.Change.TheVariants.{Gives, Becomes}
use Rattle.expr_rules.specs.declared.change.NewCell.{NewCell}
use Rattle.expr_rules.specs.declared.operands.Operands.{Operands}
use Rattle.expr_rules.specs.declared.rules.Rule.{Rule}
use Rattle.expr_rules.specs.declared.rules.Rule.TheVariants as By

in_replicate : {A : Type 0} (n : ℕ) (y x : A) → In x (replicate n y) → x ≡ y
in_replicate zero y x i = absurd i
in_replicate (suc n) y x (inl e) = e
in_replicate (suc n) y x (inr i) = in_replicate n y x i

in_take : {A : Type 0} (n : ℕ) (ys : List A) (x : A) → In x (take n ys) → In x ys
in_take zero ys x i = absurd i
in_take (suc n) [] x i = absurd i
in_take (suc n) (y ∷ ys) x (inl e) = inl e
in_take (suc n) (y ∷ ys) x (inr i) = inr (in_take n ys x i)

in_drop : {A : Type 0} (n : ℕ) (ys : List A) (x : A) → In x (drop n ys) → In x ys
in_drop zero ys x i = i
in_drop (suc n) [] x i = absurd i
in_drop (suc n) (y ∷ ys) x i = inr (in_drop n ys x i)

each_made : {A : Type 0} (P : SigBit → Type 0) (f : A → SigBit) (xs : List A) → ((x : A) → P (f x)) → Each P (map f xs)
each_made P f [] h y i = absurd i
each_made P f (x ∷ xs) h y (inl e) = subst P (sym e) (h x)
each_made P f (x ∷ xs) h y (inr i) = each_made P f xs h y i

module _ (P : SigBit → Type 0) (fixed : (c : Bit) → P (Fixed c)) where
  each_more : (xs ys : List SigBit) → Each P xs → Each P ys → Each P (xs ++ ys)
  each_more xs ys h k x i = ⊎_elim (λ l. h x l) (λ r. k x r) (In-cases x xs ys i)

  each_filled : (n : ℕ) (b : SigBit) → P b → Each P (replicate n b)
  each_filled n b h x i = subst P (sym (in_replicate n b x i)) h

  each_fixed : (bits : List Bit) → Each P (map Fixed bits)
  each_fixed [] x i = absurd i
  each_fixed (b ∷ bits) x (inl e) = subst P (sym e) (fixed b)
  each_fixed (b ∷ bits) x (inr i) = each_fixed bits x i

  pub at_place : (xs : List SigBit) (k : ℕ) (d : SigBit) → P d → Each P xs → P (slice_index_or xs k d)
  at_place [] k d other h = other
  at_place (x ∷ xs) zero d other h = h x (inl refl)
  at_place (x ∷ xs) (suc k) d other h = at_place xs k d other (λ y i. h y (inr i))

  each_part : (word : List SigBit) (offset : ℕ) (places : List ℕ) → Each P word → Each P (map (λ at. slice_index_or word (offset + at) (Fixed X)) places)
  each_part word offset [] h x i = absurd i
  each_part word offset (k ∷ places) h x (inl e) = subst P (sym e) (at_place word (offset + k) (Fixed X) (fixed X) h)
  each_part word offset (k ∷ places) h x (inr i) = each_part word offset places h x i

  got_has : (xs : List SigBit) (k : ℕ) (d : SigBit) → P d → Each P xs → P (unwrap_or (slice_get xs k) d)
  got_has [] k d other h = other
  got_has (x ∷ xs) zero d other h = h x (inl refl)
  got_has (x ∷ xs) (suc k) d other h = got_has xs k d other (λ y i. h y (inr i))

  fill_has : (bits : List SigBit) (signed : Bool) → Each P bits → P (fill_of bits signed)
  fill_has bits true h = got_has bits (length bits - 1) (Fixed S0) (fixed S0) h
  fill_has bits false h = fixed S0

  pub extended_has : (bits : List SigBit) (width : ℕ) (signed : Bool) → Each P bits → Each P (extended bits width signed)
  extended_has bits width signed h =
      each_more (take width bits) (replicate (width - length bits) (fill_of bits signed)) (λ x i. h x (in_take width bits x i)) (each_filled (width - length bits) (fill_of bits signed) (fill_has bits signed h))

  one_has : (b : SigBit) → P b → Each P (b ∷ [])
  one_has b h x (inl e) = subst P (sym e) h
  one_has b h x (inr i) = absurd i

-- a new cell of the place of a cell of a shape: an inverter or a multiplexer as wide as it
pub data IsShaped (shape : Shape) (c : NewCell) : Type 0 where
  Inverter : c.kind ≡ inverter_kind shape.kind → c.b ≡ [] → c.s ≡ [] → length c.a ≡ shape.widths.y → IsShaped shape c
  Chooser : c.kind ≡ chooser_kind shape.kind → length c.a ≡ shape.widths.y → length c.b ≡ shape.widths.y → length c.s ≡ 1 → IsShaped shape c

-- a word of one constant has one bit
one_long : (b : Bit) (word : List SigBit) → is_bit b word ≡ true → length word ≡ 1
one_long b word e = ap length (signal_is word (Fixed b ∷ []) e)

-- what is there where a test holds
when_held : {A : Type 0} (t : Bool) (x y : A) → when t x ≡ Some y → (t ≡ true) × (x ≡ y)
when_held true x y e = (refl, (let same : x ≡ y = cc in same))
when_held false x y e = absurd (cc)

-- the widths of the operands of a cell that counts as a word cell, where new cells are as wide
abbrev pub AreWide : WordKind → Shape → Operands → Type 0
AreWide (Word.Bitwise kind) shape o = (length o.left ≡ shape.widths.y) × (length o.right ≡ shape.widths.y)
AreWide Word.Mux shape o = (length o.a ≡ shape.widths.y) × (length o.b ≡ shape.widths.y) × (length o.s ≡ 1)
AreWide Word.Pmux shape o = (length o.a ≡ shape.widths.y) × (length o.s ≡ 1 → length o.b ≡ shape.widths.y)
AreWide kind shape o = Unit {0}

-- the same where it may count as none
abbrev pub AreWideAs : Option WordKind → Shape → Operands → Type 0
AreWideAs (Some kind) shape o = AreWide kind shape o
AreWideAs None shape o = Unit {0}

module _ (P : SigBit → Type 0) (fixed : (c : Bit) → P (Fixed c)) (shape : Shape) where
  -- what a change is made of
  pub record IsBecome (c : NewCell) : Type 0 where
    pub shaped : IsShaped shape c
    pub a : Each P c.a
    pub b : Each P c.b
    pub s : Each P c.s

  abbrev pub IsMade : Change → Type 0
  IsMade (Gives word) = Each P word
  IsMade (Becomes c) = IsBecome c

  abbrev pub IfMade : Option Change → Type 0
  IfMade None = Unit {0}
  IfMade (Some change) = IsMade change

  when_made : (t : Bool) (change : Change) → (t ≡ true → IsMade change) → IfMade (when t change)
  when_made true change h = h refl
  when_made false change h = tt

  first_made : (x y : Option Change) → IfMade x → IfMade y → IfMade (first_some x y)
  first_made None y h k = k
  first_made (Some change) y h k = h

  if_made : (t : Bool) (x y : Option Change) → (t ≡ true → IfMade x) → (t ≡ false → IfMade y) → IfMade (if t then x else y)
  if_made true x y h k = h refl
  if_made false x y h k = k refl

  map_made : {A : Type 0} (f : A → Change) (x : Option A) → ((a : A) → x ≡ Some a → IsMade (f a)) → IfMade (option_map f x)
  map_made f None h = tt
  map_made f (Some a) h = h a refl

  inverter_made : (a : List SigBit) → length a ≡ shape.widths.y → Each P a → IsMade (inverter shape.kind a)
  inverter_made a wide h = record { shaped = Inverter refl refl refl wide; a = h; b = λ x i. absurd i; s = λ x i. absurd i }

  chooser_made : (a b s : List SigBit) → length a ≡ shape.widths.y → length b ≡ shape.widths.y → length s ≡ 1 → Each P a → Each P b → Each P s → IsMade (chooser shape.kind a b s)
  chooser_made a b s wide high long h k l = record { shaped = Chooser refl wide high long; a = h; b = k; s = l }

  module _ (o : Operands) (a : Each P o.a) (b : Each P o.b) (s : Each P o.s) (left : Each P o.left) (right : Each P o.right) (inverted : (bit : SigBit) → o.inverted ≡ Some bit → P bit) (inner : (word : List SigBit) → o.inner ≡ Some word → Each P word) where
    all_zeros : Each P (filled shape.widths.y S0)
    all_zeros = each_filled P fixed shape.widths.y (Fixed S0) (fixed S0)

    -- one of the two operands
    beside : (t u : Bool) (word : List SigBit) → first_some (when t o.left) (when u o.right) ≡ Some word → (o.left ≡ word) ⊎ (o.right ≡ word)
    beside true u word e = inl (let same : o.left ≡ word = cc in same)
    beside false true word e = inr (let same : o.right ≡ word = cc in same)
    beside false false word e = absurd (cc)

    beside_has : (t u : Bool) (word : List SigBit) → first_some (when t o.left) (when u o.right) ≡ Some word → Each P word
    beside_has t u word e = ⊎_elim (λ q. subst (Each P) q left) (λ q. subst (Each P) q right) (beside t u word e)

    zeros_made : IfMade (option_map Gives (beside_zeros o))
    zeros_made = map_made Gives (beside_zeros o) (λ word e. beside_has (list_all is_zero o.right) (list_all is_zero o.left) word e)

    constants_made : (t : Bool) → IfMade (when t (Gives (map Fixed (constant_value shape o))))
    constants_made t = when_made t (Gives (map Fixed (constant_value shape o))) (λ e. each_fixed P fixed (constant_value shape o))

    buffer_made : (kind : WordKind) → IfMade (buffer kind o)
    buffer_made (Word.Unary Unaries.Pos) = left
    buffer_made Word.Buf = a
    buffer_made kind = tt

    wiring_made : (kind : WordKind) → IfMade (wiring kind shape o)
    wiring_made Word.Slice = each_part P fixed o.a shape.offset (range_with_len 0 shape.widths.y) a
    wiring_made Word.Concat = each_more P fixed o.a o.b a b
    wiring_made kind = tt

    arm_made : (bit : SigBit) → IfMade (arm_of bit o.a o.b)
    arm_made (Fixed S0) = a
    arm_made (Fixed S1) = b
    arm_made bit = tt

    known_select_made : (kind : WordKind) → IfMade (known_select kind o)
    known_select_made Word.Mux = arm_made (first_bit o.s)
    known_select_made kind = tt

    equal_arms_made : (kind : WordKind) → IfMade (equal_arms kind o)
    equal_arms_made Word.Mux = when_made (same_signal o.a o.b) (Gives o.a) (λ e. a)
    equal_arms_made kind = tt

    unknown_arm_made : (kind : WordKind) → IfMade (unknown_arm kind o)
    unknown_arm_made Word.Mux =
        first_made (when (list_all is_unknown_constant o.a) (Gives o.b)) (when (list_all is_unknown_constant o.b) (Gives o.a))
        (when_made (list_all is_unknown_constant o.a) (Gives o.b) (λ e. b)) (when_made (list_all is_unknown_constant o.b) (Gives o.a) (λ e. a))
    unknown_arm_made kind = tt

    select_itself_made : (kind : WordKind) → IfMade (select_itself kind o)
    select_itself_made Word.Mux = when_made (is_bit S0 o.a && is_bit S1 o.b) (Gives o.s) (λ e. s)
    select_itself_made kind = tt

    select_inverse_made : (kind : WordKind) → AreWide kind shape o → IfMade (select_inverse kind shape.kind o)
    select_inverse_made Word.Mux w =
        when_made (is_bit S1 o.a && is_bit S0 o.b) (inverter shape.kind o.s) (λ e. inverter_made o.s (w.2 ∙ sym (one_long S1 o.a (and_parts (is_bit S1 o.a) (is_bit S0 o.b) e).0) ∙ w.0) s)
    select_inverse_made kind w = tt

    inverted_select_made : (kind : WordKind) → AreWide kind shape o → IfMade (inverted_select kind shape.kind o)
    inverted_select_made Word.Mux w =
        map_made (λ bit. chooser shape.kind o.b o.a (bit ∷ [])) o.inverted (λ bit e. chooser_made o.b o.a (bit ∷ []) w.1 w.0 refl b a (λ x i. ⊎_elim (λ q. subst P (sym q) (inverted bit e)) (λ z. absurd z) i))
    inverted_select_made kind w = tt

    and_with_ones_made : (kind : WordKind) → IfMade (and_with_ones kind o)
    and_with_ones_made (Word.Bitwise Bits.And) = map_made Gives (beside_ones o) (λ word e. beside_has (list_all is_one o.right) (list_all is_one o.left) word e)
    and_with_ones_made kind = tt

    or_with_zeros_made : (kind : WordKind) → IfMade (or_with_zeros kind o)
    or_with_zeros_made (Word.Bitwise Bits.Or) = zeros_made
    or_with_zeros_made (Word.Bitwise Bits.Xor) = zeros_made
    or_with_zeros_made kind = tt

    equal_operands_made : (kind : WordKind) → IfMade (equal_operands kind o)
    equal_operands_made (Word.Bitwise Bits.And) = when_made (same_signal o.left o.right) (Gives o.left) (λ e. left)
    equal_operands_made (Word.Bitwise Bits.Or) = when_made (same_signal o.left o.right) (Gives o.left) (λ e. left)
    equal_operands_made kind = tt

    equal_parity_made : (kind : WordKind) → IfMade (equal_parity kind shape o)
    equal_parity_made (Word.Bitwise Bits.Xor) = when_made (same_signal o.left o.right) (Gives (filled shape.widths.y S0)) (λ e. all_zeros)
    equal_parity_made (Word.Bitwise Bits.Xnor) = when_made (same_signal o.left o.right) (Gives (filled shape.widths.y S1)) (λ e. each_filled P fixed shape.widths.y (Fixed S1) (fixed S1))
    equal_parity_made kind = tt

    xor_with_ones_made : (kind : WordKind) → AreWide kind shape o → IfMade (xor_with_ones kind shape.kind o)
    xor_with_ones_made (Word.Bitwise Bits.Xor) w =
        map_made (inverter shape.kind) (beside_ones o) (λ word e.
        inverter_made word
        (⊎_elim (λ q. ap length (sym q) ∙ w.0) (λ q. ap length (sym q) ∙ w.1) (beside (list_all is_one o.right) (list_all is_one o.left) word e))
        (beside_has (list_all is_one o.right) (list_all is_one o.left) word e))
    xor_with_ones_made kind w = tt

    double_not_made : (kind : WordKind) → IfMade (double_not kind shape o)
    double_not_made (Word.Unary Unaries.Not) = by o.inner inner
      where
        by : (x : Option (List SigBit)) → ((word : List SigBit) → x ≡ Some word → Each P word) → IfMade (option_map_or (λ word. when ((length o.a == shape.widths.y) && (length word == shape.widths.y)) (Gives word)) x None)
        by None h = tt
        by (Some word) h = when_made ((length o.a == shape.widths.y) && (length word == shape.widths.y)) (Gives word) (λ e. h word refl)
    double_not_made kind = tt

    add_zero_made : (kind : WordKind) → IfMade (add_zero kind o)
    add_zero_made (Word.Arith Ariths.Add) = zeros_made
    add_zero_made (Word.Arith Ariths.Sub) = when_made (list_all is_zero o.right) (Gives o.left) (λ e. left)
    add_zero_made kind = tt

    equal_difference_made : (kind : WordKind) → IfMade (equal_difference kind shape o)
    equal_difference_made (Word.Arith Ariths.Sub) = when_made (same_signal o.left o.right) (Gives (filled shape.widths.y S0)) (λ e. all_zeros)
    equal_difference_made kind = tt

    times_made : (factor : List SigBit) (power : Option ℕ) (other : List SigBit) → Each P other → IfMade (times_small shape factor power other)
    times_made factor (Some zero) other h = h
    times_made factor (Some (suc n)) other h = when_made (list_all is_zero factor) (Gives (filled shape.widths.y S0)) (λ e. all_zeros)
    times_made factor None other h = when_made (list_all is_zero factor) (Gives (filled shape.widths.y S0)) (λ e. all_zeros)

    mul_by_bit_made : (kind : WordKind) → IfMade (mul_by_bit kind shape o)
    mul_by_bit_made (Word.Arith Ariths.Mul) =
        first_made (times_small shape o.right (power_of o.right) o.left) (times_small shape o.left (power_of o.left) o.right) (times_made o.right (power_of o.right) o.left left) (times_made o.left (power_of o.left) o.right right)
    mul_by_bit_made kind = tt

    moved_made : (word : List SigBit) (power : Option ℕ) → Each P word → IfMade (option_map (λ places. Gives (moved_up places word)) power)
    moved_made word power h = map_made (λ places. Gives (moved_up places word)) power (λ places e. each_more P fixed (filled places S0) word (each_filled P fixed places (Fixed S0) (fixed S0)) h)

    mul_by_power_made : (kind : WordKind) → IfMade (mul_by_power kind o)
    mul_by_power_made (Word.Arith Ariths.Mul) =
        first_made (option_map (λ places. Gives (moved_up places o.left)) (power_of o.right)) (option_map (λ places. Gives (moved_up places o.right)) (power_of o.left)) (moved_made o.left (power_of o.right) left) (moved_made o.right (power_of o.left) right)
    mul_by_power_made kind = tt

    quotient_has : (kind : DivisionKind) (places : ℕ) → Each P (quotient_by kind o.left places)
    quotient_has Divisions.Div places x i = left x (in_drop places o.left x i)
    quotient_has Divisions.DivFloor places x i = left x (in_drop places o.left x i)
    quotient_has Divisions.Mod places x i = left x (in_take places o.left x i)
    quotient_has Divisions.ModFloor places x i = left x (in_take places o.left x i)

    divide_made : (kind : WordKind) → IfMade (divide_by_power kind shape o)
    divide_made (Word.Division kind) =
        if_made (both_signed shape) None (option_map (λ places. Gives (quotient_by kind o.left places)) (power_of o.right)) (λ e. tt) (λ e. map_made (λ places. Gives (quotient_by kind o.left places)) (power_of o.right) (λ places f. quotient_has kind places))
    divide_made kind = tt

    moved_has : (kind : ShiftKind) (signed : Bool) (width at : ℕ) → P (signal_at kind signed o.a width at)
    moved_has Shifts.Sshr signed width at = at_place P fixed o.a at (fill_of o.a signed) (fill_has P fixed o.a signed a) a
    moved_has Shifts.Shiftx signed width at = at_place P fixed o.a at (Fixed X) (fixed X) a
    moved_has kind signed width at = by (nat_lt at width)
      where
        by : (t : Bool) → P (if t then slice_index_or o.a at (fill_of o.a signed) else Fixed S0)
        by true = at_place P fixed o.a at (fill_of o.a signed) (fill_has P fixed o.a signed a) a
        by false = fixed S0

    from_has : (kind : ShiftKind) (signed : Bool) (width : ℕ) (at : ℤ) → P (signal_from kind signed o.a width at)
    from_has kind signed width (pos at) = moved_has kind signed width at
    from_has kind signed width (negsuc n) = fixed (below_of kind)

    shift_made : (kind : WordKind) → IfMade (known_shift kind shape o)
    shift_made (Word.Shift kind) =
        let distance : ℤ = distance_of kind shape.signs.b (constants_of o.b) in
        when_made (list_all is_known_constant o.b) (Gives (moved_signal kind shape.signs.a o.a distance shape.widths.y)) (λ e.
        each_made P (λ at. signal_from kind shape.signs.a o.a (max (length o.a) shape.widths.y) (pos at +ℤ distance)) (range_with_len 0 shape.widths.y) (λ at. from_has kind shape.signs.a (max (length o.a) shape.widths.y) (pos at +ℤ distance)))
    shift_made kind = tt

    beside_bit_made : (kind : EqualKind) (constant other : List SigBit) → length other ≡ 1 → Each P other → IfMade (beside_bit kind shape.kind shape.widths.y constant other)
    beside_bit_made kind constant other one h =
        if_made (is_bit (passing kind) constant) (Some (Gives other)) (when (is_bit (turning kind) constant && (shape.widths.y == 1)) (inverter shape.kind other)) (λ e. h)
        (λ e. when_made (is_bit (turning kind) constant && (shape.widths.y == 1)) (inverter shape.kind other) (λ f. inverter_made other (one ∙ sym (eqb-true shape.widths.y 1 (and_parts (is_bit (turning kind) constant) (shape.widths.y == 1) f).1)) h))

    one_bit_compare_made : (kind : EqualKind) → IfMade (one_bit_compare kind shape.kind shape o)
    one_bit_compare_made kind =
        if_made ((length o.left == 1) && (length o.right == 1)) (first_some (beside_bit kind shape.kind shape.widths.y o.right o.left) (beside_bit kind shape.kind shape.widths.y o.left o.right)) None
        (λ e.
        let both = and_parts (length o.left == 1) (length o.right == 1) e in
        first_made (beside_bit kind shape.kind shape.widths.y o.right o.left) (beside_bit kind shape.kind shape.widths.y o.left o.right) (beside_bit_made kind o.right o.left (eqb-true (length o.left) 1 both.0) left) (beside_bit_made kind o.left o.right (eqb-true (length o.right) 1 both.1) right))
        (λ e. tt)

    compare_made : (kind : WordKind) → IfMade (compare kind shape.kind shape o)
    compare_made (Word.Equal kind) =
        if_made (same_signal o.left o.right) (Some (Gives (Fixed (passing kind) ∷ []))) (one_bit_compare kind shape.kind shape o) (λ e. each_fixed P fixed (passing kind ∷ [])) (λ e. one_bit_compare_made kind)
    compare_made (Word.Order kind) = when_made (same_signal o.left o.right) (Gives (Fixed (of_equals kind) ∷ [])) (λ e. each_fixed P fixed (of_equals kind ∷ []))
    compare_made kind = tt

    fold_inverse_made : IfMade (when ((length o.a == 1) && (shape.widths.y == 1)) (inverter shape.kind o.a))
    fold_inverse_made =
        when_made ((length o.a == 1) && (shape.widths.y == 1)) (inverter shape.kind o.a) (λ e.
        let both = and_parts (length o.a == 1) (shape.widths.y == 1) e in
        inverter_made o.a (eqb-true (length o.a) 1 both.0 ∙ sym (eqb-true shape.widths.y 1 both.1)) a)

    folded_made : (kind : FoldKind) → IfMade (folded_bit kind shape.kind shape o)
    folded_made Folds.Xnor = fold_inverse_made
    folded_made Folds.LogicNot = fold_inverse_made
    folded_made kind = when_made (length o.a == 1) (Gives o.a) (λ e. a)

    one_bit_made : (kind : WordKind) → AreWide kind shape o → IfMade (one_bit kind shape.kind shape o)
    one_bit_made (Word.Fold kind) w = folded_made kind
    one_bit_made Word.Pmux w =
        when_made (length o.s == 1) (chooser shape.kind o.a o.b o.s) (λ e.
        let one : length o.s ≡ 1 = eqb-true (length o.s) 1 e in
        chooser_made o.a o.b o.s w.0 (w.1 one) one a b s)
    one_bit_made kind w = tt

    arm_has : (bit : SigBit) (at : ℕ) → P (if is_one bit then slice_index_or o.b at (Fixed X) else slice_index_or o.a at (Fixed X))
    arm_has bit at = by (is_one bit)
      where
        by : (t : Bool) → P (if t then slice_index_or o.b at (Fixed X) else slice_index_or o.a at (Fixed X))
        by true = at_place P fixed o.b at (Fixed X) (fixed X) b
        by false = at_place P fixed o.a at (Fixed X) (fixed X) a

    known_selects_made : (kind : WordKind) → IfMade (known_selects kind shape o)
    known_selects_made Word.Bwmux =
        when_made (list_all is_known_constant o.s) (Gives (map (arm_bit o) (range_with_len 0 shape.widths.y))) (λ e.
        each_made P (arm_bit o) (range_with_len 0 shape.widths.y) (λ at. arm_has (slice_index_or o.s at (Fixed X)) at))
    known_selects_made kind = tt

    equal_words_made : (kind : WordKind) → IfMade (equal_words kind o)
    equal_words_made Word.Bwmux = when_made (same_signal o.a o.b) (Gives o.a) (λ e. a)
    equal_words_made kind = tt

    known_part_made : (kind : WordKind) → IfMade (known_part kind shape o)
    known_part_made Word.Bmux =
        map_made (λ part. Gives (part_of o.a (part * shape.widths.y) shape.widths.y)) (number_in o.s) (λ part e.
        each_part P fixed o.a (part * shape.widths.y) (range_with_len 0 shape.widths.y) a)
    known_part_made kind = tt

    known_place_made : (kind : WordKind) → IfMade (known_place kind o)
    known_place_made Word.Demux =
        map_made (λ part. Gives (filled (part * length o.a) S0 ++ o.a)) (number_in o.s) (λ part e.
        each_more P fixed (filled (part * length o.a) S0) o.a (each_filled P fixed (part * length o.a) (Fixed S0) (fixed S0)) a)
    known_place_made kind = tt

    by_made : (rule : Rule) (kind : WordKind) → AreWide kind shape o → IfMade (result_by rule kind shape o)
    by_made By.ConstantInputs kind w = constants_made (is_all_constant o.a && (is_all_constant o.b && is_all_constant o.s))
    by_made By.KnownValue kind w = constants_made (all_known (constant_value shape o))
    by_made By.Buffer kind w = buffer_made kind
    by_made By.Wiring kind w = wiring_made kind
    by_made By.KnownSelect kind w = known_select_made kind
    by_made By.EqualArms kind w = equal_arms_made kind
    by_made By.UnknownArm kind w = unknown_arm_made kind
    by_made By.SelectItself kind w = select_itself_made kind
    by_made By.SelectInverse kind w = select_inverse_made kind w
    by_made By.InvertedSelect kind w = inverted_select_made kind w
    by_made By.AndWithOnes kind w = and_with_ones_made kind
    by_made By.OrWithZeros kind w = or_with_zeros_made kind
    by_made By.EqualOperands kind w = equal_operands_made kind
    by_made By.EqualParity kind w = equal_parity_made kind
    by_made By.XorWithOnes kind w = xor_with_ones_made kind w
    by_made By.DoubleNot kind w = double_not_made kind
    by_made By.AddZero kind w = add_zero_made kind
    by_made By.EqualDifference kind w = equal_difference_made kind
    by_made By.MulByBit kind w = mul_by_bit_made kind
    by_made By.MulByPower kind w = mul_by_power_made kind
    by_made By.DivideByPower kind w = divide_made kind
    by_made By.KnownShift kind w = shift_made kind
    by_made By.Compare kind w = compare_made kind
    by_made By.OneBit kind w = one_bit_made kind w
    by_made By.KnownSelects kind w = known_selects_made kind
    by_made By.EqualWords kind w = equal_words_made kind
    by_made By.KnownPart kind w = known_part_made kind
    by_made By.KnownPlace kind w = known_place_made kind

    gate_made : (rule : Rule) → IfMade (result_of_gate rule shape o)
    gate_made By.ConstantInputs = constants_made (is_all_constant o.a && (is_all_constant o.b && is_all_constant o.s))
    gate_made By.KnownValue = constants_made (all_known (constant_value shape o))
    gate_made rule = tt

    as_made : (rule : Rule) (counted : Option WordKind) → AreWideAs counted shape o → IfMade (result_as counted rule shape o)
    as_made rule (Some kind) w = by_made rule kind w
    as_made rule None w = gate_made rule

    first_of_made : (rules : List Rule) → AreWideAs (counted_as shape.kind) shape o → IfMade (first_of rules shape o)
    first_of_made [] w = tt
    first_of_made (rule ∷ rules) w = first_made (result_of rule shape o) (first_of rules shape o) (as_made rule (counted_as shape.kind) w) (first_of_made rules w)

    fitted_made : (x : Option Change) → IfMade x → IfMade (option_map (fitted shape.widths.y) x)
    fitted_made None h = tt
    fitted_made (Some (Gives word)) h = extended_has P fixed word shape.widths.y false h
    fitted_made (Some (Becomes c)) h = h

    -- the change of a cell is made of bits of its operands and constants, and a new cell is as wide
    pub change_made : AreWideAs (counted_as shape.kind) shape o → IfMade (change_of shape o)
    change_made w = fitted_made (first_of rules_in_order shape o) (first_of_made rules_in_order w)
