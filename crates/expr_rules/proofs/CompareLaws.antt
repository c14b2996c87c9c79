-- The rule for compares says no less.
use Rattle.std.proofs.Common.{◌≡◌, ℕ, zero, suc, ◌+◌, ◌-◌, ◌*◌, ◌^◌, ◌<◌, ◌≤◌, max, Bool, true, false, List, [], ◌∷◌, length, map, Some, None, refl, sym, ◌∙◌, ap, subst, arith, ℤ, pos, negsuc, neg_ℤ, ◌+ℤ◌, ◌*ℤ◌, ◌<ℤ◌, ◌≤ℤ◌}
use Rattle.std.specs.Prelude.{slice_index_or, ◌&&◌, ◌==◌, if◌then◌else◌, int_lt, not}
use Rattle.std.specs.List.{fold, range_with_len}
use Rattle.std.proofs.lemmas.Bool.{and_parts}
use Rattle.std.proofs.lemmas.Bool.Decides.{nat_tests}
use Rattle.std.proofs.lemmas.Int.{ints}
use Rattle.std.proofs.lemmas.List.{length-map}
use Rattle.std.proofs.lemmas.Nat.{pow_pos}
use Rattle.std.proofs.Math.Nat.{mod-eq_of_lt, pow-le-pow_right, pow-succ'}
use Rattle.rtl_bits.proofs.Lists.{all_known_true}
use Rattle.rtl_bits.proofs.NumberLemmas.{integer_of_greatest, integer_of_least, number_of_bits_of, number_of_small}
use Rattle.rtl_bits.proofs.Orders.{Below_from_equal}
use Rattle.rtl_bits.proofs.Tables.{and_of_mono, not_of_mono}
use Rattle.rtl_bits.specs.Knowledge.{AreKnown, Below, all_known}
use Rattle.rtl_bits.specs.Numbers.{integer_of, number_of}
use Rattle.rtl_bits.specs.Tables.{and_of, not_of, xor_of}
use Rattle.rtl_bits.specs.declared.bit.Bit.{Bit}
use Rattle.rtl_bits.specs.declared.bit.Bit.TheVariants.{S0, S1, X}
use Rattle.rtl_sig.specs.Signal.{extended}
use Rattle.rtl_sig.specs.declared.sig.SigBit.{SigBit}
use Rattle.rtl_sig.specs.declared.sig.SigBit.TheVariants.{Fixed}
use Rattle.cell_types.specs.declared.kind.CellKind.{CellKind}
use Rattle.cell_types.specs.declared.shape.Shape.{Shape}
use Rattle.cell_types.specs.declared.word.EqualKind.{EqualKind}
use Rattle.cell_types.specs.declared.word.EqualKind.TheVariants.{Eq, Ne}
use Rattle.cell_types.specs.declared.word.OrderKind.{OrderKind}
use Rattle.cell_types.specs.declared.word.OrderKind.TheVariants.{Lt, Le, Ge, Gt}
use Rattle.cell_types.specs.declared.word.WordKind.TheVariants.{Equal, Order}
use Rattle.cell_word.specs.Arithmetic.{is_ordered, order_of}
use Rattle.cell_word.specs.Folds.{all_of, equal_of, equality_of}
use Rattle.cell_word.specs.Integers.{integer_bits, integer_in}
use Rattle.cell_word.specs.Values.{both_signed}
use Rattle.cell_word.specs.Words.{extended_at, one_bit_of, word_of}
use Rattle.expr_rules.specs.Change.{first_some, inverter, when}
use Rattle.expr_rules.specs.Laws.{IsReading, read_at}
use Rattle.expr_rules.specs.Rules.Compare.{beside_bit, compare, of_equals, one_bit_compare, passing, turning}
use Rattle.rtl_ir.specs.Signals.{same_signal}
use Rattle.expr_rules.specs.Signals.{is_bit}
use Rattle.expr_rules.specs.declared.change.Change.{Change}
use Rattle.expr_rules.specs.declared.change.Change.TheVariants.{Gives}
use Rattle.expr_rules.specs.declared.operands.Operands.{Operands}
use Rattle.expr_rules.proofs.Cases.{first_case, if_case, some_case, when_case}
use Rattle.expr_rules.proofs.ConstantWords.{meant_bits}
use Rattle.expr_rules.proofs.FoldLaws.{bit_says, inverse_says, one_of}
use Rattle.expr_rules.proofs.Integers.{AreCongruent, bits_congruent}
use Rattle.expr_rules.proofs.Reading.{extended_length, extended_read}
use Rattle.rtl_ir.proofs.SamePlaces.{signal_is}
use Rattle.expr_rules.proofs.Sameness.{equal_numbers}
use Rattle.expr_rules.proofs.Says.{IsMeantAs, IsNarrow, RuleSays, WordSays, becomes_inverter}
use Rattle.expr_rules.proofs.Tables.{xnor_same}

never_less : (z : ℤ) → int_lt z z ≡ false
never_less (pos n) = grind (arith, nat_tests)
never_less (negsuc n) = grind (arith, nat_tests)

-- what an order says of one integer twice
of_itself : (kind : OrderKind) (z : ℤ) → (if is_ordered kind z z then S1 else S0) ≡ of_equals kind
of_itself Lt z = ap (λ t. if t then S1 else S0) (never_less z)
of_itself Le z = ap (λ t. if not t then S1 else S0) (never_less z)
of_itself Ge z = ap (λ t. if not t then S1 else S0) (never_less z)
of_itself Gt z = ap (λ t. if t then S1 else S0) (never_less z)

-- places that agree are no more than 1 together
fold_agreeing : (g : ℕ → Bit) (from n : ℕ) (acc : Bit) → Below acc S1 → ((at : ℕ) → at < from + n → Below (g at) S1) → Below (fold and_of acc (map g (range_with_len from n))) S1
fold_agreeing g from zero acc h k = h
fold_agreeing g from (suc n) acc h k =
    fold_agreeing g (from + 1) n (and_of acc (g from)) (and_of_mono acc S1 (g from) S1 h (k from (omega arith))) (λ at lt. k at (omega arith))

-- what a compare of two bits gives
compared : EqualKind → Bit → Bit → Bit
compared Eq a b = and_of S1 (not_of (xor_of a b))
compared Ne a b = not_of (and_of S1 (not_of (xor_of a b)))

pass_right : (kind : EqualKind) (a : Bit) → Below (compared kind a (passing kind)) a
unfolding compared
pass_right Eq S0 = refl
pass_right Eq S1 = refl
pass_right Eq a = tt
pass_right Ne S0 = refl
pass_right Ne S1 = refl
pass_right Ne a = tt

pass_left : (kind : EqualKind) (a : Bit) → Below (compared kind (passing kind) a) a
unfolding compared
pass_left Eq S0 = refl
pass_left Eq S1 = refl
pass_left Eq a = tt
pass_left Ne S0 = refl
pass_left Ne S1 = refl
pass_left Ne a = tt

turn_right : (kind : EqualKind) (a : Bit) → Below (compared kind a (turning kind)) (not_of a)
unfolding compared
turn_right Eq S0 = refl
turn_right Eq S1 = refl
turn_right Eq a = tt
turn_right Ne S0 = refl
turn_right Ne S1 = refl
turn_right Ne a = tt

turn_left : (kind : EqualKind) (a : Bit) → Below (compared kind (turning kind) a) (not_of a)
unfolding compared
turn_left Eq S0 = refl
turn_left Eq S1 = refl
turn_left Eq a = tt
turn_left Ne S0 = refl
turn_left Ne S1 = refl
turn_left Ne a = tt

-- integers that differ by less than a multiple of 2 to the width
close : (y z : ℤ) (h p : ℕ) (t : ℤ) → neg_ℤ (pos h) ≤ℤ y → y <ℤ pos h → neg_ℤ (pos h) ≤ℤ z → z <ℤ pos h → 2 * h ≤ p → y ≡ z +ℤ t *ℤ pos p → y ≡ z
close y z h p (pos zero) a b c d k e = omega (arith, ints)
close y z h p (pos (suc n)) a b c d k e = omega (arith, ints)
close y z h p (negsuc n) a b c d k e = omega (arith, ints)

-- the integer of a word lies within the range of each greater width
record IsInRange (width : ℕ) (z : ℤ) : Type 0 where
  least : neg_ℤ (pos (2 ^ (width - 1))) ≤ℤ z
  greatest : z <ℤ pos (2 ^ (width - 1))

in_range : (bits : List Bit) (width : ℕ) → length bits ≤ width → 0 < width → IsInRange width (integer_of bits)
in_range [] width h p = let q = pow_pos (width - 1) in record { least = omega (arith, ints); greatest = omega (arith, ints) }
in_range (b ∷ bits) width h p =
    let q : 2 ^ (length (b ∷ bits) - 1) ≤ 2 ^ (width - 1) = pow-le-pow_right {n = 2} (omega arith) (omega arith) in
    let l = integer_of_least (b ∷ bits) (omega arith) in
    let g = integer_of_greatest (b ∷ bits) (omega arith) in
    record { least = omega (arith, ints); greatest = omega (arith, ints) }

-- integers of words are equal where the words are, extended
one_integer : (signed : Bool) (a b : List Bit) (width : ℕ) → length a ≤ width → length b ≤ width → AreCongruent width (integer_in signed a) (integer_in signed b) → integer_bits (integer_in signed a) width ≡ integer_bits (integer_in signed b) width → integer_in signed a ≡ integer_in signed b
one_integer false a b width la lb c e =
    let p : 2 ^ length a ≤ 2 ^ width = pow-le-pow_right {n = 2} (omega arith) la in
    let q : 2 ^ length b ≤ 2 ^ width = pow-le-pow_right {n = 2} (omega arith) lb in
    let sa = number_of_small a in
    let sb = number_of_small b in
    let ra : number_of a < 2 ^ width = omega arith in
    let rb : number_of b < 2 ^ width = omega arith in
    ap pos (sym (mod-eq_of_lt ra) ∙ sym (number_of_bits_of (number_of a) width) ∙ ap number_of e ∙ number_of_bits_of (number_of b) width ∙ mod-eq_of_lt rb)
one_integer true [] [] width la lb c e = refl
one_integer true a b zero la lb c e = empty a b (omega arith) (omega arith)
  where
    empty : (a b : List Bit) → length a ≤ 0 → length b ≤ 0 → integer_of a ≡ integer_of b
    empty [] [] h k = refl
    empty (a ∷ as') b h k = absurd (omega arith)
    empty [] (b ∷ bs) h k = absurd (omega arith)
one_integer true a b (suc width) la lb c e =
    let r = in_range a (suc width) la (omega arith) in
    let s = in_range b (suc width) lb (omega arith) in
    let w : suc width - 1 ≡ width = omega arith in
    let t : 2 * 2 ^ (suc width - 1) ≤ 2 ^ suc width = omega (arith, pow-succ' 2 width, ap (λ k. 2 ^ k) w) in
    close (integer_of a) (integer_of b) (2 ^ (suc width - 1)) (2 ^ suc width) c.quotient r.least r.greatest s.least s.greatest t c.value

module _ (f : SigBit → Bit) (fixed : IsReading f) (shape : Shape) (o : Operands) where
  -- the width of both operands
  abbrev both : ℕ
  both = max (length o.a) (length o.b)

  same_widths : max (length (map f o.a)) (length (map f o.b)) ≡ both
  same_widths = ap (λ n. max n (length (map f o.b))) (length-map o.a f) ∙ ap (max (length o.a)) (length-map o.b f)

  -- the bits of the operands, as they are meant
  module _ (left : o.left ≡ extended o.a both (both_signed shape)) (right : o.right ≡ extended o.b both (both_signed shape)) where
    left_bit : (at : ℕ) (d : SigBit) → at < both → extended_at (both_signed shape) (map f o.a) at ≡ f (slice_index_or o.left at d)
    left_bit at d h = sym (ap (λ w. f (slice_index_or w at d)) left ∙ extended_read f fixed (both_signed shape) o.a both at d h)

    right_bit : (at : ℕ) (d : SigBit) → at < both → extended_at (both_signed shape) (map f o.b) at ≡ f (slice_index_or o.right at d)
    right_bit at d h = sym (ap (λ w. f (slice_index_or w at d)) right ∙ extended_read f fixed (both_signed shape) o.b both at d h)

    -- equal operands
    equal_below : o.left ≡ o.right → Below (equal_of (both_signed shape) (map f o.a) (map f o.b)) S1
    equal_below same =
        fold_agreeing (λ at. not_of (xor_of (extended_at (both_signed shape) (map f o.a) at) (extended_at (both_signed shape) (map f o.b) at))) 0 (max (length (map f o.a)) (length (map f o.b))) S1 refl (λ at h.
        let lt : at < both = omega (arith, same_widths) in
        let e : extended_at (both_signed shape) (map f o.b) at ≡ extended_at (both_signed shape) (map f o.a) at = right_bit at (Fixed X) lt ∙ sym (ap (λ w. f (slice_index_or w at (Fixed X))) same) ∙ sym (left_bit at (Fixed X) lt) in
        subst (λ z. Below (not_of (xor_of (extended_at (both_signed shape) (map f o.a) at) z)) S1) (sym e) (xnor_same (extended_at (both_signed shape) (map f o.a) at)))

    equality_below : (kind : EqualKind) → o.left ≡ o.right → Below (equality_of kind (both_signed shape) (map f o.a) (map f o.b)) (passing kind)
    equality_below Eq same = equal_below same
    equality_below Ne same = not_of_mono (equal_of (both_signed shape) (map f o.a) (map f o.b)) S1 (equal_below same)

    -- operands of one bit
    equal_one : both ≡ 1 → equal_of (both_signed shape) (map f o.a) (map f o.b) ≡ and_of S1 (not_of (xor_of (read_at f o.left 0) (read_at f o.right 0)))
    equal_one one =
        ap (λ n. all_of (word_of (λ at. not_of (xor_of (extended_at (both_signed shape) (map f o.a) at) (extended_at (both_signed shape) (map f o.b) at))) n)) (same_widths ∙ one)
        ∙ ap (λ z. and_of S1 (not_of (xor_of z (extended_at (both_signed shape) (map f o.b) 0)))) (left_bit 0 (Fixed X) (omega (arith, one)))
        ∙ ap (λ z. and_of S1 (not_of (xor_of (read_at f o.left 0) z))) (right_bit 0 (Fixed X) (omega (arith, one)))

    equality_one : (kind : EqualKind) → both ≡ 1 → equality_of kind (both_signed shape) (map f o.a) (map f o.b) ≡ compared kind (read_at f o.left 0) (read_at f o.right 0)
    unfolding compared
    equality_one Eq one = equal_one one
    equality_one Ne one = ap not_of (equal_one one)

    -- equal integers
    equal_integers : o.left ≡ o.right → AreKnown (map f o.a) → AreKnown (map f o.b) → integer_in (both_signed shape) (map f o.a) ≡ integer_in (both_signed shape) (map f o.b)
    equal_integers same ka kb =
        let e : integer_bits (integer_in (both_signed shape) (map f o.a)) both ≡ integer_bits (integer_in (both_signed shape) (map f o.b)) both =
        meant_bits f fixed (both_signed shape) o.a both ka ∙ ap (map f) (sym left ∙ same ∙ right) ∙ sym (meant_bits f fixed (both_signed shape) o.b both kb) in
        one_integer (both_signed shape) (map f o.a) (map f o.b) both (omega (arith, length-map o.a f)) (omega (arith, length-map o.b f)) (bits_congruent both _ _ e) e

    order_below : (kind : OrderKind) → o.left ≡ o.right → Below (order_of kind (both_signed shape) (map f o.a) (map f o.b)) (of_equals kind)
    order_below kind same = by (all_known (map f o.a) && all_known (map f o.b)) refl
      where
        by : (t : Bool) → (all_known (map f o.a) && all_known (map f o.b)) ≡ t → Below (if t then (if is_ordered kind (integer_in (both_signed shape) (map f o.a)) (integer_in (both_signed shape) (map f o.b)) then S1 else S0) else X) (of_equals kind)
        by true e =
            let p = and_parts (all_known (map f o.a)) (all_known (map f o.b)) e in
            Below_from_equal _ _ (
            ap (λ z. if is_ordered kind z (integer_in (both_signed shape) (map f o.b)) then S1 else S0) (equal_integers same (all_known_true (map f o.a) p.0) (all_known_true (map f o.b) p.1))
            ∙ of_itself kind (integer_in (both_signed shape) (map f o.b)))
        by false e = tt

  module _ (own : CellKind) (narrow : IsNarrow own shape.widths.y) where
    -- one operand a constant
    beside_says : (kind : EqualKind) (constant other : List SigBit) (side : Bit → Bit → Bit) → equality_of kind (both_signed shape) (map f o.a) (map f o.b) ≡ side (read_at f constant 0) (read_at f other 0) → length other ≡ 1 → ((x : Bit) → Below (side (passing kind) x) x) → ((x : Bit) → Below (side (turning kind) x) (not_of x)) → (change : Change) → beside_bit kind own shape.widths.y constant other ≡ Some change → WordSays f shape o (Equal kind) change
    beside_says kind constant other side value one pass turn change e =
        if_case (WordSays f shape o (Equal kind)) change (is_bit (passing kind) constant) (Some (Gives other)) (when (is_bit (turning kind) constant && (shape.widths.y == 1)) (inverter own other)) e
        (λ t e. some_case (WordSays f shape o (Equal kind)) change (Gives other) e (λ at h.
        subst (λ w. Below (slice_index_or (one_bit_of (equality_of kind (both_signed shape) (map f o.a) (map f o.b)) shape.widths.y) at X) (f (slice_index_or w at (Fixed S0)))) (sym (one_of other one (Fixed X)))
        (bit_says f fixed shape o (equality_of kind (both_signed shape) (map f o.a) (map f o.b)) (slice_index_or other 0 (Fixed X))
        (subst (λ z. Below z (read_at f other 0)) (sym (value ∙ ap (λ c. side c (read_at f other 0)) (constant_is (passing kind) constant t))) (pass (read_at f other 0))) at h)))
        (λ t e. when_case (WordSays f shape o (Equal kind)) change (is_bit (turning kind) constant && (shape.widths.y == 1)) (inverter own other) e (λ t.
        let p = and_parts (is_bit (turning kind) constant) (shape.widths.y == 1) t in
        becomes_inverter f fixed shape o (Equal kind) own narrow other
        (inverse_says f fixed shape o (equality_of kind (both_signed shape) (map f o.a) (map f o.b)) other (equal_numbers shape.widths.y 1 p.1)
        (subst (λ z. Below z (not_of (read_at f other 0))) (sym (value ∙ ap (λ c. side c (read_at f other 0)) (constant_is (turning kind) constant p.0))) (turn (read_at f other 0))))))
      where
        constant_is : (c : Bit) (word : List SigBit) → is_bit c word ≡ true → read_at f word 0 ≡ c
        constant_is c word t = ap (λ w. read_at f w 0) (signal_is word (Fixed c ∷ []) t) ∙ fixed c

    one_bit_says : (kind : EqualKind) → IsMeantAs (Equal kind) shape o → (change : Change) → one_bit_compare kind own shape o ≡ Some change → WordSays f shape o (Equal kind) change
    one_bit_says kind m change e =
        if_case (WordSays f shape o (Equal kind)) change ((length o.left == 1) && (length o.right == 1)) (first_some (beside_bit kind own shape.widths.y o.right o.left) (beside_bit kind own shape.widths.y o.left o.right)) None e
        (λ t e.
        let p = and_parts (length o.left == 1) (length o.right == 1) t in
        let l : length o.left ≡ 1 = equal_numbers (length o.left) 1 p.0 in
        let r : length o.right ≡ 1 = equal_numbers (length o.right) 1 p.1 in
        let one : both ≡ 1 = sym (extended_length o.a both (both_signed shape)) ∙ ap length (sym m.left) ∙ l in
        let value = equality_one m.left m.right kind one in
        first_case (WordSays f shape o (Equal kind)) change (beside_bit kind own shape.widths.y o.right o.left) (beside_bit kind own shape.widths.y o.left o.right) e
        (beside_says kind o.right o.left (λ c x. compared kind x c) value l (pass_right kind) (turn_right kind) change)
        (beside_says kind o.left o.right (λ c x. compared kind c x) value r (pass_left kind) (turn_left kind) change))
        (λ t e. absurd (cc))

    pub compare_says : RuleSays f shape o (λ kind. compare kind own shape o)
    compare_says (Equal kind) m change e =
        if_case (WordSays f shape o (Equal kind)) change (same_signal o.left o.right) (Some (Gives (Fixed (passing kind) ∷ []))) (one_bit_compare kind own shape o) e
        (λ t e. some_case (WordSays f shape o (Equal kind)) change (Gives (Fixed (passing kind) ∷ [])) e
        (bit_says f fixed shape o (equality_of kind (both_signed shape) (map f o.a) (map f o.b)) (Fixed (passing kind))
        (subst (Below (equality_of kind (both_signed shape) (map f o.a) (map f o.b))) (sym (fixed (passing kind))) (equality_below m.left m.right kind (signal_is o.left o.right t)))))
        (λ t e. one_bit_says kind m change e)
    compare_says (Order kind) m change e =
        when_case (WordSays f shape o (Order kind)) change (same_signal o.left o.right) (Gives (Fixed (of_equals kind) ∷ [])) e (λ t.
        bit_says f fixed shape o (order_of kind (both_signed shape) (map f o.a) (map f o.b)) (Fixed (of_equals kind))
        (subst (Below (order_of kind (both_signed shape) (map f o.a) (map f o.b))) (sym (fixed (of_equals kind))) (order_below m.left m.right kind (signal_is o.left o.right t))))
    compare_says kind m change e = absurd (cc)
