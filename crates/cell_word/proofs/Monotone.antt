-- Words keep the orders of knowledge, since they are made of functions that do.
use Rattle.std.proofs.Common.{◌≡◌, refl, sym, ◌∙◌, ap, subst, ℕ, zero, suc, ◌+◌, ◌*◌, ◌/◌, ◌%◌, ◌^◌, ◌-◌, max, Bool, true, false, ◌&&◌, List, [], ◌∷◌, ◌++◌, map, replicate, length, slice_index_or, ℤ, pos, negsuc, ◌+ℤ◌, arith}
use Rattle.std.specs.Prelude.{if◌then◌else◌, nat_lt, ◌==◌, count_by, unsigned_abs, neg_ℤ}
use Rattle.std.specs.List.{range_with_len, fold}
use Rattle.std.proofs.lemmas.List.{length-replicate}
use Rattle.std.proofs.lemmas.List.FromFn.{length-map-range_with_len}
use Rattle.rtl_bits.specs.declared.bit.Bit.{Bit}
use Rattle.rtl_bits.specs.declared.bit.Bit.TheVariants.{S0, S1, X}
use Rattle.rtl_bits.specs.Knowledge.{AreKnown, all_known, Placewise, Below, FlatBelow, AreBelow, AreFlatBelow, IsMonotone2}
use Rattle.rtl_bits.specs.Tables.{seen_of, not_of, and_of, or_of, xor_of, mux_of}
use Rattle.rtl_bits.specs.Numbers.{bits_of, top_of, is_one}
use Rattle.rtl_bits.proofs.Keeping.{Keeps, below_kept, flat_kept}
use Rattle.rtl_bits.proofs.Lists.{placewise_refl, placewise_length, all_known_true}
use Rattle.rtl_bits.proofs.NumberLemmas.{bits_of_length}
use Rattle.cell_types.specs.declared.word.BitwiseKind.{BitwiseKind}
use Rattle.cell_types.specs.declared.word.BitwiseKind.TheVariants as Bitwise
use Rattle.cell_types.specs.declared.word.FoldKind.{FoldKind}
use Rattle.cell_types.specs.declared.word.FoldKind.TheVariants as Fold
use Rattle.cell_types.specs.declared.word.LogicKind.{LogicKind}
use Rattle.cell_types.specs.declared.word.LogicKind.TheVariants as Logic
use Rattle.cell_types.specs.declared.word.EqualKind.{EqualKind}
use Rattle.cell_types.specs.declared.word.EqualKind.TheVariants.{Eq, Ne}
use Rattle.cell_types.specs.declared.word.OrderKind.{OrderKind}
use Rattle.cell_types.specs.declared.word.ArithKind.{ArithKind}
use Rattle.cell_types.specs.declared.word.DivisionKind.{DivisionKind}
use Rattle.cell_types.specs.declared.word.ShiftKind.{ShiftKind}
use Rattle.cell_types.specs.declared.word.ShiftKind.TheVariants.{Sshr, Shiftx}
use Rattle.cell_types.specs.declared.kind.CellKind.{CellKind}
use Rattle.cell_types.specs.declared.kind.CellKind.TheVariants as Cell
use Rattle.cell_types.specs.declared.shape.Shape.{Shape}
use Rattle.cell_types.specs.declared.word.UnaryKind.TheVariants.{Not, Pos, Neg}
use Rattle.cell_types.specs.declared.word.WordKind.{WordKind}
use Rattle.cell_types.specs.declared.word.WordKind.TheVariants as Word
use Rattle.cell_word.specs.Values.{both_signed, value_of, value_by, word_value_of, InputsBelow}
use Rattle.cell_word.specs.Words.{word_of, unknown_of, one_bit_of, fill_of, extended_at}
use Rattle.cell_word.specs.Bitwise.{inverse_of, itself_of, bit_by, bitwise_of}
use Rattle.cell_word.specs.Folds.{all_of, any_of, folded_of, logic_of, agreeing_of, equal_of, equality_of}
use Rattle.cell_word.specs.Integers.{integer_in, integer_bits}
use Rattle.cell_word.specs.Arithmetic.{negative_of, result_of, arith_of, quotient_bits_of, quotient_of, division_of, is_ordered, order_of}
use Rattle.cell_word.specs.Shifts.{distance_of, below_of, read_at, read_of, moved_of, shifted_of}
use Rattle.cell_word.specs.Parts.{bmuxed_bit, bmuxed_of, demuxed_of, placed_bit, placed_parts}
use Rattle.cell_word.proofs.Numbered.{halved_of, hits_of, merged_halved, placed_hits}
use Rattle.cell_word.specs.Choice.{bwmuxed_of, muxed_of, part_of, place_of, selected_of, picked_of}

length_inverse : (bits : List Bit) → length (map not_of bits) ≡ length bits
length_inverse [] = refl
length_inverse (b ∷ bits) = ap suc (length_inverse bits)

pub integer_bits_length : (z : ℤ) (width : ℕ) → length (integer_bits z width) ≡ width
integer_bits_length (pos n) width = bits_of_length n width
integer_bits_length (negsuc n) width = length_inverse (bits_of n width) ∙ bits_of_length n width

if_length : (t : Bool) (u v : List Bit) (width : ℕ) → length u ≡ width → length v ≡ width → length (if t then u else v) ≡ width
if_length true u v width e f = e
if_length false u v width e f = f

both_true : (x y : Bool) → x && y ≡ true → (x ≡ true) × (y ≡ true)
both_true true true e = (refl, refl)
both_true true false e = absurd (cc)
both_true false y e = absurd (cc)

quotient_bits_length : (kind : DivisionKind) (a b : ℤ) (width : ℕ) → length (quotient_bits_of kind a b width) ≡ width
quotient_bits_length kind a b width = if_length (unsigned_abs b == 0) (unknown_of width) (integer_bits (quotient_of kind a b) width) width
    (length-replicate width X) (integer_bits_length (quotient_of kind a b) width)

module _ (order : Bit → Bit → Type 0) (k : Keeps order) where
  word_kept : (f g : ℕ → Bit) → ((i : ℕ) → order (f i) (g i)) → (from n : ℕ) → Placewise order (map f (range_with_len from n)) (map g (range_with_len from n))
  word_kept f g e from zero = tt
  word_kept f g e from (suc n) = (e from, word_kept f g e (from + 1) n)

  at_kept : (a a' : List Bit) (d d' : Bit) → Placewise order a a' → order d d' → (i : ℕ) → order (slice_index_or a i d) (slice_index_or a' i d')
  at_kept [] [] d d' h e i = e
  at_kept [] (b ∷ bs) d d' h e i = absurd h
  at_kept (a ∷ as') [] d d' h e i = absurd h
  at_kept (a ∷ as') (b ∷ bs) d d' h e zero = h.0
  at_kept (a ∷ as') (b ∷ bs) d d' h e (suc i) = at_kept as' bs d d' h.1 e i

  top_kept : (a a' : List Bit) → Placewise order a a' → order (top_of a) (top_of a')
  top_kept [] [] h = k.self S0
  top_kept [] (b ∷ bs) h = absurd h
  top_kept (a ∷ as') [] h = absurd h
  top_kept (a ∷ []) (b ∷ []) h = h.0
  top_kept (a ∷ []) (b ∷ c ∷ bs) h = absurd h.1
  top_kept (a ∷ c ∷ as') (b ∷ []) h = absurd h.1
  top_kept (a ∷ c ∷ as') (b ∷ d ∷ bs) h = top_kept (c ∷ as') (d ∷ bs) h.1

  fill_kept : (signed : Bool) (a a' : List Bit) → Placewise order a a' → order (fill_of signed a) (fill_of signed a')
  fill_kept true a a' h = top_kept a a' h
  fill_kept false a a' h = k.self S0

  extended_kept : (signed : Bool) (a a' : List Bit) → Placewise order a a' → (i : ℕ) → order (extended_at signed a i) (extended_at signed a' i)
  extended_kept signed a a' h i = at_kept a a' _ _ h (fill_kept signed a a' h) i

  fold_kept : (f : Bit → Bit → Bit) → IsMonotone2 order f → (c c' : Bit) → order c c' → (a a' : List Bit) → Placewise order a a' → order (fold f c a) (fold f c' a')
  fold_kept f m c c' e [] [] h = e
  fold_kept f m c c' e [] (b ∷ bs) h = absurd h
  fold_kept f m c c' e (a ∷ as') [] h = absurd h
  fold_kept f m c c' e (a ∷ as') (b ∷ bs) h = fold_kept f m (f c a) (f c' b) (m c c' a b e h.0) as' bs h.1

  unknown_kept : (n : ℕ) (a : List Bit) → length a ≡ n → Placewise order (unknown_of n) a
  unknown_kept zero [] e = tt
  unknown_kept zero (b ∷ bs) e = absurd (omega arith)
  unknown_kept (suc n) [] e = absurd (omega arith)
  unknown_kept (suc n) (b ∷ bs) e = (k.bottom b, unknown_kept n bs (omega arith))

  fixed : (a a' : List Bit) → AreKnown a → Placewise order a a' → a' ≡ a
  fixed [] [] e h = refl
  fixed [] (b ∷ bs) e h = absurd h
  fixed (a ∷ as') [] e h = absurd h
  fixed (a ∷ as') (b ∷ bs) e h =
      ap (λ z. z ∷ bs) (k.known a b e.0 h.0) ∙ ap (λ zs. a ∷ zs) (fixed as' bs e.1 h.1)

  known_fixed : (a a' : List Bit) → Placewise order a a' → all_known a ≡ true → a' ≡ a
  known_fixed a a' h e = fixed a a' (all_known_true a e) h

  -- a word that stands only where a test holds, which then goes on to hold
  choose_kept : (t t' : Bool) (u u' : List Bit) (width : ℕ) → (t ≡ true → (t' ≡ true) × Placewise order u u') → length u' ≡ width → Placewise order (if t then u else unknown_of width) (if t' then u' else unknown_of width)
  choose_kept true true u u' width e l = (e refl).1
  choose_kept true false u u' width e l = absurd (let h : false ≡ true = (e refl).0 in cc)
  choose_kept false true u u' width e l = unknown_kept width u' l
  choose_kept false false u u' width e l = unknown_kept width (unknown_of width) (length-replicate width X)

  one_bit_kept : (b b' : Bit) (width : ℕ) → order b b' → Placewise order (one_bit_of b width) (one_bit_of b' width)
  one_bit_kept b b' width h = (h, placewise_refl order k.self (replicate (width - 1) S0))

  inverse_kept : (signed : Bool) (a a' : List Bit) (width : ℕ) → Placewise order a a' → Placewise order (inverse_of signed a width) (inverse_of signed a' width)
  inverse_kept signed a a' width h = word_kept _ _ (λ i. k.not _ _ (extended_kept signed a a' h i)) 0 width

  itself_kept : (signed : Bool) (a a' : List Bit) (width : ℕ) → Placewise order a a' → Placewise order (itself_of signed a width) (itself_of signed a' width)
  itself_kept signed a a' width h = word_kept _ _ (λ i. k.seen _ _ (extended_kept signed a a' h i)) 0 width

  bit_by_kept : (kind : BitwiseKind) → IsMonotone2 order (bit_by kind)
  bit_by_kept Bitwise.And = k.and
  bit_by_kept Bitwise.Or = k.or
  bit_by_kept Bitwise.Xor = k.xor
  bit_by_kept Bitwise.Xnor = λ a a' b b' h i. k.not _ _ (k.xor a a' b b' h i)

  bitwise_kept : (kind : BitwiseKind) (signed : Bool) (a a' b b' : List Bit) (width : ℕ) → Placewise order a a' → Placewise order b b' → Placewise order (bitwise_of kind signed a b width) (bitwise_of kind signed a' b' width)
  bitwise_kept kind signed a a' b b' width h i =
      word_kept _ _ (λ j. bit_by_kept kind _ _ _ _ (extended_kept signed a a' h j) (extended_kept signed b b' i j)) 0 width

  any_kept : (a a' : List Bit) → Placewise order a a' → order (any_of a) (any_of a')
  any_kept a a' h = fold_kept or_of k.or S0 S0 (k.self S0) a a' h

  folded_kept : (kind : FoldKind) (a a' : List Bit) → Placewise order a a' → order (folded_of kind a) (folded_of kind a')
  folded_kept Fold.And a a' h = fold_kept and_of k.and S1 S1 (k.self S1) a a' h
  folded_kept Fold.Or a a' h = any_kept a a' h
  folded_kept Fold.Xor a a' h = fold_kept xor_of k.xor S0 S0 (k.self S0) a a' h
  folded_kept Fold.Xnor a a' h = k.not _ _ (fold_kept xor_of k.xor S0 S0 (k.self S0) a a' h)
  folded_kept Fold.Bool a a' h = any_kept a a' h
  folded_kept Fold.LogicNot a a' h = k.not _ _ (any_kept a a' h)

  logic_kept : (kind : LogicKind) (a a' b b' : List Bit) → Placewise order a a' → Placewise order b b' → order (logic_of kind a b) (logic_of kind a' b')
  logic_kept Logic.And a a' b b' h i = k.and _ _ _ _ (any_kept a a' h) (any_kept b b' i)
  logic_kept Logic.Or a a' b b' h i = k.or _ _ _ _ (any_kept a a' h) (any_kept b b' i)

  agreeing_kept : (signed : Bool) (a a' b b' : List Bit) (width : ℕ) → Placewise order a a' → Placewise order b b' → Placewise order (agreeing_of signed a b width) (agreeing_of signed a' b' width)
  agreeing_kept signed a a' b b' width h i =
      word_kept _ _ (λ j. k.not _ _ (k.xor _ _ _ _ (extended_kept signed a a' h j) (extended_kept signed b b' i j))) 0 width

  equal_kept : (signed : Bool) (a a' b b' : List Bit) → Placewise order a a' → Placewise order b b' → order (equal_of signed a b) (equal_of signed a' b')
  equal_kept signed a a' b b' h i =
      let e : max (length a) (length b) ≡ max (length a') (length b') =
      ap (λ n. max n (length b)) (placewise_length order a a' h) ∙ ap (max (length a')) (placewise_length order b b' i) in
      subst (λ n. order (equal_of signed a b) (all_of (agreeing_of signed a' b' n))) e
      (fold_kept and_of k.and S1 S1 (k.self S1)
      (agreeing_of signed a b (max (length a) (length b)))
      (agreeing_of signed a' b' (max (length a) (length b)))
      (agreeing_kept signed a a' b b' (max (length a) (length b)) h i))

  equality_kept : (kind : EqualKind) (signed : Bool) (a a' b b' : List Bit) → Placewise order a a' → Placewise order b b' → order (equality_of kind signed a b) (equality_of kind signed a' b')
  equality_kept Eq signed a a' b b' h i = equal_kept signed a a' b b' h i
  equality_kept Ne signed a a' b b' h i = k.not _ _ (equal_kept signed a a' b b' h i)

  -- where both operands are known, they are the same above
  both_fixed : (a a' b b' : List Bit) → Placewise order a a' → Placewise order b b' → all_known a && all_known b ≡ true → (a' ≡ a) × (b' ≡ b)
  both_fixed a a' b b' h i e =
      let p = both_true (all_known a) (all_known b) e in
      (known_fixed a a' h p.0, known_fixed b b' i p.1)

  -- a word of two operands that stands only where both are known
  operands_kept : (F : List Bit → List Bit → List Bit) (width : ℕ) → ((x y : List Bit) → length (F x y) ≡ width) → (a a' b b' : List Bit) → Placewise order a a' → Placewise order b b' → Placewise order (if all_known a && all_known b then F a b else unknown_of width) (if all_known a' && all_known b' then F a' b' else unknown_of width)
  operands_kept F width l a a' b b' h i =
      choose_kept _ _ _ _ width
      (λ e. let p = both_fixed a a' b b' h i e in (
        ap (λ z. all_known z && all_known b') p.0 ∙ ap (λ z. all_known a && all_known z) p.1 ∙ e,
        subst (λ z. Placewise order (F a b) z)
            (sym (ap (λ z. F z b') p.0 ∙ ap (λ z. F a z) p.1))
            (placewise_refl order k.self (F a b)),
      ))
      (l a' b')

  -- the same of one operand
  operand_kept : (F : List Bit → List Bit) (width : ℕ) → ((x : List Bit) → length (F x) ≡ width) → (a a' : List Bit) → Placewise order a a' → Placewise order (if all_known a then F a else unknown_of width) (if all_known a' then F a' else unknown_of width)
  operand_kept F width l a a' h =
      choose_kept _ _ _ _ width
      (λ e. let p = known_fixed a a' h e in (
        ap all_known p ∙ e,
        subst (λ z. Placewise order (F a) z) (sym (ap F p)) (placewise_refl order k.self (F a)),
      ))
      (l a')

  negative_kept : (signed : Bool) (a a' : List Bit) (width : ℕ) → Placewise order a a' → Placewise order (negative_of signed a width) (negative_of signed a' width)
  negative_kept signed a a' width h =
      operand_kept (λ x. integer_bits (neg_ℤ (integer_in signed x)) width) width
      (λ x. integer_bits_length _ width) a a' h

  arith_kept : (kind : ArithKind) (signed : Bool) (a a' b b' : List Bit) (width : ℕ) → Placewise order a a' → Placewise order b b' → Placewise order (arith_of kind signed a b width) (arith_of kind signed a' b' width)
  arith_kept kind signed a a' b b' width h i =
      operands_kept (λ x y. integer_bits (result_of kind (integer_in signed x) (integer_in signed y)) width) width
      (λ x y. integer_bits_length _ width) a a' b b' h i

  division_kept : (kind : DivisionKind) (signed : Bool) (a a' b b' : List Bit) (width : ℕ) → Placewise order a a' → Placewise order b b' → Placewise order (division_of kind signed a b width) (division_of kind signed a' b' width)
  division_kept kind signed a a' b b' width h i =
      operands_kept (λ x y. quotient_bits_of kind (integer_in signed x) (integer_in signed y) width) width
      (λ x y. quotient_bits_length kind (integer_in signed x) (integer_in signed y) width) a a' b b' h i

  choose_bit_kept : (t t' : Bool) (u u' : Bit) → (t ≡ true → (t' ≡ true) × order u u') → order (if t then u else X) (if t' then u' else X)
  choose_bit_kept true true u u' e = (e refl).1
  choose_bit_kept true false u u' e = absurd (let h : false ≡ true = (e refl).0 in cc)
  choose_bit_kept false t' u u' e = k.bottom _

  order_kept : (kind : OrderKind) (signed : Bool) (a a' b b' : List Bit) → Placewise order a a' → Placewise order b b' → order (order_of kind signed a b) (order_of kind signed a' b')
  order_kept kind signed a a' b b' h i =
      let F : List Bit → List Bit → Bit = λ x y. if is_ordered kind (integer_in signed x) (integer_in signed y) then S1 else S0 in
      choose_bit_kept _ _ (F a b) (F a' b')
      (λ e. let p = both_fixed a a' b b' h i e in (
        ap (λ z. all_known z && all_known b') p.0 ∙ ap (λ z. all_known a && all_known z) p.1 ∙ e,
        subst (λ z. order (F a b) z) (sym (ap (λ z. F z b') p.0 ∙ ap (λ z. F a z) p.1)) (k.self (F a b)),
      ))

  choose_either : (t : Bool) (u u' v v' : Bit) → order u u' → order v v' → order (if t then u else v) (if t then u' else v')
  choose_either true u u' v v' e f = e
  choose_either false u u' v v' e f = f

  read_at_kept : (kind : ShiftKind) (signed : Bool) (a a' : List Bit) (width i : ℕ) → Placewise order a a' → order (read_at kind signed a width i) (read_at kind signed a' width i)
  read_at_kept Sshr signed a a' width i h = extended_kept signed a a' h i
  read_at_kept Shiftx signed a a' width i h = at_kept a a' X X h (k.self X) i
  read_at_kept kind signed a a' width i h = choose_either (nat_lt i width) _ _ S0 S0 (extended_kept signed a a' h i) (k.self S0)

  read_of_kept : (kind : ShiftKind) (signed : Bool) (a a' : List Bit) (width : ℕ) (z : ℤ) → Placewise order a a' → order (read_of kind signed a width z) (read_of kind signed a' width z)
  read_of_kept kind signed a a' width (pos i) h = k.seen _ _ (read_at_kept kind signed a a' width i h)
  read_of_kept kind signed a a' width (negsuc n) h = k.self (below_of kind)

  moved_kept : (kind : ShiftKind) (signed : Bool) (a a' : List Bit) (z : ℤ) (width : ℕ) → Placewise order a a' → Placewise order (moved_of kind signed a z width) (moved_of kind signed a' z width)
  moved_kept kind signed a a' z width h =
      subst (λ n. Placewise order (moved_of kind signed a z width) (word_of (λ i. read_of kind signed a' (max n width) (pos i +ℤ z)) width))
      (placewise_length order a a' h)
      (word_kept _ _ (λ i. read_of_kept kind signed a a' (max (length a) width) (pos i +ℤ z) h) 0 width)

  shifted_kept : (kind : ShiftKind) (a_signed b_signed : Bool) (a a' b b' : List Bit) (width : ℕ) → Placewise order a a' → Placewise order b b' → Placewise order (shifted_of kind a_signed b_signed a b width) (shifted_of kind a_signed b_signed a' b' width)
  shifted_kept kind a_signed b_signed a a' b b' width h i =
      choose_kept _ _ _ _ width
      (λ e. let p = known_fixed b b' i e in (
        ap all_known p ∙ e,
        subst (λ z. Placewise order (moved_of kind a_signed a (distance_of kind b_signed b) width) (moved_of kind a_signed a' (distance_of kind b_signed z) width))
            (sym p) (moved_kept kind a_signed a a' (distance_of kind b_signed b) width h),
      ))
      (length-map-range_with_len _ 0 width)

  muxed_kept : (a a' b b' : List Bit) (s s' : Bit) (width : ℕ) → Placewise order a a' → Placewise order b b' → order s s' → Placewise order (muxed_of a b s width) (muxed_of a' b' s' width)
  muxed_kept a a' b b' s s' width h i j =
      word_kept _ _ (λ at. k.mux _ _ _ _ _ _ (at_kept a a' X X h (k.self X) at) (at_kept b b' X X i (k.self X) at) j) 0 width

  part_kept : (a a' : List Bit) (offset width : ℕ) → Placewise order a a' → Placewise order (part_of a offset width) (part_of a' offset width)
  part_kept a a' offset width h = word_kept _ _ (λ at. k.seen _ _ (at_kept a a' X X h (k.self X) (offset + at))) 0 width

  choose_words : (t : Bool) (u u' v v' : List Bit) → Placewise order u u' → Placewise order v v' → Placewise order (if t then u else v) (if t then u' else v')
  choose_words true u u' v v' e f = e
  choose_words false u u' v v' e f = f

  selected_kept : (a a' b b' s : List Bit) (width : ℕ) → Placewise order a a' → Placewise order b b' → Placewise order (selected_of a b s width) (selected_of a' b' s width)
  selected_kept a a' b b' s width h i =
      choose_words (count_by is_one s == 0) _ _ _ _ (part_kept a a' 0 width h)
      (choose_words (count_by is_one s == 1) _ _ _ _ (part_kept b b' (place_of s * width) width i)
      (placewise_refl order k.self (unknown_of width)))

  selected_length : (a b s : List Bit) (width : ℕ) → length (selected_of a b s width) ≡ width
  selected_length a b s width =
      if_length (count_by is_one s == 0) (part_of a 0 width) _ width (length-map-range_with_len _ 0 width)
      (if_length (count_by is_one s == 1) (part_of b (place_of s * width) width) (unknown_of width) width
      (length-map-range_with_len _ 0 width) (length-replicate width X))

  picked_kept : (a a' b b' s s' : List Bit) (width : ℕ) → Placewise order a a' → Placewise order b b' → Placewise order s s' → Placewise order (picked_of a b s width) (picked_of a' b' s' width)
  picked_kept a a' b b' s s' width h i j =
      choose_kept _ _ _ _ width
      (λ e. let p = known_fixed s s' j e in (
        ap all_known p ∙ e,
        subst (λ z. Placewise order (selected_of a b s width) (selected_of a' b' z width))
            (sym p) (selected_kept a a' b b' s width h i),
      ))
      (selected_length a' b' s' width)

  seen_kept : (a a' : List Bit) → Placewise order a a' → Placewise order (map seen_of a) (map seen_of a')
  seen_kept [] [] h = tt
  seen_kept [] (b ∷ bs) h = absurd h
  seen_kept (a ∷ as') [] h = absurd h
  seen_kept (a ∷ as') (b ∷ bs) h = (k.seen a b h.0, seen_kept as' bs h.1)

  append_kept : (a a' b b' : List Bit) → Placewise order a a' → Placewise order b b' → Placewise order (a ++ b) (a' ++ b')
  append_kept [] [] b b' h i = i
  append_kept [] (c ∷ cs) b b' h i = absurd h
  append_kept (a ∷ as') [] b b' h i = absurd h
  append_kept (a ∷ as') (c ∷ cs) b b' h i = (h.0, append_kept as' cs b b' h.1 i)

  bwmuxed_kept : (a a' b b' s s' : List Bit) (width : ℕ) → Placewise order a a' → Placewise order b b' → Placewise order s s' → Placewise order (bwmuxed_of a b s width) (bwmuxed_of a' b' s' width)
  bwmuxed_kept a a' b b' s s' width h i j =
      word_kept _ _ (λ at. k.mux _ _ _ _ _ _ (at_kept a a' X X h (k.self X) at) (at_kept b b' X X i (k.self X) at) (at_kept s s' X X j (k.self X) at)) 0 width

  halved_kept : (f g : ℕ → Bit) → ((i : ℕ) → order (f i) (g i)) → (s s' : List Bit) → Placewise order s s' → order (halved_of f s) (halved_of g s')
  halved_kept f g e [] [] h = k.seen _ _ (e 0)
  halved_kept f g e [] (b ∷ bs) h = absurd h
  halved_kept f g e (b ∷ s) [] h = absurd h
  halved_kept f g e (b ∷ s) (c ∷ s') h =
      halved_kept (λ p. mux_of (f (p + p)) (f (p + p + 1)) b) (λ p. mux_of (g (p + p)) (g (p + p + 1)) c) (λ p. k.mux _ _ _ _ _ _ (e (p + p)) (e (p + p + 1)) h.0) s s' h.1

  bmuxed_bit_kept : (a a' s s' : List Bit) (width at : ℕ) → Placewise order a a' → Placewise order s s' → order (bmuxed_bit a s width at) (bmuxed_bit a' s' width at)
  bmuxed_bit_kept a a' s s' width at h j =
      subst (λ z. order z (bmuxed_bit a' s' width at)) (sym (merged_halved s (λ part. slice_index_or a (part * width + at) X)))
      (subst (order (halved_of (λ part. slice_index_or a (part * width + at) X) s)) (sym (merged_halved s' (λ part. slice_index_or a' (part * width + at) X)))
      (halved_kept _ _ (λ part. at_kept a a' X X h (k.self X) (part * width + at)) s s' j))

  bmuxed_kept : (a a' s s' : List Bit) (width : ℕ) → Placewise order a a' → Placewise order s s' → Placewise order (bmuxed_of a s width) (bmuxed_of a' s' width)
  bmuxed_kept a a' s s' width h j = word_kept _ _ (λ at. bmuxed_bit_kept a a' s s' width at h j) 0 width

  hits_kept : (s s' : List Bit) (n : ℕ) → Placewise order s s' → order (hits_of s n) (hits_of s' n)
  hits_kept [] [] n h = k.self S1
  hits_kept [] (b ∷ bs) n h = absurd h
  hits_kept (b ∷ s) [] n h = absurd h
  hits_kept (b ∷ s) (c ∷ s') n h =
      k.and _ _ _ _ (choose_either (n % 2 == 1) _ _ _ _ (k.seen _ _ h.0) (k.not _ _ h.0)) (hits_kept s s' (n / 2) h.1)

  placed_kept : (s s' : List Bit) (n : ℕ) (b b' : Bit) → Placewise order s s' → order b b' → order (placed_bit s n b) (placed_bit s' n b')
  placed_kept s s' n b b' j h =
      subst (λ z. order z (placed_bit s' n b')) (sym (placed_hits s n b))
      (subst (order (and_of (hits_of s n) b)) (sym (placed_hits s' n b')) (k.and _ _ _ _ (hits_kept s s' n j) h))

  part_placed : (a a' s s' : List Bit) (n : ℕ) → Placewise order a a' → Placewise order s s' → Placewise order (map (placed_bit s n) a) (map (placed_bit s' n) a')
  part_placed [] [] s s' n h j = tt
  part_placed [] (b ∷ bs) s s' n h j = absurd h
  part_placed (b ∷ a) [] s s' n h j = absurd h
  part_placed (b ∷ a) (c ∷ a') s s' n h j = (placed_kept s s' n b c j h.0, part_placed a a' s s' n h.1 j)

  parts_placed : (a a' s s' : List Bit) (n : ℕ) → Placewise order a a' → Placewise order s s' → Placewise order (placed_parts a s n) (placed_parts a' s' n)
  parts_placed a a' s s' zero h j = tt
  parts_placed a a' s s' (suc n) h j =
      append_kept (placed_parts a s n) (placed_parts a' s' n) _ _ (parts_placed a a' s s' n h j) (part_placed a a' s s' n h j)

  demuxed_kept : (a a' s s' : List Bit) → Placewise order a a' → Placewise order s s' → Placewise order (demuxed_of a s) (demuxed_of a' s')
  demuxed_kept a a' s s' h j =
      subst (λ n. Placewise order (demuxed_of a s) (placed_parts a' s' (2 ^ n))) (placewise_length order s s' j) (parts_placed a a' s s' (2 ^ length s) h j)

  pub value_kept : (kind : WordKind) (shape : Shape) (a a' b b' s s' : List Bit) → Placewise order a a' → Placewise order b b' → Placewise order s s' → Placewise order (value_of kind shape a b s) (value_of kind shape a' b' s')
  value_kept (Word.Unary Not) shape a a' b b' s s' h i j = inverse_kept shape.signs.a a a' shape.widths.y h
  value_kept (Word.Unary Pos) shape a a' b b' s s' h i j = itself_kept shape.signs.a a a' shape.widths.y h
  value_kept (Word.Unary Neg) shape a a' b b' s s' h i j = negative_kept shape.signs.a a a' shape.widths.y h
  value_kept (Word.Fold kind) shape a a' b b' s s' h i j = one_bit_kept _ _ shape.widths.y (folded_kept kind a a' h)
  value_kept (Word.Bitwise kind) shape a a' b b' s s' h i j = bitwise_kept kind (both_signed shape) a a' b b' shape.widths.y h i
  value_kept (Word.Logic kind) shape a a' b b' s s' h i j = one_bit_kept _ _ shape.widths.y (logic_kept kind a a' b b' h i)
  value_kept (Word.Equal kind) shape a a' b b' s s' h i j = one_bit_kept _ _ shape.widths.y (equality_kept kind (both_signed shape) a a' b b' h i)
  value_kept (Word.Order kind) shape a a' b b' s s' h i j = one_bit_kept _ _ shape.widths.y (order_kept kind (both_signed shape) a a' b b' h i)
  value_kept (Word.Arith kind) shape a a' b b' s s' h i j = arith_kept kind (both_signed shape) a a' b b' shape.widths.y h i
  value_kept (Word.Division kind) shape a a' b b' s s' h i j = division_kept kind (both_signed shape) a a' b b' shape.widths.y h i
  value_kept (Word.Shift kind) shape a a' b b' s s' h i j = shifted_kept kind shape.signs.a shape.signs.b a a' b b' shape.widths.y h i
  value_kept Word.Mux shape a a' b b' s s' h i j = muxed_kept a a' b b' _ _ shape.widths.y h i (at_kept s s' X X j (k.self X) 0)
  value_kept Word.Pmux shape a a' b b' s s' h i j = picked_kept a a' b b' s s' shape.widths.y h i j
  value_kept Word.Slice shape a a' b b' s s' h i j = part_kept a a' shape.offset shape.widths.y h
  value_kept Word.Concat shape a a' b b' s s' h i j = seen_kept _ _ (append_kept a a' b b' h i)
  value_kept Word.Buf shape a a' b b' s s' h i j = itself_kept false a a' shape.widths.y h
  value_kept Word.Bwmux shape a a' b b' s s' h i j = bwmuxed_kept a a' b b' s s' shape.widths.y h i j
  value_kept Word.Bmux shape a a' b b' s s' h i j = bmuxed_kept a a' s s' shape.widths.y h j
  value_kept Word.Demux shape a a' b b' s s' h i j = demuxed_kept a a' s s' h j

  value_by_kept : (kind : CellKind) (shape : Shape) (low high : List (List Bit)) → InputsBelow order low high → Placewise order (value_by kind shape low) (value_by kind shape high)
  value_by_kept (Cell.Word kind) shape low high h = value_kept kind shape _ _ _ _ _ _ (h 0) (h 1) (h 2)
  value_by_kept kind shape low high h = tt

  pub word_value_kept : (shape : Shape) (low high : List (List Bit)) → InputsBelow order low high → Placewise order (word_value_of shape low) (word_value_of shape high)
  word_value_kept shape low high h = value_by_kept shape.kind shape low high h

pub word_value_below : (shape : Shape) (low high : List (List Bit)) → InputsBelow Below low high → AreBelow (word_value_of shape low) (word_value_of shape high)
word_value_below = word_value_kept Below below_kept

pub word_value_flat : (shape : Shape) (low high : List (List Bit)) → InputsBelow FlatBelow low high → AreFlatBelow (word_value_of shape low) (word_value_of shape high)
word_value_flat = word_value_kept FlatBelow flat_kept
