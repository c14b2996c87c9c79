-- What the cells read at the places of a word, where the word is moved by the number of a known distance.
use Rattle.std.proofs.Common.{◌≡◌, ◌<◌, ◌≤◌, ℕ, zero, suc, ◌+◌, ◌-◌, ◌*◌, ◌^◌, Bool, true, false, List, [], ◌∷◌, length, inl, inr, refl, sym, ◌∙◌, ap, subst, arith, pos, negsuc, neg_ℤ, ◌+ℤ◌}
use Rattle.std.specs.Prelude.{if◌then◌else◌, nat_lt, slice_index_or}
use Rattle.std.proofs.Math.ListN.{get_or-eq_default}
use Rattle.std.proofs.lemmas.Bool.{cases_lt}
use Rattle.std.proofs.lemmas.Bool.Decides.{nat_tests}
use Rattle.std.proofs.lemmas.Int.{ints}
use Rattle.std.proofs.lemmas.List.{get_or_default}
use Rattle.cell_types.specs.declared.word.ShiftKind.{ShiftKind}
use Rattle.cell_types.specs.declared.word.ShiftKind.TheVariants.{Shl, Sshl, Shr, Sshr, Shift, Shiftx}
use Rattle.cell_word.specs.Integers.{integer_in}
use Rattle.cell_word.specs.Shifts.{below_of, distance_of, read_at, read_of}
use Rattle.cell_word.specs.Words.{extended_at, fill_of}
use Rattle.rtl_bits.specs.Knowledge.{AreKnown, Below, IsKnown}
use Rattle.rtl_bits.specs.Numbers.{number_of}
use Rattle.rtl_bits.specs.Tables.{mux_of, seen_of}
use Rattle.rtl_bits.specs.declared.bit.Bit.{Bit}
use Rattle.rtl_bits.specs.declared.bit.Bit.TheVariants.{S0, S1, X, Z, M, Dash}
use Rattle.gate_nets.proofs.Adding.{low_of}
use Rattle.map_shift.specs.declared.moves.Way.{Way}
use Rattle.map_shift.specs.declared.moves.Way.TheVariants.{Left, Right}
use Rattle.map_shift.proofs.Distances.{back_is, bits_at, integer_minus, integer_plus, low_bits, lower_known, lower_number}
use Rattle.map_shift.proofs.Places.{alike_first, alike_second, below_alike, below_seen, left_filled, left_kept, moved_at, right_filled, right_kept, worked, worked_moves}
use Rattle.map_shift.proofs.Words.{back_at, either_at}

-- what a kind moves into the places that are left
abbrev pub fill_bit : ShiftKind → Bool → List Bit → Bit
fill_bit Sshr signed a = fill_of signed a
fill_bit Shiftx signed a = X
fill_bit kind signed a = S0

-- the bits of a word that is moved as a kind does
abbrev pub moved_bits : ShiftKind → Bool → Bit → ℕ → (ℕ → Bit) → (ℕ → Bit) → ℕ → ℕ → Bit
moved_bits Shl signed fill width v w n = worked Left fill width 0 v w n
moved_bits Sshl signed fill width v w n = worked Left fill width 0 v w n
moved_bits Shift true fill width v w n = either_at fill width v w n
moved_bits Shiftx true fill width v w n = either_at fill width v w n
moved_bits kind signed fill width v w n = worked Right fill width 0 v w n

in_width : (i width : ℕ) → i < width → nat_lt i width ≡ true
in_width i width h = grind (arith, nat_tests)

past_width : (i width : ℕ) → width ≤ i → nat_lt i width ≡ false
past_width i width h = grind (arith, nat_tests)

module _ (signed : Bool) (a : List Bit) (width : ℕ) (y : Bit) where
  plain_inside : (i : ℕ) → i < width → Below (extended_at signed a i) y → Below (seen_of (if nat_lt i width then extended_at signed a i else S0)) y
  plain_inside i h b =
      subst (λ z. Below (seen_of (if z then extended_at signed a i else S0)) y) (sym (in_width i width h)) (below_seen (extended_at signed a i) y b)

  plain_outside : (i : ℕ) → width ≤ i → Below S0 y → Below (seen_of (if nat_lt i width then extended_at signed a i else S0)) y
  plain_outside i h b = subst (λ z. Below (seen_of (if z then extended_at signed a i else S0)) y) (sym (past_width i width h)) b

  -- what is read inside of the width
  read_inside : (kind : ShiftKind) (i : ℕ) → i < width → Below (extended_at signed a i) y → Below (seen_of (read_at kind signed a width i)) y
  read_inside Shl i h b = plain_inside i h b
  read_inside Sshl i h b = plain_inside i h b
  read_inside Shr i h b = plain_inside i h b
  read_inside Shift i h b = plain_inside i h b
  read_inside Sshr i h b = below_seen (extended_at signed a i) y b
  read_inside Shiftx i h b = elim (cases_lt i (length a)) [
    | inl k ↦ below_seen (slice_index_or a i X) y (subst (λ z. Below z y) (get_or_default a i (fill_of signed a) X k) b)
    | inr k ↦ subst (λ z. Below (seen_of z) y) (sym (get_or-eq_default a X k)) tt
  ]

  -- and past it
  read_outside : (kind : ShiftKind) (i : ℕ) → length a ≤ width → width ≤ i → Below (fill_bit kind signed a) y → Below (seen_of (read_at kind signed a width i)) y
  read_outside Shl i l h b = plain_outside i h b
  read_outside Sshl i l h b = plain_outside i h b
  read_outside Shr i l h b = plain_outside i h b
  read_outside Shift i l h b = plain_outside i h b
  read_outside Sshr i l h b =
      let past : length a ≤ i = omega arith in
      subst (λ z. Below (seen_of z) y) (sym (get_or-eq_default a (fill_of signed a) past)) (below_seen (fill_of signed a) y b)
  read_outside Shiftx i l h b =
      let past : length a ≤ i = omega arith in
      subst (λ z. Below (seen_of z) y) (sym (get_or-eq_default a X past)) tt

  -- what is read of a word that is moved right
  read_right : (kind : ShiftKind) (m at : ℕ) → length a ≤ width → Below (moved_at Right (fill_bit kind signed a) width m (extended_at signed a) at) y → Below (read_of kind signed a width (pos at +ℤ pos m)) y
  read_right kind m at l b =
      let sum : pos (at + m) ≡ pos at +ℤ pos m = omega (arith, ints) in
      subst (λ z. Below (read_of kind signed a width z) y) sum
      (elim (cases_lt (at + m) width) [
        | inl h ↦ read_inside kind (at + m) h (subst (λ z. Below z y) (right_kept (fill_bit kind signed a) width m (extended_at signed a) at h) b)
        | inr h ↦ read_outside kind (at + m) l h (subst (λ z. Below z y) (right_filled (fill_bit kind signed a) width m (extended_at signed a) at h) b)
      ])

  -- what is read of a word that is moved left
  read_left : (kind : ShiftKind) (m at : ℕ) → at < width → fill_bit kind signed a ≡ below_of kind → Below (moved_at Left (fill_bit kind signed a) width m (extended_at signed a) at) y
      → Below (read_of kind signed a width (pos at +ℤ neg_ℤ (pos m))) y
  read_left kind m at lt same b = elim (cases_lt at m) [
    | inl h ↦ let z : negsuc (m - at - 1) ≡ pos at +ℤ neg_ℤ (pos m) = omega (arith, ints) in
        subst (λ z. Below (read_of kind signed a width z) y) z (subst (λ z. Below z y) (left_filled (fill_bit kind signed a) width m (extended_at signed a) at h ∙ same) b)
    | inr h ↦ let z : pos (at - m) ≡ pos at +ℤ neg_ℤ (pos m) = omega (arith, ints) in
        subst (λ z. Below (read_of kind signed a width z) y) z (read_inside kind (at - m) (omega arith) (subst (λ z. Below z y) (left_kept (fill_bit kind signed a) width m (extended_at signed a) at h) b))
  ]

-- a word that is moved by a known distance, by its number
worked_by : (way : Way) (fill : Bit) (width : ℕ) (v w : ℕ → Bit) (n m at : ℕ) (y : Bit) → at < width → AreKnown (low_of w n) → number_of (low_of w n) ≡ m → Below (worked way fill width 0 v w n at) y → Below (moved_at way fill width m v at) y
worked_by way fill width v w n m at y h k e b =
    let one : 2 ^ 0 * number_of (low_of w n) ≡ m = omega (arith, e) in
    subst (λ z. Below (moved_at way fill width z v at) y) one
    (below_alike (worked way fill width 0 v w n at) (moved_at way fill width (2 ^ 0 * number_of (low_of w n)) v at) y (worked_moves way fill width 0 v w n at h k) b)

at_known : (b : List Bit) (at : ℕ) → AreKnown b → IsKnown (bits_at b at)
at_known [] at k = tt
at_known (c ∷ b) zero k = k.0
at_known (c ∷ b) (suc at) k = at_known b at k.1

pub none_at : (b : List Bit) → length b ≡ 0 → bits_at b 0 ≡ S0
none_at [] e = refl
none_at (c ∷ b) e = absurd (omega (arith, e))

module _ (signed : Bool) (a b : List Bit) (width at : ℕ) (y : Bit) (known : AreKnown b) (lt : at < width) (fits : length a ≤ width) where
  abbrev own : ℕ → Bit
  own = extended_at signed a

  low_known : AreKnown (low_of (bits_at b) (length b))
  low_known = subst AreKnown (sym (low_bits b)) known

  number : number_of (low_of (bits_at b) (length b)) ≡ number_of b
  number = ap number_of (low_bits b)

  to_left : (kind : ShiftKind) → fill_bit kind signed a ≡ below_of kind → Below (worked Left (fill_bit kind signed a) width 0 own (bits_at b) (length b) at) y → Below (read_of kind signed a width (pos at +ℤ neg_ℤ (pos (number_of b)))) y
  to_left kind same h =
      read_left signed a width y kind (number_of b) at lt same (worked_by Left (fill_bit kind signed a) width own (bits_at b) (length b) (number_of b) at y lt low_known number h)

  to_right : (kind : ShiftKind) → Below (worked Right (fill_bit kind signed a) width 0 own (bits_at b) (length b) at) y → Below (read_of kind signed a width (pos at +ℤ pos (number_of b))) y
  to_right kind h =
      read_right signed a width y kind (number_of b) at fits (worked_by Right (fill_bit kind signed a) width own (bits_at b) (length b) (number_of b) at y lt low_known number h)

  -- either way, by the sign of the distance
  to_either : (kind : ShiftKind) → fill_bit kind signed a ≡ below_of kind → Below (either_at (fill_bit kind signed a) width own (bits_at b) (length b) at) y → Below (read_of kind signed a width (pos at +ℤ integer_in true b)) y
  to_either kind same h = by (bits_at b (length b - 1)) refl (at_known b (length b - 1) known) h
    where
      right : Bit
      right = worked Right (fill_bit kind signed a) width 0 own (bits_at b) (length b - 1) at

      left : Bit
      left = worked Left (fill_bit kind signed a) width 0 own (back_at (bits_at b)) (length b) at

      by : (top : Bit) → bits_at b (length b - 1) ≡ top → IsKnown top → Below (mux_of right left top) y → Below (read_of kind signed a width (pos at +ℤ integer_in true b)) y
      by S0 e k h =
          subst (λ z. Below (read_of kind signed a width (pos at +ℤ z)) y) (sym (integer_plus true b e))
          (read_right signed a width y kind (number_of b) at fits
          (worked_by Right (fill_bit kind signed a) width own (bits_at b) (length b - 1) (number_of b) at y lt (lower_known (bits_at b) (length b) low_known) (lower_number (bits_at b) (length b) e ∙ number)
          (below_alike (mux_of right left S0) right y (alike_first right left) h)))
      by S1 e k h =
          let back = back_is (bits_at b) (length b) low_known (none_at b) e in
          let m : ℕ = number_of (low_of (back_at (bits_at b)) (length b)) in
          subst (λ z. Below (read_of kind signed a width (pos at +ℤ z)) y) (sym (integer_minus b m e (omega (arith, back.number, number))))
          (read_left signed a width y kind m at lt same
          (worked_by Left (fill_bit kind signed a) width own (back_at (bits_at b)) (length b) m at y lt back.known refl
          (below_alike (mux_of right left S1) left y (alike_second right left) h)))
      by X e k h = absurd k
      by Z e k h = absurd k
      by M e k h = absurd k
      by Dash e k h = absurd k

  -- what a kind reads
  pub moved_reads : (kind : ShiftKind) (b_signed : Bool) → Below (moved_bits kind b_signed (fill_bit kind signed a) width own (bits_at b) (length b) at) y → Below (read_of kind signed a width (pos at +ℤ distance_of kind b_signed b)) y
  moved_reads Shl b_signed h = to_left Shl refl h
  moved_reads Sshl b_signed h = to_left Sshl refl h
  moved_reads Shr b_signed h = to_right Shr h
  moved_reads Sshr b_signed h = to_right Sshr h
  moved_reads Shift true h = to_either Shift refl h
  moved_reads Shift false h = to_right Shift h
  moved_reads Shiftx true h = to_either Shiftx refl h
  moved_reads Shiftx false h = to_right Shiftx h
