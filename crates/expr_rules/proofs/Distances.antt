-- Distances of shifts, and the bits that are read at them.
use Rattle.std.proofs.Common.{◌≡◌, refl, sym, ◌∙◌, ap, subst, ℕ, zero, suc, ◌+◌, ◌-◌, ◌^◌, ◌<◌, ◌≤◌, min, max, Bool, true, false, List, [], ◌∷◌, ◌++◌, map, length, arith, inl, inr, ℤ, pos, negsuc, neg_ℤ, ◌+ℤ◌, Some}
use Rattle.std.specs.Prelude.{nat_lt, nat_le, if◌then◌else◌, slice_index_or}
use Rattle.std.specs.List.{list_all, range_with_len}
use Rattle.std.proofs.lemmas.List.{get_or_past, length-map}
use Rattle.std.proofs.lemmas.List.FromFn.{map-range_with_len_more}
use Rattle.std.proofs.lemmas.Int.{ints}
use Rattle.std.proofs.lemmas.Bool.{and_parts, cases_lt}
use Rattle.std.proofs.lemmas.Bool.Decides.{nat_tests}
use Rattle.rtl_bits.specs.declared.bit.Bit.TheVariants.{S0, S1, X}
use Rattle.rtl_bits.specs.Knowledge.{all_known}
use Rattle.rtl_sig.specs.Signal.{fill_of}
use Rattle.rtl_sig.specs.declared.sig.SigBit.{SigBit}
use Rattle.rtl_sig.specs.declared.sig.SigBit.TheVariants.{Fixed, Wire as OnWire}
use Rattle.cell_types.specs.declared.gate.GateKind.TheVariants as GateOf
use Rattle.cell_types.specs.declared.kind.CellKind.{CellKind}
use Rattle.cell_types.specs.declared.kind.CellKind.TheVariants.{Word, Gate}
use Rattle.cell_types.specs.declared.shape.Shape.{Shape}
use Rattle.cell_types.specs.declared.word.ShiftKind.{ShiftKind}
use Rattle.cell_types.specs.declared.word.ShiftKind.TheVariants.{Sshr, Shiftx}
use Rattle.cell_types.specs.declared.word.WordKind.{WordKind}
use Rattle.cell_types.specs.declared.word.WordKind.TheVariants.{Shift}
use Rattle.cell_word.specs.Distances.{IsDistance}
use Rattle.cell_word.specs.Shifts.{below_of}
use Rattle.cell_word.specs.Sizes.{signed_of}
use Rattle.expr_rules.specs.Distances.{signal_by}
use Rattle.expr_rules.specs.Laws.{IsComputed}
use Rattle.expr_rules.specs.Operands.{counted_as}
use Rattle.expr_rules.specs.Rules.Shift.{moved_signal, signal_at, signal_from}
use Rattle.expr_rules.specs.Signals.{constants_of, is_known_constant}
use Rattle.rtl_ir.specs.Signals.{constant_of}
use Rattle.expr_rules.specs.declared.operands.Operands.{Operands}
use Rattle.cell_word.specs.declared.shift.Distance.{Distance}

-- a word of one more place
pub signals_more : (g : ℕ → SigBit) (n : ℕ) → map g (range_with_len 0 (n + 1)) ≡ map g (range_with_len 0 n) ++ g n ∷ []
signals_more g n = map-range_with_len_more g 0 n n (omega arith)

-- known constants are known bits
known_constant : (b : SigBit) (word : List SigBit) → is_known_constant b ≡ true → all_known (constants_of word) ≡ true → all_known (constants_of (b ∷ word)) ≡ true
known_constant (Fixed S0) word e h = h
known_constant (Fixed S1) word e h = h
known_constant (Fixed c) word e h = absurd (cc)
known_constant (OnWire b) word e h = absurd (cc)

pub known_constants : (word : List SigBit) → list_all is_known_constant word ≡ true → all_known (constants_of word) ≡ true
known_constants [] e = refl
known_constants (b ∷ word) e =
    let p = and_parts (is_known_constant b) (list_all is_known_constant word) e in
    known_constant b word p.0 (known_constants word p.1)

-- a shift is narrow enough for its distances
narrow : (k kind : WordKind) → Some k ≡ Some kind → k ≡ kind
narrow k kind e = cc

pub shift_room : (own : CellKind) (kind : ShiftKind) (shape : Shape) (o : Operands) → counted_as own ≡ Some (Shift kind) → IsComputed own shape o → length o.a < 2 ^ 32
shift_room (Word k) kind shape o c h =
    let s : IsComputed (Word (Shift kind)) shape o = subst (λ k. IsComputed (Word k) shape o) (narrow k (Shift kind) c) h in
    omega (arith, s, length-map o.a constant_of)
shift_room (Gate GateOf.Buf) kind shape o c h = absurd (cc)
shift_room (Gate GateOf.Not) kind shape o c h = absurd (cc)
shift_room (Gate GateOf.And) kind shape o c h = absurd (cc)
shift_room (Gate GateOf.Or) kind shape o c h = absurd (cc)
shift_room (Gate GateOf.Xor) kind shape o c h = absurd (cc)
shift_room (Gate GateOf.Xnor) kind shape o c h = absurd (cc)
shift_room (Gate GateOf.Mux) kind shape o c h = absurd (cc)
shift_room (Gate gate) kind shape o c h = absurd (cc)
shift_room own kind shape o c h = absurd (cc)

-- past the width all places read alike
test_past : (i width : ℕ) → width ≤ i → nat_lt i width ≡ false
test_past i width h = grind (arith, nat_tests)

read_past : (kind : ShiftKind) (signed : Bool) (a : List SigBit) (width i j : ℕ) → length a ≤ width → width ≤ i → width ≤ j → signal_at kind signed a width i ≡ signal_at kind signed a width j
read_past Sshr signed a width i j l h k = get_or_past a i _ (omega arith) ∙ sym (get_or_past a j _ (omega arith))
read_past Shiftx signed a width i j l h k = get_or_past a i (Fixed X) (omega arith) ∙ sym (get_or_past a j (Fixed X) (omega arith))
read_past kind signed a width i j l h k =
    ap (λ z. if z then slice_index_or a i (fill_of a signed) else Fixed S0) (test_past i width h)
    ∙ sym (ap (λ z. if z then slice_index_or a j (fill_of a signed) else Fixed S0) (test_past j width k))

-- what is read upward, at a size that may be cut off
read_up : (kind : ShiftKind) (signed : Bool) (a : List SigBit) (width at n : ℕ) → length a ≤ width → width < 2 ^ 32 → signal_at kind signed a width (at + min n (2 ^ 32)) ≡ signal_at kind signed a width (at + n)
read_up kind signed a width at n l w = elim (cases_lt n (2 ^ 32)) [
  | inl h ↦ let e : at + min n (2 ^ 32) ≡ at + n = omega arith in ap (signal_at kind signed a width) e
  | inr h ↦ read_past kind signed a width (at + min n (2 ^ 32)) (at + n) l (omega arith) (omega arith)
]

read_down : (kind : ShiftKind) (signed : Bool) (a : List SigBit) (width at n : ℕ) → at < 2 ^ 32 → (if nat_le (min n (2 ^ 32)) at then signal_at kind signed a width (at - min n (2 ^ 32)) else Fixed (below_of kind)) ≡ signal_from kind signed a width (pos at +ℤ neg_ℤ (pos n))
read_down kind signed a width at n w = elim (cases_lt at n) [
  | inl h ↦ let t : nat_le (min n (2 ^ 32)) at ≡ false = grind (arith, nat_tests) in
      let z : pos at +ℤ neg_ℤ (pos n) ≡ negsuc (n - at - 1) = omega (arith, ints) in
      ap (λ t. if t then signal_at kind signed a width (at - min n (2 ^ 32)) else Fixed (below_of kind)) t
      ∙ sym (ap (signal_from kind signed a width) z)
  | inr h ↦ let t : nat_le (min n (2 ^ 32)) at ≡ true = grind (arith, nat_tests) in
      let m : min n (2 ^ 32) ≡ n = omega arith in
      let z : pos at +ℤ neg_ℤ (pos n) ≡ pos (at - n) = omega (arith, ints) in
      ap (λ t. if t then signal_at kind signed a width (at - min n (2 ^ 32)) else Fixed (below_of kind)) t
      ∙ ap (λ m. signal_at kind signed a width (at - m)) m
      ∙ sym (ap (signal_from kind signed a width) z)
]

read_same : (kind : ShiftKind) (signed : Bool) (a : List SigBit) (width at : ℕ) (below : Bool) (n : ℕ) → length a ≤ width → width < 2 ^ 32 → at < 2 ^ 32 → signal_by kind signed a width (record { below = below; size = min n (2 ^ 32) }) at ≡ signal_from kind signed a width (pos at +ℤ signed_of below n)
read_same kind signed a width at true n l w h = read_down kind signed a width at n h
read_same kind signed a width at false n l w h = read_up kind signed a width at n l w

-- words of functions that agree below the width
words_same : (g h : ℕ → SigBit) (from n limit : ℕ) → from + n ≤ limit → ((i : ℕ) → i < limit → g i ≡ h i) → map g (range_with_len from n) ≡ map h (range_with_len from n)
words_same g h from zero limit l e = refl
words_same g h from (suc n) limit l e =
    ap (λ z. z ∷ map g (range_with_len (from + 1) n)) (e from (omega arith))
    ∙ ap (λ z. h from ∷ z) (words_same g h (from + 1) n limit (omega arith) e)

pub signals_moved : (kind : ShiftKind) (signed : Bool) (a : List SigBit) (d : Distance) (z : ℤ) (width : ℕ) → IsDistance d z → length a < 2 ^ 32 → width < 2 ^ 32 → map (signal_by kind signed a (max (length a) width) d) (range_with_len 0 width) ≡ moved_signal kind signed a z width
signals_moved kind signed a d z width i l w =
    words_same _ _ 0 width width (omega arith) (λ at h.
    ap (λ s. signal_by kind signed a (max (length a) width) (record { below = d.below; size = s }) at) (sym i.cut)
    ∙ read_same kind signed a (max (length a) width) at d.below i.size (omega arith) (omega arith) (omega arith)
    ∙ ap (λ y. signal_from kind signed a (max (length a) width) (pos at +ℤ y)) i.value)
