-- Distances of shifts, and what is read at them.
use Rattle.std.proofs.Common.{◌≡◌, refl, sym, ◌∙◌, ap, ℕ, zero, suc, ◌+◌, ◌-◌, ◌*◌, ◌^◌, ◌<◌, ◌≤◌, min, max, Bool, true, false, List, [], ◌∷◌, map, length, get_or, drop, arith, inl, inr, ℤ, pos, negsuc, neg_ℤ, ◌+ℤ◌, ◌-ℤ◌}
use Rattle.std.proofs.lemmas.List.{get_or_past}
use Rattle.std.specs.Prelude.{nat_lt, nat_le, if◌then◌else◌}
use Rattle.std.specs.List.{range_with_len}
use Rattle.std.proofs.lemmas.Int.{ints}
use Rattle.std.proofs.lemmas.Bool.{cases_lt}
use Rattle.std.proofs.lemmas.Bool.Decides.{nat_tests}
use Rattle.std.proofs.Math.Nat.{pow-succ'}
use Rattle.rtl_bits.specs.declared.bit.Bit.{Bit}
use Rattle.rtl_bits.specs.declared.bit.Bit.TheVariants.{S0, S1, X}
use Rattle.rtl_bits.specs.Knowledge.{AreKnown, all_known}
use Rattle.rtl_bits.specs.Tables.{seen_of, not_of}
use Rattle.rtl_bits.specs.Numbers.{digit_of, number_of, top_of, is_one}
use Rattle.rtl_bits.proofs.NumberLemmas.{drop_here}
use Rattle.rtl_bits.proofs.Lists.{all_known_true}
use Rattle.cell_types.specs.declared.word.ShiftKind.{ShiftKind}
use Rattle.cell_types.specs.declared.word.ShiftKind.TheVariants.{Sshr, Shiftx}
use Rattle.cell_word.specs.declared.shift.Distance.{Distance}
use Rattle.cell_word.specs.Words.{word_of, fill_of, extended_at}
use Rattle.cell_word.specs.Integers.{integer_in}
use Rattle.cell_word.specs.Sizes.{signed_of}
use Rattle.cell_word.specs.Shifts.{below_of, read_at, read_of, moved_of}
use Rattle.cell_word.specs.Distances.{flipped, far_of, IsDistance, read_by}

cut_again : (n k : ℕ) → min (2 * min n (2 ^ 32) + k) (2 ^ 32) ≡ min (k + 2 * n) (2 ^ 32)
cut_again n k = omega arith

-- one more bit from below
pub far_here : (inverse : Bool) (bits : List Bit) (i : ℕ) (d : Bit) → 0 < i → i ≤ length bits → min (2 * far_of inverse (drop i bits) + digit_of (flipped inverse (get_or bits (i - 1) d))) (2 ^ 32) ≡ far_of inverse (drop (i - 1) bits)
far_here inverse bits i d p h =
    let e = drop_here bits i d p h in
    let n : ℕ = number_of (map (flipped inverse) (drop i bits)) in
    cut_again n (digit_of (flipped inverse (get_or bits (i - 1) d)))
    ∙ sym (ap (far_of inverse) e)

number_unflipped : (bits : List Bit) → number_of (map (flipped false) bits) ≡ number_of bits
number_unflipped [] = refl
number_unflipped (b ∷ bits) = ap (λ n. digit_of b + 2 * n) (number_unflipped bits)

pub distance_down : (b : List Bit) → IsDistance (record { below = true; size = far_of false b }) (neg_ℤ (pos (number_of b)))
distance_down b = record { size = number_of b; cut = ap (λ n. min n (2 ^ 32)) (sym (number_unflipped b)); value = refl }

pub distance_up : (b : List Bit) → IsDistance (record { below = false; size = far_of false b }) (pos (number_of b))
distance_up b = record { size = number_of b; cut = ap (λ n. min n (2 ^ 32)) (sym (number_unflipped b)); value = refl }

-- the number of the inverse bits
number_inverse : (bits : List Bit) → AreKnown bits → number_of (map not_of bits) + number_of bits + 1 ≡ 2 ^ length bits
number_inverse [] k = refl
number_inverse (S0 ∷ bits) k = let h = number_inverse bits k.1 in omega (arith, pow-succ' 2 (length bits))
number_inverse (S1 ∷ bits) k = let h = number_inverse bits k.1 in omega (arith, pow-succ' 2 (length bits))
number_inverse (b ∷ bits) k = absurd k.0

is_one_of : (b : Bit) → b ≡ S1 → is_one b ≡ true
is_one_of b e = ap is_one e

not_one_of : (b : Bit) → (b ≡ S1 → ⊥) → is_one b ≡ false
not_one_of S1 n = absurd (n refl)
not_one_of b n = refl

pub distance_negative : (signed : Bool) (b : List Bit) → all_known b ≡ true → fill_of signed b ≡ S1 → IsDistance (record { below = true; size = min (far_of true b + 1) (2 ^ 32) }) (integer_in signed b)
distance_negative false b k e = absurd (cc)
distance_negative true b k e =
    let h = number_inverse b (all_known_true b k) in
    let t : is_one (top_of b) ≡ true = is_one_of (top_of b) e in
    let v : neg_ℤ (pos (number_of (map not_of b) + 1)) ≡ pos (number_of b) -ℤ pos (2 ^ length b) = omega (arith, ints) in
    record {
      size = number_of (map not_of b) + 1;
      cut = omega arith;
      value = v ∙ sym (ap (λ z. if z then pos (number_of b) -ℤ pos (2 ^ length b) else pos (number_of b)) t);
    }

pub distance_positive : (signed : Bool) (b : List Bit) → (fill_of signed b ≡ S1 → ⊥) → IsDistance (record { below = false; size = far_of false b }) (integer_in signed b)
distance_positive false b n = distance_up b
distance_positive true b n =
    let t : is_one (top_of b) ≡ false = not_one_of (top_of b) n in
    record {
      size = number_of b;
      cut = ap (λ n. min n (2 ^ 32)) (sym (number_unflipped b));
      value = sym (ap (λ z. if z then pos (number_of b) -ℤ pos (2 ^ length b) else pos (number_of b)) t);
    }

-- past the width all places read alike
test_past : (i width : ℕ) → width ≤ i → nat_lt i width ≡ false
test_past i width h = grind (arith, nat_tests)

read_past : (kind : ShiftKind) (signed : Bool) (a : List Bit) (width i j : ℕ) → length a ≤ width → width ≤ i → width ≤ j → read_at kind signed a width i ≡ read_at kind signed a width j
read_past Sshr signed a width i j l h k = get_or_past a i _ (omega arith) ∙ sym (get_or_past a j _ (omega arith))
read_past Shiftx signed a width i j l h k = get_or_past a i X (omega arith) ∙ sym (get_or_past a j X (omega arith))
read_past kind signed a width i j l h k =
    ap (λ z. if z then extended_at signed a i else S0) (test_past i width h)
    ∙ sym (ap (λ z. if z then extended_at signed a j else S0) (test_past j width k))

-- what is read upward, at a size that may be cut off
read_up : (kind : ShiftKind) (signed : Bool) (a : List Bit) (width at n : ℕ) → length a ≤ width → width < 2 ^ 32 → read_at kind signed a width (at + min n (2 ^ 32)) ≡ read_at kind signed a width (at + n)
read_up kind signed a width at n l w = elim (cases_lt n (2 ^ 32)) [
  | inl h ↦ let e : at + min n (2 ^ 32) ≡ at + n = omega arith in ap (read_at kind signed a width) e
  | inr h ↦ read_past kind signed a width (at + min n (2 ^ 32)) (at + n) l (omega arith) (omega arith)
]

read_down : (kind : ShiftKind) (signed : Bool) (a : List Bit) (width at n : ℕ) → at < 2 ^ 32 → (if nat_le (min n (2 ^ 32)) at then seen_of (read_at kind signed a width (at - min n (2 ^ 32))) else below_of kind) ≡ read_of kind signed a width (pos at +ℤ neg_ℤ (pos n))
read_down kind signed a width at n w = elim (cases_lt at n) [
  | inl h ↦ let t : nat_le (min n (2 ^ 32)) at ≡ false = grind (arith, nat_tests) in
      let z : pos at +ℤ neg_ℤ (pos n) ≡ negsuc (n - at - 1) = omega (arith, ints) in
      ap (λ t. if t then seen_of (read_at kind signed a width (at - min n (2 ^ 32))) else below_of kind) t
      ∙ sym (ap (read_of kind signed a width) z)
  | inr h ↦ let t : nat_le (min n (2 ^ 32)) at ≡ true = grind (arith, nat_tests) in
      let m : min n (2 ^ 32) ≡ n = omega arith in
      let z : pos at +ℤ neg_ℤ (pos n) ≡ pos (at - n) = omega (arith, ints) in
      ap (λ t. if t then seen_of (read_at kind signed a width (at - min n (2 ^ 32))) else below_of kind) t
      ∙ ap (λ m. seen_of (read_at kind signed a width (at - m))) m
      ∙ sym (ap (read_of kind signed a width) z)
]

read_same : (kind : ShiftKind) (signed : Bool) (a : List Bit) (width at : ℕ) (below : Bool) (n : ℕ) → length a ≤ width → width < 2 ^ 32 → at < 2 ^ 32 → read_by kind signed a width (record { below = below; size = min n (2 ^ 32) }) at ≡ read_of kind signed a width (pos at +ℤ signed_of below n)
read_same kind signed a width at true n l w h = read_down kind signed a width at n h
read_same kind signed a width at false n l w h = ap seen_of (read_up kind signed a width at n l w)

-- words of functions that agree below the width
words_same : (f g : ℕ → Bit) (from n limit : ℕ) → from + n ≤ limit → ((i : ℕ) → i < limit → f i ≡ g i) → map f (range_with_len from n) ≡ map g (range_with_len from n)
words_same f g from zero limit h e = refl
words_same f g from (suc n) limit h e =
    ap (λ z. z ∷ map f (range_with_len (from + 1) n)) (e from (omega arith))
    ∙ ap (λ z. g from ∷ z) (words_same f g (from + 1) n limit (omega arith) e)

pub moved_by : (kind : ShiftKind) (signed : Bool) (a : List Bit) (d : Distance) (z : ℤ) (width : ℕ) → IsDistance d z → length a < 2 ^ 32 → width < 2 ^ 32 → word_of (read_by kind signed a (max (length a) width) d) width ≡ moved_of kind signed a z width
moved_by kind signed a d z width i l w =
    words_same _ _ 0 width width (omega arith) (λ at h.
    ap (λ s. read_by kind signed a (max (length a) width) (record { below = d.below; size = s }) at) (sym i.cut)
    ∙ read_same kind signed a (max (length a) width) at d.below i.size (omega arith) (omega arith) (omega arith)
    ∙ ap (λ y. read_of kind signed a (max (length a) width) (pos at +ℤ y)) i.value)
