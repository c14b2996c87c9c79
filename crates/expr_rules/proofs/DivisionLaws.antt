-- The rule for the division cells says no less.
use Rattle.std.proofs.Common.{◌≡◌, ⊎_elim, ℕ, ◌+◌, ◌/◌, ◌%◌, ◌^◌, ◌<◌, ◌≤◌, max, Bool, true, false, length, map, take, drop, Some, None, refl, sym, ◌∙◌, ap, subst, arith, pos, ◌+ℤ◌, ◌-ℤ◌}
use Rattle.std.specs.Prelude.{slice_index_or, ◌&&◌, ◌==◌, if◌then◌else◌, not, int_lt, int_div, int_rem, unsigned_abs}
use Rattle.std.specs.Option.{option_map}
use Rattle.std.proofs.lemmas.Bool.{and_parts, cases_lt}
use Rattle.std.proofs.lemmas.Bool.Decides.{nat_tests}
use Rattle.std.proofs.lemmas.List.{get_or-drop, get_or-replicate, get_or-take, length-map, length-take}
use Rattle.std.proofs.lemmas.Nat.{mod_below, pow_pos}
use Rattle.std.proofs.Math.ListN.{get_or-eq_default}
use Rattle.std.proofs.Math.Nat.{mod-eq_of_lt, pow-le-pow_right}
use Rattle.std.proofs.Math.Pow.{pow-lt, shr-shr}
use Rattle.rtl_bits.proofs.Lists.{all_known_true}
use Rattle.rtl_bits.proofs.NumberLemmas.{number_of_bits_of, number_of_small}
use Rattle.rtl_bits.proofs.Orders.{Below_from_equal}
use Rattle.rtl_bits.specs.Knowledge.{AreKnown, Below, all_known}
use Rattle.rtl_bits.specs.Numbers.{bits_of, low_bit_of, number_of}
use Rattle.rtl_bits.specs.declared.bit.Bit.{Bit}
use Rattle.rtl_bits.specs.declared.bit.Bit.TheVariants.{S0, X}
use Rattle.rtl_sig.specs.Signal.{extended}
use Rattle.rtl_sig.specs.declared.sig.SigBit.{SigBit}
use Rattle.rtl_sig.specs.declared.sig.SigBit.TheVariants.{Fixed}
use Rattle.cell_types.specs.declared.shape.Shape.{Shape}
use Rattle.cell_types.specs.declared.word.DivisionKind.{DivisionKind}
use Rattle.cell_types.specs.declared.word.DivisionKind.TheVariants.{Div, Mod, DivFloor, ModFloor}
use Rattle.cell_types.specs.declared.word.WordKind.TheVariants.{Division}
use Rattle.cell_word.specs.Arithmetic.{division_of, quotient_bits_of, quotient_of, rounds_up, same_sign}
use Rattle.cell_word.specs.Integers.{integer_bits}
use Rattle.cell_word.specs.Values.{both_signed}
use Rattle.cell_word.specs.Words.{unknown_of}
use Rattle.cell_word.proofs.Residues.{bits_of_wrapped}
use Rattle.cell_word.proofs.Signs.{below_zero, quotient_of_signs, remainder_of_signs}
use Rattle.expr_rules.specs.Laws.{IsReading}
use Rattle.expr_rules.specs.Rules.Arith.{divide_by_power, power_of, quotient_by}
use Rattle.expr_rules.specs.declared.change.Change.TheVariants.{Gives}
use Rattle.expr_rules.specs.declared.operands.Operands.{Operands}
use Rattle.expr_rules.proofs.Cases.{if_case, map_case}
use Rattle.expr_rules.proofs.ConstantWords.{meant_bits, power_bits}
use Rattle.expr_rules.proofs.Digits.{bits_at, known_bits, past_bits}
use Rattle.expr_rules.proofs.Reading.{extended_length, extended_read}
use Rattle.expr_rules.proofs.Says.{RuleSays, WordSays}

-- numbers have one sign: a quotient of theirs is not rounded up
not_negative : (n : ℕ) → int_lt (pos n) (pos 0) ≡ false
not_negative n = below_zero false n (λ e. absurd (cc))

both_positive : (m n : ℕ) → same_sign (pos m) (pos n) ≡ true
both_positive m n =
    ap (λ t. if t then int_lt (pos n) (pos 0) else not (int_lt (pos n) (pos 0))) (not_negative m) ∙ ap not (not_negative n)

no_rest : (t u : Bool) → u ≡ true → (not t && not u) ≡ false
no_rest true u e = refl
no_rest false true e = refl
no_rest false false e = absurd (cc)

not_rounded : (m n : ℕ) → rounds_up (pos m) (pos n) ≡ false
not_rounded m n = no_rest (unsigned_abs (int_rem (pos m) (pos n)) == 0) (same_sign (pos m) (pos n)) (both_positive m n)

-- what a kind makes of two numbers
of_numbers : DivisionKind → ℕ → ℕ → ℕ
of_numbers Div m n = m / n
of_numbers Mod m n = m % n
of_numbers DivFloor m n = m / n
of_numbers ModFloor m n = m % n

numbers_divided : (kind : DivisionKind) (m n : ℕ) → 0 < n → quotient_of kind (pos m) (pos n) ≡ pos (of_numbers kind m n)
unfolding of_numbers
numbers_divided Div m n h = sym (quotient_of_signs false false m n h)
numbers_divided Mod m n h = sym (remainder_of_signs false false m n h)
numbers_divided DivFloor m n h = ap (λ t. if t then int_div (pos m) (pos n) -ℤ pos 1 else int_div (pos m) (pos n)) (not_rounded m n) ∙ sym (quotient_of_signs false false m n h)
numbers_divided ModFloor m n h = ap (λ t. if t then int_rem (pos m) (pos n) +ℤ pos n else int_rem (pos m) (pos n)) (not_rounded m n) ∙ sym (remainder_of_signs false false m n h)

not_zero : (n : ℕ) → 0 < n → (n == 0) ≡ false
not_zero n h = grind (arith, nat_tests)

-- a bit of a quotient by a power of two, and of a remainder
upper_bit : (m places at : ℕ) → low_bit_of (m / 2 ^ places / 2 ^ at) ≡ low_bit_of (m / 2 ^ (places + at))
upper_bit m places at = ap low_bit_of (shr-shr m places at)

lower_bit : (m places at : ℕ) → at < places → low_bit_of (m % 2 ^ places / 2 ^ at) ≡ low_bit_of (m / 2 ^ at)
lower_bit m places at h =
    let e : (m % 2 ^ places) % 2 ^ places ≡ m % 2 ^ places = mod-eq_of_lt (mod_below m (2 ^ places) (pow_pos places)) in
    sym (bits_at (m % 2 ^ places) places at h)
    ∙ ap (λ w. slice_index_or w at X) (bits_of_wrapped (m % 2 ^ places) m places places e (omega arith))
    ∙ bits_at m places at h

module _ (f : SigBit → Bit) (fixed : IsReading f) (shape : Shape) (o : Operands) (unsigned : both_signed shape ≡ false) where
  -- the width to which both operands are extended
  abbrev all : ℕ
  all = max (max (length o.a) (length o.b)) shape.widths.y

  -- a bit of A, as it is extended
  dividend_bit : o.left ≡ extended o.a all false → AreKnown (map f o.a) → (at : ℕ) → low_bit_of (number_of (map f o.a) / 2 ^ at) ≡ f (slice_index_or o.left at (Fixed S0))
  dividend_bit left k at =
      known_bits (map f o.a) at k ∙ ⊎_elim
      (λ lt. sym (ap (λ w. f (slice_index_or w at (Fixed S0))) left ∙ extended_read f fixed false o.a all at (Fixed S0) lt))
      (λ ge. get_or-eq_default (map f o.a) S0 (omega (arith, length-map o.a f))
      ∙ sym (ap f (get_or-eq_default o.left (Fixed S0) (omega (arith, ap length left, extended_length o.a all false))) ∙ fixed S0))
      (cases_lt at all)

  -- the number of B
  divisor : o.right ≡ extended o.b all false → AreKnown (map f o.b) → (places : ℕ) → power_of o.right ≡ Some places → number_of (map f o.b) ≡ 2 ^ places
  divisor right k places p =
      let w = power_bits f fixed o.right places p in
      let n : length o.right ≡ all = ap length right ∙ extended_length o.b all false in
      let e : bits_of (number_of (map f o.b)) all ≡ bits_of (2 ^ places) all =
      meant_bits f fixed false o.b all k ∙ ap (map f) (sym right) ∙ w.bits ∙ ap (bits_of (2 ^ places)) n in
      let s = number_of_small (map f o.b) in
      let q : 2 ^ length (map f o.b) ≤ 2 ^ all = pow-le-pow_right {n = 2} (omega arith) (omega (arith, length-map o.b f)) in
      let small : number_of (map f o.b) < 2 ^ all = omega arith in
      let within : 2 ^ places < 2 ^ all = pow-lt (omega (arith, w.within)) in
      sym (mod-eq_of_lt small) ∙ sym (number_of_bits_of (number_of (map f o.b)) all) ∙ ap number_of e ∙ number_of_bits_of (2 ^ places) all ∙ mod-eq_of_lt within

  -- the upper or lower bits
  quotient_bit : (kind : DivisionKind) → o.left ≡ extended o.a all false → AreKnown (map f o.a) → (places at : ℕ) → low_bit_of (of_numbers kind (number_of (map f o.a)) (2 ^ places) / 2 ^ at) ≡ f (slice_index_or (quotient_by kind o.left places) at (Fixed S0))
  unfolding of_numbers
  quotient_bit kind left k places at = by kind
    where
      upper : low_bit_of (number_of (map f o.a) / 2 ^ places / 2 ^ at) ≡ f (slice_index_or (drop places o.left) at (Fixed S0))
      upper = upper_bit (number_of (map f o.a)) places at ∙ dividend_bit left k (places + at) ∙ sym (ap f (get_or-drop places o.left at (Fixed S0)))

      lower : low_bit_of (number_of (map f o.a) % 2 ^ places / 2 ^ at) ≡ f (slice_index_or (take places o.left) at (Fixed S0))
      lower = ⊎_elim
          (λ lt. lower_bit (number_of (map f o.a)) places at lt ∙ dividend_bit left k at ∙ sym (ap f (get_or-take places o.left at (Fixed S0) lt)))
          (λ ge. past_bits (number_of (map f o.a) % 2 ^ places) places at (mod_below (number_of (map f o.a)) (2 ^ places) (pow_pos places)) ge
          ∙ sym (ap f (get_or-eq_default (take places o.left) (Fixed S0) (omega (arith, length-take places o.left))) ∙ fixed S0))
          (cases_lt at places)

      by : (kind : DivisionKind) → low_bit_of (of_numbers kind (number_of (map f o.a)) (2 ^ places) / 2 ^ at) ≡ f (slice_index_or (quotient_by kind o.left places) at (Fixed S0))
      by Div = upper
      by DivFloor = upper
      by Mod = lower
      by ModFloor = lower

  power_says : (kind : DivisionKind) → o.left ≡ extended o.a all false → o.right ≡ extended o.b all false → (places : ℕ) → power_of o.right ≡ Some places → WordSays f shape o (Division kind) (Gives (quotient_by kind o.left places))
  power_says kind left right places p at h =
      subst (λ t. Below (slice_index_or (division_of kind t (map f o.a) (map f o.b) shape.widths.y) at X) (f (slice_index_or (quotient_by kind o.left places) at (Fixed S0)))) (sym unsigned)
      (by (all_known (map f o.a) && all_known (map f o.b)) refl)
    where
      by : (t : Bool) → (all_known (map f o.a) && all_known (map f o.b)) ≡ t → Below (slice_index_or (if t then quotient_bits_of kind (pos (number_of (map f o.a))) (pos (number_of (map f o.b))) shape.widths.y else unknown_of shape.widths.y) at X) (f (slice_index_or (quotient_by kind o.left places) at (Fixed S0)))
      by true e =
          let k = and_parts (all_known (map f o.a)) (all_known (map f o.b)) e in
          let d : number_of (map f o.b) ≡ 2 ^ places = divisor right (all_known_true (map f o.b) k.1) places p in
          Below_from_equal _ _ (
          ap (λ n. slice_index_or (quotient_bits_of kind (pos (number_of (map f o.a))) (pos n) shape.widths.y) at X) d
          ∙ ap (λ t. slice_index_or (if t then unknown_of shape.widths.y else integer_bits (quotient_of kind (pos (number_of (map f o.a))) (pos (2 ^ places))) shape.widths.y) at X) (not_zero (2 ^ places) (pow_pos places))
          ∙ ap (λ z. slice_index_or (integer_bits z shape.widths.y) at X) (numbers_divided kind (number_of (map f o.a)) (2 ^ places) (pow_pos places))
          ∙ bits_at (of_numbers kind (number_of (map f o.a)) (2 ^ places)) shape.widths.y at h
          ∙ quotient_bit kind left (all_known_true (map f o.a) k.0) places at)
      by false e = subst (λ z. Below z (f (slice_index_or (quotient_by kind o.left places) at (Fixed S0)))) (sym (get_or-replicate shape.widths.y at X X h)) tt

pub divide_by_power_says : (f : SigBit → Bit) (fixed : IsReading f) (shape : Shape) (o : Operands) → RuleSays f shape o (λ kind. divide_by_power kind shape o)
divide_by_power_says f fixed shape o (Division kind) m change e =
    if_case (WordSays f shape o (Division kind)) change (both_signed shape) None (option_map (λ places. Gives (quotient_by kind o.left places)) (power_of o.right)) e
    (λ t e. absurd (cc))
    (λ t e. map_case (WordSays f shape o (Division kind)) change (λ places. Gives (quotient_by kind o.left places)) (power_of o.right) e (λ places p.
    power_says f fixed shape o t kind
    (m.left ∙ ap (extended o.a (max (max (length o.a) (length o.b)) shape.widths.y)) t)
    (m.right ∙ ap (extended o.b (max (max (length o.a) (length o.b)) shape.widths.y)) t)
    places p))
divide_by_power_says f fixed shape o kind m change e = absurd (cc)
