-- The numbers of words of constants, and the integers of extended operands.
use Rattle.std.proofs.Common.{◌≡◌, ℕ, zero, suc, ◌*◌, ◌/◌, ◌%◌, ◌^◌, ◌<◌, Bool, true, false, List, [], ◌∷◌, length, map, Some, None, refl, sym, ◌∙◌, ap, subst, arith}
use Rattle.std.specs.Prelude.{if◌then◌else◌, ◌==◌}
use Rattle.std.specs.Option.{option_map}
use Rattle.std.specs.List.{list_all}
use Rattle.std.proofs.lemmas.Bool.{and_parts}
use Rattle.std.proofs.lemmas.List.{ext_get_or, length-map}
use Rattle.std.proofs.lemmas.List.FromFn.{length-map-range_with_len}
use Rattle.std.proofs.Math.Nat.{pow-succ'}
use Rattle.rtl_bits.specs.Knowledge.{AreKnown}
use Rattle.rtl_bits.specs.Numbers.{bits_of, low_bit_of}
use Rattle.rtl_bits.specs.declared.bit.Bit.{Bit}
use Rattle.rtl_bits.specs.declared.bit.Bit.TheVariants.{S0, S1, X}
use Rattle.rtl_sig.specs.Signal.{extended}
use Rattle.rtl_sig.specs.declared.sig.SigBit.{SigBit}
use Rattle.rtl_sig.specs.declared.sig.SigBit.TheVariants.{Fixed}
use Rattle.cell_word.specs.Integers.{integer_bits, integer_in}
use Rattle.cell_word.specs.Words.{extended_at, word_of}
use Rattle.expr_rules.specs.Change.{when}
use Rattle.expr_rules.specs.Laws.{IsReading}
use Rattle.expr_rules.specs.Rules.Arith.{power_of}
use Rattle.expr_rules.specs.Signals.{filled, is_one, is_zero}
use Rattle.expr_rules.proofs.Cases.{map_case, when_case}
use Rattle.expr_rules.proofs.Digits.{integer_word}
use Rattle.expr_rules.proofs.LogicLaws.{one_is, zero_is}
use Rattle.expr_rules.proofs.Reading.{extended_length, extended_read, read_word, word_at}

low_double : (n : ℕ) → low_bit_of (2 * n) ≡ S0
low_double n = let e : (2 * n) % 2 ≡ 0 = omega arith in ap (λ r. if r == 1 then S1 else S0) e

half_double : (n : ℕ) → (2 * n) / 2 ≡ n
half_double n = omega arith

module _ (f : SigBit → Bit) (fixed : IsReading f) where
  -- an extended operand is read as the extended word
  extended_word : (signed : Bool) (bits : List SigBit) (width : ℕ) → map f (extended bits width signed) ≡ word_of (extended_at signed (map f bits)) width
  extended_word signed bits width =
      let n : length (map f (extended bits width signed)) ≡ width = length-map (extended bits width signed) f ∙ extended_length bits width signed in
      ext_get_or X (map f (extended bits width signed)) (word_of (extended_at signed (map f bits)) width)
      (n ∙ sym (length-map-range_with_len (extended_at signed (map f bits)) 0 width))
      (λ at h.
      let lt : at < width = subst (λ n. at < n) n h in
      read_word f fixed (extended bits width signed) at
      ∙ extended_read f fixed signed bits width at (Fixed X) lt
      ∙ sym (word_at (extended_at signed (map f bits)) width at lt))

  -- an extended operand has the low bits of the operand's integer
  pub meant_bits : (signed : Bool) (bits : List SigBit) (width : ℕ) → AreKnown (map f bits) → integer_bits (integer_in signed (map f bits)) width ≡ map f (extended bits width signed)
  meant_bits signed bits width k = integer_word signed (map f bits) width k ∙ sym (extended_word signed bits width)

  -- zeros
  pub zero_bits : (word : List SigBit) → list_all is_zero word ≡ true → map f word ≡ bits_of 0 (length word)
  zero_bits [] e = refl
  zero_bits (b ∷ word) e =
      let p = and_parts (is_zero b) (list_all is_zero word) e in
      let x : f b ≡ S0 = zero_is f fixed b p.0 in
      let y : map f word ≡ bits_of 0 (length word) = zero_bits word p.1 in
      λ i. x i ∷ y i

  pub filled_bits : (width : ℕ) → map f (filled width S0) ≡ bits_of 0 width
  filled_bits zero = refl
  filled_bits (suc width) =
      let x : f (Fixed S0) ≡ S0 = fixed S0 in
      let y : map f (filled width S0) ≡ bits_of 0 width = filled_bits width in
      λ i. x i ∷ y i

  -- a power of two
  pub record IsPower (word : List SigBit) (places : ℕ) : Type 0 where
    pub bits : map f word ≡ bits_of (2 ^ places) (length word)
    pub within : places < length word

  pub power_bits : (word : List SigBit) (places : ℕ) → power_of word ≡ Some places → IsPower word places
  power_bits [] places e = absurd (cc)
  power_bits (b ∷ word) places e = by (is_one b) (is_zero b) refl refl e (power_bits word)
    where
      by : (t u : Bool) → is_one b ≡ t → is_zero b ≡ u → (if t then when (list_all is_zero word) 0 else if u then option_map suc (power_of word) else None) ≡ Some places → ((places : ℕ) → power_of word ≡ Some places → IsPower word places) → IsPower (b ∷ word) places
      by true u p q e rest =
          when_case (IsPower (b ∷ word)) places (list_all is_zero word) 0 e (λ t. record {
            bits =
                let x : f b ≡ S1 = one_is f fixed b p in
                let y : map f word ≡ bits_of 0 (length word) = zero_bits word t in
                λ i. x i ∷ y i;
            within = omega arith;
          })
      by false true p q e rest =
          map_case (IsPower (b ∷ word)) places suc (power_of word) e (λ j g.
          let r = rest j g in
          let d : 2 ^ suc j ≡ 2 * 2 ^ j = pow-succ' 2 j in
          let x : f b ≡ low_bit_of (2 ^ suc j) = zero_is f fixed b q ∙ sym (ap low_bit_of d ∙ low_double (2 ^ j)) in
          let y : map f word ≡ bits_of (2 ^ suc j / 2) (length word) = r.bits ∙ sym (ap (λ n. bits_of (n / 2) (length word)) d ∙ ap (λ n. bits_of n (length word)) (half_double (2 ^ j))) in
          record { bits = λ i. x i ∷ y i; within = omega (arith, r.within) })
      by false false p q e rest = absurd (cc)
