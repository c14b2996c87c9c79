-- The rules for the cells that know parts by their numbers say no less.
use Rattle.std.proofs.Common.{◌≡◌, refl, sym, ◌∙◌, ap, subst, ℕ, zero, suc, ◌+◌, ◌-◌, ◌*◌, ◌^◌, ◌<◌, ◌≤◌, Bool, true, false, List, [], ◌∷◌, ◌++◌, length, map, replicate, Some, arith, append_assoc}
use Rattle.std.specs.Prelude.{if◌then◌else◌, slice_index_or}
use Rattle.std.specs.List.{list_all}
use Rattle.std.proofs.lemmas.List.{length-map}
use Rattle.std.proofs.lemmas.List.FromFn.{get_or-map-range_with_len}
use Rattle.rtl_bits.proofs.NumberLemmas.{number_of_small}
use Rattle.rtl_bits.specs.Knowledge.{Below, all_known}
use Rattle.rtl_bits.specs.Numbers.{number_of}
use Rattle.rtl_bits.specs.Tables.{and_of, seen_of}
use Rattle.rtl_bits.specs.declared.bit.Bit.{Bit}
use Rattle.rtl_bits.specs.declared.bit.Bit.TheVariants.{S0, X}
use Rattle.rtl_sig.specs.declared.sig.SigBit.{SigBit}
use Rattle.rtl_sig.specs.declared.sig.SigBit.TheVariants.{Fixed}
use Rattle.cell_types.specs.declared.shape.Shape.{Shape}
use Rattle.cell_types.specs.declared.word.WordKind.TheVariants.{Bmux, Demux}
use Rattle.cell_word.specs.Parts.{bmuxed_bit, may_be, placed_bit, placed_parts}
use Rattle.cell_word.proofs.Numbered.{merged_halved}
use Rattle.expr_rules.specs.Change.{when}
use Rattle.expr_rules.specs.Laws.{IsReading, read_at}
use Rattle.expr_rules.specs.Rules.Parts.{known_part, known_place, number_in}
use Rattle.expr_rules.specs.Signals.{constants_of, filled, is_known_constant, part_of}
use Rattle.expr_rules.specs.declared.change.Change.TheVariants.{Gives}
use Rattle.expr_rules.specs.declared.operands.Operands.{Operands}
use Rattle.expr_rules.proofs.Cases.{map_case}
use Rattle.expr_rules.proofs.Distances.{known_constants}
use Rattle.expr_rules.proofs.PartNumbers.{halved_known, may_be_alone, may_be_own}
use Rattle.expr_rules.proofs.Reading.{read_word, word_at}
use Rattle.expr_rules.proofs.Says.{RuleSays, WordSays, bit_of}
use Rattle.expr_rules.proofs.ShiftLaws.{known_are}
use Rattle.expr_rules.proofs.Tables.{seen_below}

-- the number of constants is there where all are known, and is theirs
number_is : (s : List SigBit) (n : ℕ) → number_in s ≡ Some n → (list_all is_known_constant s ≡ true) × (number_of (constants_of s) ≡ n)
number_is s n e = by (list_all is_known_constant s) refl e
  where
    by : (t : Bool) → list_all is_known_constant s ≡ t → when t (number_of (constants_of s)) ≡ Some n → (list_all is_known_constant s ≡ true) × (number_of (constants_of s) ≡ n)
    by true k e = (k, cc)
    by false k e = absurd (cc)

-- a part in which nothing is put has zeros, and that in which a word is put has its bits
module _ (s : List Bit) (known : all_known s ≡ true) where
  zero_part : (a : List Bit) (n : ℕ) → may_be s n ≡ false → map (placed_bit s n) a ≡ replicate (length a) S0
  zero_part [] n e = refl
  zero_part (b ∷ a) n e = λ i. (if e i then (if all_known s then seen_of b else and_of X b) else S0) ∷ zero_part a n e i

  own_part : (a : List Bit) (n : ℕ) → may_be s n ≡ true → map (placed_bit s n) a ≡ map seen_of a
  own_part [] n e = refl
  own_part (b ∷ a) n e = λ i. (if e i then (if known i then seen_of b else and_of X b) else S0) ∷ own_part a n e i

  other_part : (n : ℕ) → n < 2 ^ length s → (n ≡ number_of s → ⊥) → may_be s n ≡ false
  other_part n lt unlike = by (may_be s n) refl
    where
      by : (t : Bool) → may_be s n ≡ t → may_be s n ≡ false
      by true e = absurd (unlike (may_be_alone s n known lt e))
      by false e = e

  zeros_more : (m n : ℕ) → replicate m S0 ++ replicate n S0 ≡ replicate (m + n) S0
  zeros_more zero n = ap (λ k. replicate k S0) (let e : n ≡ 0 + n = omega arith in e)
  zeros_more (suc m) n = ap (λ z. S0 ∷ z) (zeros_more m n) ∙ ap (λ k. replicate k S0) (let e : suc (m + n) ≡ suc m + n = omega arith in e)

  -- the parts below the one
  parts_below : (a : List Bit) (n : ℕ) → n ≤ number_of s → placed_parts a s n ≡ replicate (n * length a) S0
  parts_below a zero le = ap (λ k. replicate k S0) (let e : 0 ≡ 0 * length a = omega arith in e)
  parts_below a (suc n) le =
      let lt : n < 2 ^ length s = omega (arith, number_of_small s) in
      let more : n * length a + length a ≡ suc n * length a = grind arith in
      (λ i. parts_below a n (omega arith) i ++ zero_part a n (other_part n lt (λ e. omega arith)) i)
      ∙ zeros_more (n * length a) (length a)
      ∙ ap (λ k. replicate k S0) more

  -- with those above it
  parts_are : (a : List Bit) (k : ℕ) → number_of s + suc k ≤ 2 ^ length s → placed_parts a s (number_of s + suc k) ≡ (replicate (number_of s * length a) S0 ++ map seen_of a) ++ replicate (k * length a) S0
  parts_are a zero le =
      let one : number_of s + 1 ≡ suc (number_of s) = omega arith in
      let none : 0 ≡ 0 * length a = omega arith in
      ap (placed_parts a s) one
      ∙ (λ i. parts_below a (number_of s) (omega arith) i ++ own_part a (number_of s) (may_be_own s known) i)
      ∙ sym (append_none (replicate (number_of s * length a) S0 ++ map seen_of a))
      ∙ ap (λ k. (replicate (number_of s * length a) S0 ++ map seen_of a) ++ replicate k S0) none
    where
      append_none : (xs : List Bit) → xs ++ [] ≡ xs
      append_none [] = refl
      append_none (x ∷ xs) = ap (λ z. x ∷ z) (append_none xs)
  parts_are a (suc k) le =
      let n : ℕ = number_of s + suc k in
      let more : number_of s + suc (suc k) ≡ suc (number_of s + suc k) = omega arith in
      let all : k * length a + length a ≡ suc k * length a = grind arith in
      ap (placed_parts a s) more
      ∙ (λ i. parts_are a k (omega arith) i ++ zero_part a (number_of s + suc k) (other_part (number_of s + suc k) (omega arith) (λ e. omega arith)) i)
      ∙ append_assoc (replicate (number_of s * length a) S0 ++ map seen_of a) (replicate (k * length a) S0) (replicate (length a) S0)
      ∙ ap (λ z. (replicate (number_of s * length a) S0 ++ map seen_of a) ++ z) (zeros_more (k * length a) (length a) ∙ ap (λ k. replicate k S0) all)

  all_parts : (a : List Bit) → placed_parts a s (2 ^ length s) ≡ (replicate (number_of s * length a) S0 ++ map seen_of a) ++ replicate ((2 ^ length s - number_of s - 1) * length a) S0
  all_parts a =
      let whole : 2 ^ length s ≡ number_of s + suc (2 ^ length s - number_of s - 1) = omega (arith, number_of_small s) in
      ap (placed_parts a s) whole ∙ parts_are a (2 ^ length s - number_of s - 1) (omega (arith, number_of_small s))

module _ (f : SigBit → Bit) (fixed : IsReading f) where
  zeros_under : (n at : ℕ) → Below (slice_index_or (replicate n S0) at X) (f (Fixed S0))
  zeros_under zero at = tt
  zeros_under (suc n) zero = fixed S0
  zeros_under (suc n) (suc at) = zeros_under n at

  -- the bits of a word above zeros, and zeros above it
  over_zeros : (m n : ℕ) (a : List SigBit) (at : ℕ) → Below (slice_index_or ((replicate m S0 ++ map seen_of (map f a)) ++ replicate n S0) at X) (f (slice_index_or (filled m S0 ++ a) at (Fixed S0)))
  over_zeros zero n [] at = zeros_under n at
  over_zeros zero n (b ∷ a) zero = seen_below (f b)
  over_zeros zero n (b ∷ a) (suc at) = over_zeros zero n a at
  over_zeros (suc m) n a zero = fixed S0
  over_zeros (suc m) n a (suc at) = over_zeros m n a at

  module _ (shape : Shape) (o : Operands) where
    pub known_part_says : RuleSays f shape o (λ kind. known_part kind shape o)
    known_part_says Bmux m change e =
        map_case (WordSays f shape o Bmux) change (λ part. Gives (part_of o.a (part * shape.widths.y) shape.widths.y)) (number_in o.s) e (λ n here at h.
        let width : ℕ = shape.widths.y in
        let is = number_is o.s n here in
        let same : constants_of o.s ≡ map f o.s = known_are f fixed o.s is.0 in
        let known : all_known (map f o.s) ≡ true = ap all_known (sym same) ∙ known_constants o.s is.0 in
        let number : number_of (map f o.s) ≡ n = ap number_of (sym same) ∙ is.1 in
        let p : slice_index_or (part_of o.a (n * width) width) at (Fixed S0) ≡ slice_index_or o.a (n * width + at) (Fixed X) =
        get_or-map-range_with_len (λ at. slice_index_or o.a (n * width + at) (Fixed X)) 0 width at at (Fixed S0) h (omega arith) in
        let v : bit_of f shape o Bmux at ≡ seen_of (read_at f o.a (n * width + at)) =
        word_at (bmuxed_bit (map f o.a) (map f o.s) width) width at h
        ∙ merged_halved (map f o.s) (λ part. slice_index_or (map f o.a) (part * width + at) X)
        ∙ halved_known (map f o.s) (λ part. slice_index_or (map f o.a) (part * width + at) X) known
        ∙ ap (λ n. seen_of (slice_index_or (map f o.a) (n * width + at) X)) number
        ∙ ap seen_of (read_word f fixed o.a (n * width + at)) in
        subst (λ z. Below z (f (slice_index_or (part_of o.a (n * width) width) at (Fixed S0)))) (sym v)
        (subst (λ s. Below (seen_of (read_at f o.a (n * width + at))) (f s)) (sym p) (seen_below (read_at f o.a (n * width + at)))))
    known_part_says kind m change e = absurd (cc)

    pub known_place_says : RuleSays f shape o (λ kind. known_place kind o)
    known_place_says Demux m change e =
        map_case (WordSays f shape o Demux) change (λ part. Gives (filled (part * length o.a) S0 ++ o.a)) (number_in o.s) e (λ n here at h.
        let is = number_is o.s n here in
        let same : constants_of o.s ≡ map f o.s = known_are f fixed o.s is.0 in
        let known : all_known (map f o.s) ≡ true = ap all_known (sym same) ∙ known_constants o.s is.0 in
        let number : number_of (map f o.s) ≡ n = ap number_of (sym same) ∙ is.1 in
        let more : ℕ = (2 ^ length (map f o.s) - number_of (map f o.s) - 1) * length (map f o.a) in
        let below : ℕ → ℕ → Type 0 = λ k l. Below (slice_index_or ((replicate (k * l) S0 ++ map seen_of (map f o.a)) ++ replicate more S0) at X) (f (slice_index_or (filled (n * length o.a) S0 ++ o.a) at (Fixed S0))) in
        subst (λ z. Below (slice_index_or z at X) (f (slice_index_or (filled (n * length o.a) S0 ++ o.a) at (Fixed S0)))) (sym (all_parts (map f o.s) known (map f o.a)))
        (subst (λ k. below k (length (map f o.a))) (sym number)
        (subst (below n) (sym (length-map o.a f)) (over_zeros (n * length o.a) more o.a at))))
    known_place_says kind m change e = absurd (cc)
