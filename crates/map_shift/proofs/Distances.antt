-- The numbers of distances in two's complement.
use Rattle.std.proofs.Common.{◌≡◌, ◌<◌, ℕ, zero, suc, ◌+◌, ◌-◌, ◌*◌, ◌^◌, Bool, true, false, List, [], ◌∷◌, length, refl, sym, ◌∙◌, ap, subst, arith, pos, neg_ℤ, ◌-ℤ◌}
use Rattle.std.specs.Prelude.{if◌then◌else◌, slice_index_or}
use Rattle.std.proofs.lemmas.Int.{ints}
use Rattle.std.proofs.Math.Nat.{pow-succ'}
use Rattle.std.proofs.lemmas.Nat.{pow_pos}
use Rattle.cell_word.specs.Integers.{integer_in}
use Rattle.rtl_bits.specs.Knowledge.{AreKnown, IsKnown}
use Rattle.rtl_bits.specs.Numbers.{digit_of, is_one, number_of, top_of}
use Rattle.rtl_bits.specs.Tables.{not_of}
use Rattle.rtl_bits.specs.declared.bit.Bit.{Bit}
use Rattle.rtl_bits.specs.declared.bit.Bit.TheVariants.{S0, S1}
use Rattle.gate_nets.proofs.Adding.{inverse_known, inverse_number, low_of, sums}
use Rattle.gate_nets.proofs.Nets.{carry_at}
use Rattle.map_shift.proofs.Words.{back_at}

-- the bits of a word, place by place
abbrev pub bits_at : List Bit → ℕ → Bit
bits_at bits at = slice_index_or bits at S0

pub low_bits : (bits : List Bit) → low_of (bits_at bits) (length bits) ≡ bits
low_bits [] = refl
low_bits (b ∷ bits) = ap (λ z. b ∷ z) (low_bits bits)

-- the top bit of a word, as a bit at a place
pub top_at : (bits : List Bit) → top_of bits ≡ bits_at bits (length bits - 1)
top_at [] = refl
top_at (b ∷ []) = refl
top_at (b ∷ c ∷ bits) =
    top_at (c ∷ bits) ∙ ap (λ z. bits_at (b ∷ c ∷ bits) z) (let e : suc (length (c ∷ bits) - 1) ≡ length (b ∷ c ∷ bits) - 1 = omega arith in e)

once_more : (p q d n : ℕ) → q ≡ 2 * p → 2 * (n + p * d) ≡ 2 * n + q * d
once_more p q d n e = let f : 2 * (p * d) ≡ 2 * p * d = grind arith in omega (arith, f, ap (λ z. z * d) e)

-- a number by its top digit
number_top : (w : ℕ → Bit) (n : ℕ) → number_of (low_of w (suc n)) ≡ number_of (low_of w n) + 2 ^ n * digit_of (w n)
number_top w zero = omega arith
number_top w (suc n) =
    omega (arith, number_top (λ i. w (suc i)) n, once_more (2 ^ n) (2 ^ suc n) (digit_of (w (suc n))) (number_of (low_of (λ i. w (suc i)) n)) (pow-succ' 2 n))

known_top : (w : ℕ → Bit) (n : ℕ) → AreKnown (low_of w (suc n)) → AreKnown (low_of w n) × IsKnown (w n)
known_top w zero k = (tt, k.0)
known_top w (suc n) k = let rest = known_top (λ i. w (suc i)) n k.1 in ((k.0, rest.0), rest.1)

-- what is known below the top bit
pub lower_known : (w : ℕ → Bit) (n : ℕ) → AreKnown (low_of w n) → AreKnown (low_of w (n - 1))
lower_known w zero k = tt
lower_known w (suc n) k = subst (λ z. AreKnown (low_of w z)) (let e : n ≡ suc n - 1 = omega arith in e) (known_top w n k).0

-- the number below a top bit 0 is the number
pub lower_number : (w : ℕ → Bit) (n : ℕ) → w (n - 1) ≡ S0 → number_of (low_of w (n - 1)) ≡ number_of (low_of w n)
lower_number w zero e = refl
lower_number w (suc n) e =
    let f : suc n - 1 ≡ n = omega arith in
    let d : digit_of (w n) ≡ 0 = ap digit_of (subst (λ z. w z ≡ S0) f e) in
    let t : number_of (low_of w (suc n)) ≡ number_of (low_of w n) + 2 ^ n * 0 = number_top w n ∙ ap (λ z. number_of (low_of w n) + 2 ^ n * z) d in
    ap (λ z. number_of (low_of w z)) f ∙ omega (arith, t)

-- a number with a top bit 1 is not 0
some_number : (w : ℕ → Bit) (n : ℕ) → (n ≡ 0 → w 0 ≡ S0) → w (n - 1) ≡ S1 → 0 < number_of (low_of w n)
some_number w zero none e = absurd (let f : S0 ≡ S1 = sym (none refl) ∙ e in cc)
some_number w (suc n) none e =
    let f : suc n - 1 ≡ n = omega arith in
    let d : digit_of (w n) ≡ 1 = ap digit_of (subst (λ z. w z ≡ S1) f e) in
    let t : number_of (low_of w (suc n)) ≡ number_of (low_of w n) + 2 ^ n * 1 = number_top w n ∙ ap (λ z. number_of (low_of w n) + 2 ^ n * z) d in
    omega (arith, t, pow_pos n)

zeros : (n : ℕ) → number_of (low_of (λ i. S0) n) ≡ 0
zeros zero = refl
zeros (suc n) = omega (arith, zeros n)

zeros_known : (n : ℕ) → AreKnown (low_of (λ i. S0) n)
zeros_known zero = tt
zeros_known (suc n) = (tt, zeros_known n)

no_carry : (p r d s : ℕ) → r + p * d ≡ s → s < p → r ≡ s
no_carry p r zero s e h = omega (arith, e)
no_carry p r (suc d) s e h = let f : p * suc d ≡ p * d + p = grind arith in absurd (omega (arith, e, f, h))

-- the negative of a number that is not 0
pub record IsBack (w : ℕ → Bit) (n : ℕ) : Type 0 where
  pub known : AreKnown (low_of (back_at w) n)
  pub number : number_of (low_of (back_at w) n) + number_of (low_of w n) ≡ 2 ^ n

pub back_is : (w : ℕ → Bit) (n : ℕ) → AreKnown (low_of w n) → (n ≡ 0 → w 0 ≡ S0) → w (n - 1) ≡ S1 → IsBack w n
back_is w n k none e =
    let s = sums n (λ i. S0) (λ i. not_of (w i)) S1 (zeros_known n) (inverse_known n w k) tt in
    let i = inverse_number n w k in
    let some : 0 < number_of (low_of w n) = some_number w n none e in
    let total : number_of (low_of (back_at w) n) + 2 ^ n * digit_of (carry_at (λ i. S0) (λ i. not_of (w i)) S1 n) ≡ number_of (low_of (λ i. not_of (w i)) n) + 1 = omega (arith, s.adds, zeros n) in
    let own : number_of (low_of (back_at w) n) ≡ number_of (low_of (λ i. not_of (w i)) n) + 1 =
    no_carry (2 ^ n) (number_of (low_of (back_at w) n)) (digit_of (carry_at (λ i. S0) (λ i. not_of (w i)) S1 n)) (number_of (low_of (λ i. not_of (w i)) n) + 1) total (omega (arith, i, some)) in
    record { known = s.known; number = omega (arith, own, i) }

-- the integer of a word by its top bit
pub integer_plus : (signed : Bool) (b : List Bit) → bits_at b (length b - 1) ≡ S0 → integer_in signed b ≡ pos (number_of b)
integer_plus false b e = refl
integer_plus true b e =
    ap (λ t. if t then pos (number_of b) -ℤ pos (2 ^ length b) else pos (number_of b)) (ap is_one (top_at b ∙ e))

pub integer_minus : (b : List Bit) (m : ℕ) → bits_at b (length b - 1) ≡ S1 → m + number_of b ≡ 2 ^ length b → integer_in true b ≡ neg_ℤ (pos m)
integer_minus b m e h =
    ap (λ t. if t then pos (number_of b) -ℤ pos (2 ^ length b) else pos (number_of b)) (ap is_one (top_at b ∙ e))
    ∙ (let f : pos (number_of b) -ℤ pos (2 ^ length b) ≡ neg_ℤ (pos m) = omega (arith, ints, h) in f)
