-- The bits of a sum are those of the sum of the numbers.
use Rattle.std.proofs.Common.{◌≡◌, ℕ, zero, suc, ◌+◌, ◌*◌, ◌^◌, Bool, true, false, List, [], ◌∷◌, length, refl, sym, ◌∙◌, ap, subst, arith}
use Rattle.std.specs.Prelude.{map}
use Rattle.std.specs.List.{range_with_len}
use Rattle.cell_word.specs.Words.{word_of}
use Rattle.rtl_bits.specs.Knowledge.{AreKnown, IsKnown}
use Rattle.rtl_bits.specs.Numbers.{digit_of, number_of}
use Rattle.rtl_bits.specs.Tables.{not_of}
use Rattle.rtl_bits.specs.declared.bit.Bit.{Bit}
use Rattle.rtl_bits.specs.declared.bit.Bit.TheVariants.{S0, S1, X, Z, M, Dash}
use Rattle.gate_nets.proofs.Nets.{carry_at, carry_bit, sum_bit}

-- the low bits that a function gives
abbrev pub low_of : (ℕ → Bit) → ℕ → List Bit
low_of u zero = []
low_of u (suc n) = u 0 ∷ low_of (λ i. u (suc i)) n

shifted_word : (u : ℕ → Bit) (at n : ℕ) → map u (range_with_len (at + 1) n) ≡ map (λ i. u (suc i)) (range_with_len at n)
shifted_word u at zero = refl
shifted_word u at (suc n) =
    let e : at + 1 ≡ suc at = omega arith in
    ap (λ i. u i ∷ map u (range_with_len (at + 1 + 1) n)) e ∙ ap (λ z. u (suc at) ∷ z) (shifted_word u (at + 1) n)

-- which is the word of a width
pub low_is_word : (u : ℕ → Bit) (n : ℕ) → low_of u n ≡ word_of u n
low_is_word u zero = refl
low_is_word u (suc n) = ap (λ z. u 0 ∷ z) (low_is_word (λ i. u (suc i)) n ∙ sym (shifted_word u 0 n))

-- a known bit, as a truth value
abbrev pub bit : Bool → Bit
bit true = S1
bit false = S0

pub known_bit : (a : Bit) → IsKnown a → (b : Bool) × (a ≡ bit b)
known_bit S0 k = (false, refl)
known_bit S1 k = (true, refl)
known_bit X k = absurd k
known_bit Z k = absurd k
known_bit M k = absurd k
known_bit Dash k = absurd k

-- what an adder makes of known bits
record Digits (a b c : Bit) : Type 0 where
  bit : IsKnown (sum_bit a b c)
  carry : IsKnown (carry_bit a b c)
  adds : digit_of a + digit_of b + digit_of c ≡ digit_of (sum_bit a b c) + 2 * digit_of (carry_bit a b c)

bool_digits : (a b c : Bool) → Digits (bit a) (bit b) (bit c)
bool_digits true true true = record { bit = tt; carry = tt; adds = refl }
bool_digits true true false = record { bit = tt; carry = tt; adds = refl }
bool_digits true false true = record { bit = tt; carry = tt; adds = refl }
bool_digits true false false = record { bit = tt; carry = tt; adds = refl }
bool_digits false true true = record { bit = tt; carry = tt; adds = refl }
bool_digits false true false = record { bit = tt; carry = tt; adds = refl }
bool_digits false false true = record { bit = tt; carry = tt; adds = refl }
bool_digits false false false = record { bit = tt; carry = tt; adds = refl }

digits : (a b c : Bit) → IsKnown a → IsKnown b → IsKnown c → Digits a b c
digits a b c j k l =
    let x = known_bit a j in
    let y = known_bit b k in
    let z = known_bit c l in
    subst (λ d. Digits d b c) (sym x.1) (subst (λ d. Digits (bit x.0) d c) (sym y.1) (subst (λ d. Digits (bit x.0) (bit y.0) d) (sym z.1) (bool_digits x.0 y.0 z.0)))

-- what a sum makes of known words and a known carry
pub record Sums (u v : ℕ → Bit) (c : Bit) (n : ℕ) : Type 0 where
  pub known : AreKnown (low_of (λ at. sum_bit (u at) (v at) (carry_at u v c at)) n)
  pub carry : IsKnown (carry_at u v c n)
  pub adds :
      number_of (low_of (λ at. sum_bit (u at) (v at) (carry_at u v c at)) n) + 2 ^ n * digit_of (carry_at u v c n)
      ≡ number_of (low_of u n) + number_of (low_of v n) + digit_of c

one_more : (p d : ℕ) → 2 * p * d ≡ 2 * (p * d)
one_more p d = grind arith

digit_more : (s r p d a x b y c e k : ℕ) → a + b + c ≡ s + 2 * k → r + p * d ≡ x + y + k → e ≡ 2 * p → (s + 2 * r) + e * d ≡ (a + 2 * x) + (b + 2 * y) + c
digit_more s r p d a x b y c e k h i j =
    let m : e * d ≡ 2 * (p * d) = ap (λ z. z * d) j ∙ one_more p d in
    omega arith

pub sums : (n : ℕ) (u v : ℕ → Bit) (c : Bit) → AreKnown (low_of u n) → AreKnown (low_of v n) → IsKnown c → Sums u v c n
sums zero u v c j k l = record { known = tt; carry = l; adds = omega arith }
sums (suc n) u v c j k l =
    let h = digits (u 0) (v 0) c j.0 k.0 l in
    let rest = sums n (λ i. u (suc i)) (λ i. v (suc i)) (carry_bit (u 0) (v 0) c) j.1 k.1 h.carry in
    let e : 2 ^ suc n ≡ 2 * 2 ^ n = omega arith in
    record {
      known = (h.bit, rest.known);
      carry = rest.carry;
      adds = digit_more (digit_of (sum_bit (u 0) (v 0) c)) _ (2 ^ n) _ (digit_of (u 0)) _ (digit_of (v 0)) _ (digit_of c) _ _ h.adds rest.adds e;
    }

pub low-length : (u : ℕ → Bit) (n : ℕ) → length (low_of u n) ≡ n
low-length u zero = refl
low-length u (suc n) = ap suc (low-length (λ i. u (suc i)) n)

-- a known bit and its inverse are one
pub inverse_digit : (a : Bit) → IsKnown a → digit_of (not_of a) + digit_of a ≡ 1
inverse_digit S0 k = refl
inverse_digit S1 k = refl
inverse_digit X k = absurd k
inverse_digit Z k = absurd k
inverse_digit M k = absurd k
inverse_digit Dash k = absurd k

-- the number of an inverse is what is left to the greatest one
pub inverse_number : (n : ℕ) (u : ℕ → Bit) → AreKnown (low_of u n) → number_of (low_of (λ i. not_of (u i)) n) + number_of (low_of u n) + 1 ≡ 2 ^ n
inverse_number zero u k = refl
inverse_number (suc n) u k =
    let rest = inverse_number n (λ i. u (suc i)) k.1 in
    let e : 2 ^ suc n ≡ 2 * 2 ^ n = omega arith in
    let d : digit_of (not_of (u 0)) + digit_of (u 0) ≡ 1 = inverse_digit (u 0) k.0 in
    omega arith

pub inverse_known : (n : ℕ) (u : ℕ → Bit) → AreKnown (low_of u n) → AreKnown (low_of (λ i. not_of (u i)) n)
inverse_known zero u k = tt
inverse_known (suc n) u k = (one (u 0) k.0, inverse_known n (λ i. u (suc i)) k.1)
  where
    one : (a : Bit) → IsKnown a → IsKnown (not_of a)
    one S0 k = tt
    one S1 k = tt
    one X k = absurd k
    one Z k = absurd k
    one M k = absurd k
    one Dash k = absurd k
