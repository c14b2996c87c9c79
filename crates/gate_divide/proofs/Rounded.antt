-- Quotients and remainders of integers, by the numbers that words are.
use Rattle.std.proofs.Common.{◌≡◌, ◌<◌, ◌≤◌, ℕ, zero, suc, ◌+◌, ◌-◌, ◌*◌, ◌/◌, ◌%◌, ◌^◌, Bool, true, false, not, refl, sym, ◌∙◌, ap, subst, arith, ℤ, pos, negsuc, neg_ℤ, ◌+ℤ◌, ◌-ℤ◌}
use mathlib.Core.Bool.{beq}
use Rattle.std.specs.Prelude.{◌==◌, ◌&&◌, if◌then◌else◌, int_div, int_rem}
use Rattle.std.proofs.Math.Nat.{div-add-mod, div-le_self, mod-eq_of_lt, mod-le, mod_self}
use Rattle.std.proofs.lemmas.Int.{ints}
use Rattle.std.proofs.lemmas.Nat.{pow_pos}
use Rattle.std.proofs.lemmas.Bool.Decides.{nat_tests}
use Rattle.cell_word.proofs.Signs.{quotient_of_signs, remainder_of_signs, rounds_up_by_signs}
use Rattle.cell_word.specs.Arithmetic.{floor_div, floor_rem, rounds_up}
use Rattle.cell_word.specs.Sizes.{signed_of}
use Rattle.gate_nets.proofs.Residues.{Residue, residue_less, residue_negative, residue_number, residue_sum}
use Rattle.gate_divide.proofs.Numbers.{picked, some_of, some_pos}

-- the number of the two's complement
abbrev pub negative : ℕ → ℕ → ℕ
negative n m = (0 + (2 ^ n - 1 - m) + 1) % 2 ^ n

pub residue_rest : (n m : ℕ) (z : ℤ) → Residue n m z → Residue n (m % 2 ^ n) z
residue_rest n m z h = residue_less n m (m % 2 ^ n) (m / 2 ^ n) z (omega (arith, div-add-mod m (2 ^ n))) h

-- a number or its two's complement stands for an integer or its negative
pub residue_where : (n m d : ℕ) (z : ℤ) → m < 2 ^ n → d ≤ 1 → Residue n m z → Residue n (picked d m (negative n m)) (picked d z (neg_ℤ z))
residue_where n m zero z h k r = r
residue_where n m (suc zero) z h k r =
    let e : (2 ^ n - 1 - m) + 1 ≡ 0 + (2 ^ n - 1 - m) + 1 = omega arith in
    residue_rest n _ (neg_ℤ z) (subst (λ t. Residue n t (neg_ℤ z)) e (residue_negative n m (2 ^ n - 1 - m) z (omega arith) r))
residue_where n m (suc (suc d)) z h k r = absurd (omega arith)

-- the digit of a sign
abbrev pub sign_digit : Bool → ℕ
sign_digit true = 1
sign_digit false = 0

-- a number of a width stands for an integer in two's complement
pub record IsTwos (n m : ℕ) (z : ℤ) : Type 0 where
  pub is : pos m ≡ z +ℤ pos ((2 * m) / 2 ^ n * 2 ^ n)
  pub small : m < 2 ^ n

-- which has a sign and a size
pub record HasSize (n m : ℕ) (z : ℤ) : Type 0 where
  pub sign : Bool
  pub size : ℕ
  pub digit : (2 * m) / 2 ^ n ≡ sign_digit sign
  pub whole : signed_of sign size ≡ z
  pub magnitude : picked ((2 * m) / 2 ^ n) m (negative n m) ≡ size
  pub proper : sign ≡ true → 0 < size
  pub fits : size < 2 ^ n

pub has_size : (n m : ℕ) (z : ℤ) → IsTwos n m z → HasSize n m z
has_size n m z h = by ((2 * m) / 2 ^ n) refl
  where
    by : (s : ℕ) → (2 * m) / 2 ^ n ≡ s → HasSize n m z
    by zero e = record {
      sign = false;
      size = m;
      digit = e;
      whole = let f : pos m ≡ z +ℤ pos (0 * 2 ^ n) = h.is ∙ ap (λ t. z +ℤ pos (t * 2 ^ n)) e in omega (arith, ints, f);
      magnitude = ap (λ t. picked t m (negative n m)) e;
      proper = λ t. absurd (cc);
      fits = h.small;
    }
    by (suc zero) e =
        let f : pos m ≡ z +ℤ pos (1 * 2 ^ n) = h.is ∙ ap (λ t. z +ℤ pos (t * 2 ^ n)) e in
        let g : 2 ^ n * 1 + (2 * m) % 2 ^ n ≡ 2 * m = ap (λ t. 2 ^ n * t + (2 * m) % 2 ^ n) (sym e) ∙ div-add-mod (2 * m) (2 ^ n) in
        let small : m < 2 ^ n = h.small in
        record {
          sign = true;
          size = 2 ^ n - m;
          digit = e;
          whole = omega (arith, ints, f, small);
          magnitude = ap (λ t. picked t m (negative n m)) e ∙ mod-eq_of_lt (omega (arith, g, small)) ∙ omega (arith, small);
          proper = λ t. omega (arith, small);
          fits = omega (arith, g, small);
        }
    by (suc (suc s)) e =
        let g : 2 ^ n * suc (suc s) + (2 * m) % 2 ^ n ≡ 2 * m = ap (λ t. 2 ^ n * t + (2 * m) % 2 ^ n) (sym e) ∙ div-add-mod (2 * m) (2 ^ n) in
        let t : 2 ^ n * suc (suc s) ≡ 2 ^ n * s + 2 ^ n + 2 ^ n = grind arith in
        absurd (omega (arith, g, t, h.small))

-- whether signs differ, as a digit
pub xor_sign : (m k : Bool) → (sign_digit m + sign_digit k) % 2 ≡ sign_digit (not (beq m k))
xor_sign true true = refl
xor_sign true false = refl
xor_sign false true = refl
xor_sign false false = refl

picked_sign : (t : Bool) (q : ℕ) → picked (sign_digit t) (pos q) (neg_ℤ (pos q)) ≡ signed_of t q
picked_sign true q = refl
picked_sign false q = refl

sign_small : (t : Bool) → sign_digit t ≤ 1
sign_small true = omega arith
sign_small false = omega arith

-- a number by a sign stands for the integer of the sign and size
signed_is : (n q : ℕ) (t : Bool) → q < 2 ^ n → Residue n (picked (sign_digit t) q (negative n q)) (signed_of t q)
signed_is n q t h =
    subst (Residue n (picked (sign_digit t) q (negative n q))) (picked_sign t q) (residue_where n q (sign_digit t) (pos q) h (sign_small t) (residue_number n q))

-- a number and its two's complement are 0 together
some_where : (n r d : ℕ) → r < 2 ^ n → d ≤ 1 → some_of (picked d r (negative n r)) ≡ some_of r
some_where n r zero h k = refl
some_where n zero (suc zero) h k =
    let e : 0 + (2 ^ n - 1 - 0) + 1 ≡ 2 ^ n = omega arith in ap (λ t. some_of (t % 2 ^ n)) e ∙ ap some_of (mod_self (2 ^ n))
some_where n (suc r) (suc zero) h k =
    let small : 0 + (2 ^ n - 1 - suc r) + 1 < 2 ^ n = omega arith in
    ap some_of (mod-eq_of_lt small) ∙ some_pos (0 + (2 ^ n - 1 - suc r) + 1) (omega arith)
some_where n r (suc (suc d)) h k = absurd (omega arith)

-- whether the quotient is to be lowered, as a digit
rounds_digit : (r : ℕ) (m k : Bool) → picked (some_of r) 0 (sign_digit (not (beq m k))) ≡ sign_digit (not (r == 0) && not (beq m k))
rounds_digit zero m k = refl
rounds_digit (suc r) m k = let e : (suc r == 0) ≡ false = grind (arith, nat_tests) in sym (ap (λ t. sign_digit (not t && not (beq m k))) e)

lowered_is : (n q : ℕ) (t : Bool) (z : ℤ) → Residue n q z → Residue n (picked (sign_digit t) q ((q + (2 ^ n - 1) + 0) % 2 ^ n)) (if t then z -ℤ pos 1 else z)
lowered_is n q false z h = h
lowered_is n q true z h =
    let one : Residue n (2 ^ n - 1) (negsuc 0) = record { above = 0; below = 1; is = omega (arith, ints, pow_pos n) } in
    let e : q + (2 ^ n - 1) ≡ q + (2 ^ n - 1) + 0 = omega arith in
    let f : z +ℤ negsuc 0 ≡ z -ℤ pos 1 = omega (arith, ints) in
    residue_rest n _ (z -ℤ pos 1) (subst (λ t. Residue n t (z -ℤ pos 1)) e (subst (Residue n (q + (2 ^ n - 1))) f (residue_sum n q (2 ^ n - 1) z (negsuc 0) h one)))

raised_is : (n q b : ℕ) (t : Bool) (z y : ℤ) → Residue n q z → Residue n b y → Residue n (picked (sign_digit t) q ((q + b + 0) % 2 ^ n)) (if t then z +ℤ y else z)
raised_is n q b false z y h k = h
raised_is n q b true z y h k =
    let e : q + b ≡ q + b + 0 = omega arith in
    residue_rest n _ (z +ℤ y) (subst (λ t. Residue n t (z +ℤ y)) e (residue_sum n q b z y h k))

pub residue_twos : (n m : ℕ) (z : ℤ) → IsTwos n m z → Residue n m z
residue_twos n m z h = record { above = 0; below = (2 * m) / 2 ^ n; is = omega (arith, ints, h.is) }

-- the quotients and remainders of integers by sign and size
module _ (n p s : ℕ) (m k : Bool) (some : 0 < s) (fits : p < 2 ^ n) (j : m ≡ true → 0 < p) (i : k ≡ true → 0 < s) where
  abbrev differ : ℕ
  differ = (sign_digit m + sign_digit k) % 2

  abbrev left : ℕ
  left = picked (sign_digit m) (p % s) (negative n (p % s))

  abbrev lowers : ℕ
  lowers = picked (some_of left) 0 differ

  pub truncated_is : Residue n (picked differ (p / s) (negative n (p / s))) (int_div (signed_of m p) (signed_of k s))
  truncated_is =
      subst (λ t. Residue n (picked t (p / s) (negative n (p / s))) (int_div (signed_of m p) (signed_of k s))) (sym (xor_sign m k))
      (subst (Residue n (picked (sign_digit (not (beq m k))) (p / s) (negative n (p / s)))) (quotient_of_signs m k p s some) (signed_is n (p / s) (not (beq m k)) (omega (arith, fits, div-le_self p s))))

  pub remainder_is : Residue n left (int_rem (signed_of m p) (signed_of k s))
  remainder_is =
      subst (Residue n left) (remainder_of_signs m k p s some) (signed_is n (p % s) m (omega (arith, fits, mod-le p s)))

  rounds_is : lowers ≡ sign_digit (rounds_up (signed_of m p) (signed_of k s))
  rounds_is =
      ap (λ t. picked t 0 differ) (some_where n (p % s) (sign_digit m) (omega (arith, fits, mod-le p s)) (sign_small m))
      ∙ ap (λ t. picked (some_of (p % s)) 0 t) (xor_sign m k)
      ∙ rounds_digit (p % s) m k
      ∙ ap sign_digit (sym (rounds_up_by_signs (record { negative = m; size = p }) (record { negative = k; size = s }) some j i))

  pub floor_quotient_is : Residue n (picked lowers (picked differ (p / s) (negative n (p / s))) ((picked differ (p / s) (negative n (p / s)) + (2 ^ n - 1) + 0) % 2 ^ n)) (floor_div (signed_of m p) (signed_of k s))
  floor_quotient_is =
      let q : ℕ = picked differ (p / s) (negative n (p / s)) in
      subst (λ t. Residue n (picked t q ((q + (2 ^ n - 1) + 0) % 2 ^ n)) (floor_div (signed_of m p) (signed_of k s))) (sym rounds_is) (lowered_is n q (rounds_up (signed_of m p) (signed_of k s)) _ truncated_is)

  pub floor_remainder_is : (b : ℕ) → Residue n b (signed_of k s) → Residue n (picked lowers left ((left + b + 0) % 2 ^ n)) (floor_rem (signed_of m p) (signed_of k s))
  floor_remainder_is b h =
      subst (λ t. Residue n (picked t left ((left + b + 0) % 2 ^ n)) (floor_rem (signed_of m p) (signed_of k s))) (sym rounds_is)
      (raised_is n left b (rounds_up (signed_of m p) (signed_of k s)) _ (signed_of k s) remainder_is h)
