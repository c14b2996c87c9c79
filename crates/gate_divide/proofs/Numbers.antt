-- Words that are known under a premise, and the numbers that they then are.
use Rattle.std.proofs.Common.{◌≡◌, ◌<◌, ◌≤◌, ℕ, zero, suc, ◌+◌, ◌-◌, ◌*◌, ◌/◌, ◌%◌, ◌^◌, List, ◌∷◌, refl, sym, ◌∙◌, ap, subst, arith}
use Rattle.std.proofs.Math.Nat.{add-mul-mod_self_left, div-eq_of_lt-le, mod-eq_of_lt}
use Rattle.std.proofs.lemmas.Nat.{pow_pos}
use Rattle.cell_types.specs.declared.word.BitwiseKind.TheVariants.{Or}
use Rattle.rtl_bits.proofs.NumberLemmas.{number_of_small}
use Rattle.rtl_bits.specs.Knowledge.{AreKnown, IsKnown}
use Rattle.rtl_bits.specs.Numbers.{digit_of, number_of}
use Rattle.rtl_bits.specs.Tables.{and_of, mux_of, not_of, or_of, xor_of}
use Rattle.rtl_bits.specs.declared.bit.Bit.{Bit}
use Rattle.rtl_bits.specs.declared.bit.Bit.TheVariants.{S0, S1, X, Z, M, Dash}
use Rattle.gate_nets.proofs.Adding.{inverse_known, inverse_number, low-length, low_of, sums}
use Rattle.gate_nets.proofs.Nets.{carry_at, folded_at, sum_bit}

-- one of two things: the first for 0, else the second
abbrev pub picked : {A : Type 0} → ℕ → A → A → A
picked zero x y = x
picked (suc d) x y = y

-- a bit below further ones
abbrev pub above : Bit → (ℕ → Bit) → ℕ → Bit
above b v zero = b
above b v (suc at) = v at

-- the bits from a place on
abbrev pub shifted : ℕ → (ℕ → Bit) → ℕ → Bit
shifted zero v = v
shifted (suc i) v = shifted i (λ at. v (suc at))

-- bits with others from a place on
abbrev pub joined : ℕ → (ℕ → Bit) → (ℕ → Bit) → ℕ → Bit
joined zero v u = u
joined (suc i) v u = above (v 0) (joined i (λ at. v (suc at)) u)

pub digit_at_most : (b : Bit) → digit_of b ≤ 1
digit_at_most S1 = omega arith
digit_at_most b = omega arith

pub low_small : (v : ℕ → Bit) (n : ℕ) → number_of (low_of v n) < 2 ^ n
low_small v n = subst (λ z. number_of (low_of v n) < 2 ^ z) (low-length v n) (number_of_small (low_of v n))

twice : (p h : ℕ) → 2 * p * h ≡ 2 * (p * h)
twice p h = grind arith

-- a word in two parts
pub low_split : (i j n : ℕ) (v : ℕ → Bit) → n ≡ i + j → number_of (low_of v n) ≡ number_of (low_of v i) + 2 ^ i * number_of (low_of (shifted i v) j)
low_split zero j n v e =
    let f : n ≡ j = omega arith in
    subst (λ k. number_of (low_of v k) ≡ 0 + 1 * number_of (low_of v j)) (sym f) (omega arith)
low_split (suc i) j zero v e = absurd (omega arith)
low_split (suc i) j (suc n) v e =
    let rest = low_split i j n (λ at. v (suc at)) (omega arith) in
    let p : 2 ^ suc i ≡ 2 * 2 ^ i = omega arith in
    let h : ℕ = number_of (low_of (shifted i (λ at. v (suc at))) j) in
    let t : 2 ^ suc i * h ≡ 2 * (2 ^ i * h) = ap (λ z. z * h) p ∙ twice (2 ^ i) h in
    omega arith

pub low_joined : (i j n : ℕ) (v u : ℕ → Bit) → n ≡ i + j → number_of (low_of (joined i v u) n) ≡ number_of (low_of v i) + 2 ^ i * number_of (low_of u j)
low_joined zero j n v u e =
    let f : n ≡ j = omega arith in
    subst (λ k. number_of (low_of u k) ≡ 0 + 1 * number_of (low_of u j)) (sym f) (omega arith)
low_joined (suc i) j zero v u e = absurd (omega arith)
low_joined (suc i) j (suc n) v u e =
    let rest = low_joined i j n (λ at. v (suc at)) u (omega arith) in
    let p : 2 ^ suc i ≡ 2 * 2 ^ i = omega arith in
    let h : ℕ = number_of (low_of u j) in
    let t : 2 ^ suc i * h ≡ 2 * (2 ^ i * h) = ap (λ z. z * h) p ∙ twice (2 ^ i) h in
    omega arith

pub known_low : (i n : ℕ) (v : ℕ → Bit) → i ≤ n → AreKnown (low_of v n) → AreKnown (low_of v i)
known_low zero n v h k = tt
known_low (suc i) zero v h k = absurd (omega arith)
known_low (suc i) (suc n) v h k = (k.0, known_low i n (λ at. v (suc at)) (omega arith) k.1)

pub known_high : (i j n : ℕ) (v : ℕ → Bit) → n ≡ i + j → AreKnown (low_of v n) → AreKnown (low_of (shifted i v) j)
known_high zero j n v e k = let f : n ≡ j = omega arith in subst (λ z. AreKnown (low_of v z)) f k
known_high (suc i) j zero v e k = absurd (omega arith)
known_high (suc i) j (suc n) v e k = known_high i j n (λ at. v (suc at)) (omega arith) k.1

pub known_joined : (i j n : ℕ) (v u : ℕ → Bit) → n ≡ i + j → AreKnown (low_of v i) → AreKnown (low_of u j) → AreKnown (low_of (joined i v u) n)
known_joined zero j n v u e k h = let f : n ≡ j = omega arith in subst (λ z. AreKnown (low_of u z)) (sym f) h
known_joined (suc i) j zero v u e k h = absurd (omega arith)
known_joined (suc i) j (suc n) v u e k h = (k.0, known_joined i j n (λ at. v (suc at)) u (omega arith) k.1 h)

-- what is left of a division, and the quotient
pub rest_is : (p r q z : ℕ) → r + p * q ≡ z → r < p → r ≡ z % p
rest_is p r q z e h = sym (ap (λ y. y % p) (sym e) ∙ add-mul-mod_self_left r p q ∙ mod-eq_of_lt h)

pub quotient_is : (p r q z : ℕ) → r + p * q ≡ z → r < p → q ≡ z / p
quotient_is p r q z e h =
    let t : p * q ≡ q * p = grind arith in
    let u : (q + 1) * p ≡ q * p + p = grind arith in
    sym (div-eq_of_lt-le p (omega arith) (omega arith))

-- known bits, one of which is taken by a known bit
pub seen_low : (n : ℕ) (u v : ℕ → Bit) (s : Bit) → IsKnown s → AreKnown (low_of u n) → AreKnown (low_of v n)
    → low_of (λ at. mux_of (u at) (v at) s) n ≡ picked (digit_of s) (low_of u n) (low_of v n)
seen_low zero u v S0 k h j = refl
seen_low zero u v S1 k h j = refl
seen_low (suc n) u v S0 k h j = one (u 0) (v 0) h.0 (seen_low n (λ i. u (suc i)) (λ i. v (suc i)) S0 k h.1 j.1)
  where
    one : (a b : Bit) {xs ys : List Bit} → IsKnown a → xs ≡ ys → mux_of a b S0 ∷ xs ≡ a ∷ ys
    one S0 b k e = ap (λ z. S0 ∷ z) e
    one S1 b k e = ap (λ z. S1 ∷ z) e
    one X b k e = absurd k
    one Z b k e = absurd k
    one M b k e = absurd k
    one Dash b k e = absurd k
seen_low (suc n) u v S1 k h j = one (u 0) (v 0) j.0 (seen_low n (λ i. u (suc i)) (λ i. v (suc i)) S1 k h.1 j.1)
  where
    one : (a b : Bit) {xs ys : List Bit} → IsKnown b → xs ≡ ys → mux_of a b S1 ∷ xs ≡ b ∷ ys
    one a S0 k e = ap (λ z. S0 ∷ z) e
    one a S1 k e = ap (λ z. S1 ∷ z) e
    one a X k e = absurd k
    one a Z k e = absurd k
    one a M k e = absurd k
    one a Dash k e = absurd k
seen_low n u v X k h j = absurd k
seen_low n u v Z k h j = absurd k
seen_low n u v M k h j = absurd k
seen_low n u v Dash k h j = absurd k

pub picked_known : (d : ℕ) (x y : List Bit) → AreKnown x → AreKnown y → AreKnown (picked d x y)
picked_known zero x y h k = h
picked_known (suc d) x y h k = k

pub picked_number : (d : ℕ) (x y : List Bit) → number_of (picked d x y) ≡ picked d (number_of x) (number_of y)
picked_number zero x y = refl
picked_number (suc d) x y = refl

-- known bits joined with a known bit by AND
pub gated_low : (n : ℕ) (u : ℕ → Bit) (s : Bit) → IsKnown s → AreKnown (low_of u n) → low_of (λ at. and_of (u at) s) n ≡ picked (digit_of s) (low_of (λ at. S0) n) (low_of u n)
gated_low zero u S0 k h = refl
gated_low zero u S1 k h = refl
gated_low (suc n) u S0 k h = one (u 0) h.0 (gated_low n (λ i. u (suc i)) S0 k h.1)
  where
    one : (a : Bit) {xs ys : List Bit} → IsKnown a → xs ≡ ys → and_of a S0 ∷ xs ≡ S0 ∷ ys
    one S0 k e = ap (λ z. S0 ∷ z) e
    one S1 k e = ap (λ z. S0 ∷ z) e
    one X k e = absurd k
    one Z k e = absurd k
    one M k e = absurd k
    one Dash k e = absurd k
gated_low (suc n) u S1 k h = one (u 0) h.0 (gated_low n (λ i. u (suc i)) S1 k h.1)
  where
    one : (a : Bit) {xs ys : List Bit} → IsKnown a → xs ≡ ys → and_of a S1 ∷ xs ≡ a ∷ ys
    one S0 k e = ap (λ z. S0 ∷ z) e
    one S1 k e = ap (λ z. S1 ∷ z) e
    one X k e = absurd k
    one Z k e = absurd k
    one M k e = absurd k
    one Dash k e = absurd k
gated_low n u X k h = absurd k
gated_low n u Z k h = absurd k
gated_low n u M k h = absurd k
gated_low n u Dash k h = absurd k

pub zeros_known : (n : ℕ) → AreKnown (low_of (λ at. S0) n)
zeros_known zero = tt
zeros_known (suc n) = (tt, zeros_known n)

pub zeros_number : (n : ℕ) → number_of (low_of (λ at. S0) n) ≡ 0
zeros_number zero = refl
zeros_number (suc n) = omega (arith, zeros_number n)

-- the top bit of a word
abbrev pub top_at : ℕ → (ℕ → Bit) → Bit
top_at zero v = S0
top_at (suc n) v = v n

pub last_known : (n : ℕ) (v : ℕ → Bit) → AreKnown (low_of v (suc n)) → IsKnown (v n)
last_known zero v k = k.0
last_known (suc n) v k = last_known n (λ at. v (suc at)) k.1

pub last_number : (n : ℕ) (v : ℕ → Bit) → number_of (low_of v (suc n)) ≡ number_of (low_of v n) + 2 ^ n * digit_of (v n)
last_number zero v = omega arith
last_number (suc n) v =
    let p : 2 ^ suc n ≡ 2 * 2 ^ n = omega arith in
    let t : 2 ^ suc n * digit_of (v (suc n)) ≡ 2 * (2 ^ n * digit_of (v (suc n))) = ap (λ z. z * digit_of (v (suc n))) p ∙ twice (2 ^ n) (digit_of (v (suc n))) in
    omega (arith, last_number n (λ at. v (suc at)), t)

pub top_known : (n : ℕ) (v : ℕ → Bit) → AreKnown (low_of v n) → IsKnown (top_at n v)
top_known zero v k = tt
top_known (suc n) v k = last_known n v k

pub top_number : (n : ℕ) (v : ℕ → Bit) → digit_of (top_at n v) ≡ (2 * number_of (low_of v n)) / 2 ^ n
top_number zero v = refl
top_number (suc n) v =
    let p : 2 ^ suc n ≡ 2 * 2 ^ n = omega arith in
    let d : ℕ = digit_of (v n) in
    let t : 2 ^ suc n * d ≡ 2 * (2 ^ n * d) = ap (λ z. z * d) p ∙ twice (2 ^ n) d in
    quotient_is (2 ^ suc n) (2 * number_of (low_of v n)) d (2 * number_of (low_of v (suc n))) (omega (arith, t, last_number n v)) (omega (arith, p, low_small v n))

-- 0 for 0, else 1
abbrev pub some_of : ℕ → ℕ
some_of zero = 0
some_of (suc n) = 1

pub some_pos : (n : ℕ) → 0 < n → some_of n ≡ 1
some_pos zero h = absurd (omega arith)
some_pos (suc n) h = refl

some_none : (n : ℕ) → n ≡ 0 → some_of n ≡ 0
some_none n e = ap some_of e

some_twice : (n : ℕ) → some_of (0 + n) ≡ some_of (0 + (0 + 2 * n))
some_twice zero = refl
some_twice (suc n) = some_pos (0 + suc n) (omega arith) ∙ sym (some_pos (0 + (0 + 2 * suc n)) (omega arith))

-- known bits joined by OR
pub or_digit : (c b : Bit) (n : ℕ) → IsKnown c → IsKnown b → IsKnown (or_of c b) × (some_of (digit_of (or_of c b) + n) ≡ some_of (digit_of c + (digit_of b + 2 * n)))
or_digit S0 S0 n k h = (tt, some_twice n)
or_digit S0 S1 n k h = (tt, some_pos (1 + n) (omega arith) ∙ sym (some_pos (0 + (1 + 2 * n)) (omega arith)))
or_digit S1 S0 n k h = (tt, some_pos (1 + n) (omega arith) ∙ sym (some_pos (1 + (0 + 2 * n)) (omega arith)))
or_digit S1 S1 n k h = (tt, some_pos (1 + n) (omega arith) ∙ sym (some_pos (1 + (1 + 2 * n)) (omega arith)))
or_digit X b n k h = absurd k
or_digit Z b n k h = absurd k
or_digit M b n k h = absurd k
or_digit Dash b n k h = absurd k
or_digit c X n k h = absurd h
or_digit c Z n k h = absurd h
or_digit c M n k h = absurd h
or_digit c Dash n k h = absurd h

or_none : (c : Bit) → IsKnown c → digit_of c ≡ some_of (digit_of c + 0)
or_none S0 k = refl
or_none S1 k = refl
or_none X k = absurd k
or_none Z k = absurd k
or_none M k = absurd k
or_none Dash k = absurd k

pub or_folded : (n : ℕ) (c : Bit) (u : ℕ → Bit) → IsKnown c → AreKnown (low_of u n) → IsKnown (folded_at Or c u n) × (digit_of (folded_at Or c u n) ≡ some_of (digit_of c + number_of (low_of u n)))
or_folded zero c u k h = (k, or_none c k)
or_folded (suc n) c u k h =
    let here = or_digit c (u 0) (number_of (low_of (λ at. u (suc at)) n)) k h.0 in
    let rest = or_folded n (or_of c (u 0)) (λ at. u (suc at)) here.0 h.1 in
    (rest.0, rest.1 ∙ here.1)

-- the fold of a word by OR
abbrev pub some_at : ℕ → (ℕ → Bit) → Bit
some_at zero v = S0
some_at (suc n) v = folded_at Or (v 0) (λ at. v (suc at)) n

one_more : (d n : ℕ) → d ≤ 1 → some_of (d + n) ≡ some_of (d + 2 * n)
one_more zero zero h = refl
one_more zero (suc n) h = some_pos (0 + suc n) (omega arith) ∙ sym (some_pos (0 + 2 * suc n) (omega arith))
one_more (suc d) n h = some_pos (suc d + n) (omega arith) ∙ sym (some_pos (suc d + 2 * n) (omega arith))

pub some_number : (n : ℕ) (v : ℕ → Bit) → AreKnown (low_of v n) → IsKnown (some_at n v) × (digit_of (some_at n v) ≡ some_of (number_of (low_of v n)))
some_number zero v k = (tt, refl)
some_number (suc n) v k =
    let rest = or_folded n (v 0) (λ at. v (suc at)) k.0 k.1 in
    (rest.0, rest.1 ∙ one_more (digit_of (v 0)) (number_of (low_of (λ at. v (suc at)) n)) (digit_at_most (v 0)))

pub xor_digit : (a b : Bit) → IsKnown a → IsKnown b → IsKnown (xor_of a b) × (digit_of (xor_of a b) ≡ (digit_of a + digit_of b) % 2)
xor_digit S0 S0 k h = (tt, refl)
xor_digit S0 S1 k h = (tt, refl)
xor_digit S1 S0 k h = (tt, refl)
xor_digit S1 S1 k h = (tt, refl)
xor_digit X b k h = absurd k
xor_digit Z b k h = absurd k
xor_digit M b k h = absurd k
xor_digit Dash b k h = absurd k
xor_digit a X k h = absurd h
xor_digit a Z k h = absurd h
xor_digit a M k h = absurd h
xor_digit a Dash k h = absurd h

pub and_digit : (a b : Bit) → IsKnown a → IsKnown b → IsKnown (and_of a b) × (digit_of (and_of a b) ≡ picked (digit_of a) 0 (digit_of b))
and_digit S0 S0 k h = (tt, refl)
and_digit S0 S1 k h = (tt, refl)
and_digit S1 S0 k h = (tt, refl)
and_digit S1 S1 k h = (tt, refl)
and_digit X b k h = absurd k
and_digit Z b k h = absurd k
and_digit M b k h = absurd k
and_digit Dash b k h = absurd k
and_digit a X k h = absurd h
and_digit a Z k h = absurd h
and_digit a M k h = absurd h
and_digit a Dash k h = absurd h

pub ones_number : (n : ℕ) → AreKnown (low_of (λ at. S1) n) × (number_of (low_of (λ at. S1) n) ≡ 2 ^ n - 1)
ones_number zero = (tt, refl)
ones_number (suc n) =
    let rest = ones_number n in
    let p : 2 ^ suc n ≡ 2 * 2 ^ n = omega arith in
    ((tt, rest.0), omega (arith, rest.1, p, pow_pos n))

module _ (K : Type 0) where
  -- a bit that is a digit under the premise
  pub record Digit (d : ℕ) : Type 0 where
    pub value : Bit
    pub known : K → IsKnown value
    pub is : K → digit_of value ≡ d

  -- bits the lowest n of which are a number under the premise
  pub record Word (n m : ℕ) : Type 0 where
    pub value : ℕ → Bit
    pub known : K → AreKnown (low_of value n)
    pub is : K → number_of (low_of value n) ≡ m

  pub digit_small : (d : ℕ) → Digit d → K → d ≤ 1
  digit_small d x k = subst (λ z. z ≤ 1) (x.is k) (digit_at_most x.value)

  pub word_small : (n m : ℕ) → Word n m → K → m < 2 ^ n
  word_small n m w k = subst (λ z. z < 2 ^ n) (w.is k) (low_small w.value n)

  -- no bits are 0
  pub no_bits : (m : ℕ) → Word zero m → K → m ≡ 0
  no_bits m w k = sym (w.is k)

  unfoldable pub fixed_zero : Digit 0
  fixed_zero = record { value = S0; known = λ k. tt; is = λ k. refl }

  unfoldable pub fixed_one : Digit 1
  fixed_one = record { value = S1; known = λ k. tt; is = λ k. refl }

  -- the same by an equal number
  unfoldable pub digit_as : (d e : ℕ) → (K → d ≡ e) → Digit d → Digit e
  digit_as d e h x = record { value = x.value; known = x.known; is = λ k. x.is k ∙ h k }

  unfoldable pub word_as : (n m j : ℕ) → (K → m ≡ j) → Word n m → Word n j
  word_as n m j h w = record { value = w.value; known = w.known; is = λ k. w.is k ∙ h k }

  -- the lowest bit of a word, and those above it
  unfoldable pub head : (n m : ℕ) (w : Word (suc n) m) → Digit (digit_of (w.value 0))
  head n m w = record { value = w.value 0; known = λ k. (w.known k).0; is = λ k. refl }

  unfoldable pub tail : (n m : ℕ) (w : Word (suc n) m) → Word n (number_of (low_of (λ at. w.value (suc at)) n))
  tail n m w = record { value = λ at. w.value (suc at); known = λ k. (w.known k).1; is = λ k. refl }

  pub parts : (n m : ℕ) (w : Word (suc n) m) → K → m ≡ digit_of (w.value 0) + 2 * number_of (low_of (λ at. w.value (suc at)) n)
  parts n m w k = sym (w.is k)

  -- a bit below a word
  unfoldable pub cons : (n d m : ℕ) → Digit d → Word n m → Word (suc n) (d + 2 * m)
  cons n d m x w = record {
    value = above x.value w.value;
    known = λ k. (x.known k, w.known k);
    is = λ k. ap (λ z. z + 2 * number_of (low_of w.value n)) (x.is k) ∙ ap (λ z. d + 2 * z) (w.is k);
  }

  unfoldable pub zeros : (n : ℕ) → Word n 0
  zeros n = record { value = λ at. S0; known = λ k. zeros_known n; is = λ k. zeros_number n }

  -- the lowest bits of a word, and those from a place on
  unfoldable pub low : (i j n m : ℕ) → n ≡ i + j → Word n m → Word i (m % 2 ^ i)
  low i j n m e w = record {
    value = w.value;
    known = λ k. known_low i n w.value (omega (arith, e)) (w.known k);
    is = λ k. rest_is (2 ^ i) _ (number_of (low_of (shifted i w.value) j)) m (sym (low_split i j n w.value e) ∙ w.is k) (low_small w.value i);
  }

  unfoldable pub high : (i j n m : ℕ) → n ≡ i + j → Word n m → Word j (m / 2 ^ i)
  high i j n m e w = record {
    value = shifted i w.value;
    known = λ k. known_high i j n w.value e (w.known k);
    is = λ k. quotient_is (2 ^ i) (number_of (low_of w.value i)) _ m (sym (low_split i j n w.value e) ∙ w.is k) (low_small w.value i);
  }

  -- a word with another one on top of it
  unfoldable pub join : (i j n m h : ℕ) → n ≡ i + j → Word i m → Word j h → Word n (m + 2 ^ i * h)
  join i j n m h e w x = record {
    value = joined i w.value x.value;
    known = λ k. known_joined i j n w.value x.value e (w.known k) (x.known k);
    is = λ k. low_joined i j n w.value x.value e ∙ ap (λ z. z + 2 ^ i * number_of (low_of x.value j)) (w.is k) ∙ ap (λ z. m + 2 ^ i * z) (x.is k);
  }

  -- the sum of two words and a digit, and its last carry
  pub sum_is : (n x y c : ℕ) (u : Word n x) (v : Word n y) (d : Digit c) → K
      → number_of (low_of (λ at. sum_bit (u.value at) (v.value at) (carry_at u.value v.value d.value at)) n) + 2 ^ n * digit_of (carry_at u.value v.value d.value n) ≡ x + y + c
  sum_is n x y c u v d k =
      (sums n u.value v.value d.value (u.known k) (v.known k) (d.known k)).adds
      ∙ ap (λ z. z + number_of (low_of v.value n) + digit_of d.value) (u.is k)
      ∙ ap (λ z. x + z + digit_of d.value) (v.is k)
      ∙ ap (λ z. x + y + z) (d.is k)

  unfoldable pub sum : (n x y c : ℕ) → Word n x → Word n y → Digit c → Word n ((x + y + c) % 2 ^ n)
  sum n x y c u v d = record {
    value = λ at. sum_bit (u.value at) (v.value at) (carry_at u.value v.value d.value at);
    known = λ k. (sums n u.value v.value d.value (u.known k) (v.known k) (d.known k)).known;
    is = λ k. rest_is (2 ^ n) _ (digit_of (carry_at u.value v.value d.value n)) (x + y + c) (sum_is n x y c u v d k) (low_small _ n);
  }

  unfoldable pub carry : (n x y c : ℕ) → Word n x → Word n y → Digit c → Digit ((x + y + c) / 2 ^ n)
  carry n x y c u v d = record {
    value = carry_at u.value v.value d.value n;
    known = λ k. (sums n u.value v.value d.value (u.known k) (v.known k) (d.known k)).carry;
    is = λ k.
        quotient_is (2 ^ n) (number_of (low_of (λ at. sum_bit (u.value at) (v.value at) (carry_at u.value v.value d.value at)) n)) _ (x + y + c) (sum_is n x y c u v d k) (low_small _ n);
  }

  -- the bits where a digit is 1, else 0
  unfoldable pub gated : (n x s : ℕ) → Word n x → Digit s → Word n (picked s 0 x)
  gated n x s u d = record {
    value = λ at. and_of (u.value at) d.value;
    known = λ k. subst AreKnown (sym (gated_low n u.value d.value (d.known k) (u.known k))) (picked_known (digit_of d.value) _ _ (zeros_known n) (u.known k));
    is = λ k.
        ap number_of (gated_low n u.value d.value (d.known k) (u.known k))
        ∙ picked_number (digit_of d.value) (low_of (λ at. S0) n) (low_of u.value n)
        ∙ ap (λ z. picked (digit_of d.value) z (number_of (low_of u.value n))) (zeros_number n)
        ∙ ap (λ z. picked (digit_of d.value) 0 z) (u.is k)
        ∙ ap (λ z. picked z 0 x) (d.is k);
  }

  -- the inverse of a word
  unfoldable pub inverse : (n m : ℕ) → Word n m → Word n (2 ^ n - 1 - m)
  inverse n m w = record {
    value = λ at. not_of (w.value at);
    known = λ k. inverse_known n w.value (w.known k);
    is = λ k. let e : number_of (low_of (λ at. not_of (w.value at)) n) + m + 1 ≡ 2 ^ n = subst (λ z. number_of (low_of (λ at. not_of (w.value at)) n) + z + 1 ≡ 2 ^ n) (w.is k) (inverse_number n w.value (w.known k)) in omega arith;
  }

  -- one of two words, by a digit
  unfoldable pub choice : (n x y s : ℕ) → Word n x → Word n y → Digit s → Word n (picked s x y)
  choice n x y s u v d = record {
    value = λ at. mux_of (u.value at) (v.value at) d.value;
    known = λ k. subst AreKnown (sym (seen_low n u.value v.value d.value (d.known k) (u.known k) (v.known k))) (picked_known (digit_of d.value) _ _ (u.known k) (v.known k));
    is = λ k.
        ap number_of (seen_low n u.value v.value d.value (d.known k) (u.known k) (v.known k))
        ∙ picked_number (digit_of d.value) (low_of u.value n) (low_of v.value n)
        ∙ ap (λ z. picked (digit_of d.value) z (number_of (low_of v.value n))) (u.is k)
        ∙ ap (λ z. picked (digit_of d.value) x z) (v.is k)
        ∙ ap (λ z. picked z x y) (d.is k);
  }

  -- the top bit of a word, and whether it is not 0
  unfoldable pub top : (n m : ℕ) → Word n m → Digit ((2 * m) / 2 ^ n)
  top n m w = record {
    value = top_at n w.value;
    known = λ k. top_known n w.value (w.known k);
    is = λ k. top_number n w.value ∙ ap (λ z. (2 * z) / 2 ^ n) (w.is k);
  }

  unfoldable pub some : (n m : ℕ) → Word n m → Digit (some_of m)
  some n m w = record {
    value = some_at n w.value;
    known = λ k. (some_number n w.value (w.known k)).0;
    is = λ k. (some_number n w.value (w.known k)).1 ∙ ap some_of (w.is k);
  }

  -- two digits joined by XOR, and by AND
  unfoldable pub differ : (a b : ℕ) → Digit a → Digit b → Digit ((a + b) % 2)
  differ a b x y = record {
    value = xor_of x.value y.value;
    known = λ k. (xor_digit x.value y.value (x.known k) (y.known k)).0;
    is = λ k.
        (xor_digit x.value y.value (x.known k) (y.known k)).1 ∙ ap (λ z. (z + digit_of y.value) % 2) (x.is k) ∙ ap (λ z. (a + z) % 2) (y.is k);
  }

  unfoldable pub both : (a b : ℕ) → Digit a → Digit b → Digit (picked a 0 b)
  both a b x y = record {
    value = and_of x.value y.value;
    known = λ k. (and_digit x.value y.value (x.known k) (y.known k)).0;
    is = λ k.
        (and_digit x.value y.value (x.known k) (y.known k)).1 ∙ ap (λ z. picked z 0 (digit_of y.value)) (x.is k) ∙ ap (λ z. picked a 0 z) (y.is k);
  }

  unfoldable pub ones : (n : ℕ) → Word n (2 ^ n - 1)
  ones n = record { value = λ at. S1; known = λ k. (ones_number n).0; is = λ k. (ones_number n).1 }
