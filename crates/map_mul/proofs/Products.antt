-- Products of words, by the numbers that they are.
use Rattle.std.proofs.Common.{◌≡◌, ◌<◌, ◌≤◌, ℕ, zero, suc, ◌+◌, ◌*◌, ◌/◌, ◌%◌, ◌^◌, List, [], ◌∷◌, length, take, drop, refl, sym, ◌∙◌, ap, subst, arith}
use Rattle.std.proofs.Math.Nat.{div-add-mod, mod-add-mod, mod-eq_of_lt, mul-le-mul_left}
use Rattle.std.proofs.lemmas.Nat.{mod_below, pow-add, pow_pos}
use Rattle.cell_types.specs.declared.word.BitwiseKind.TheVariants.{And}
use Rattle.rtl_bits.specs.Tables.{and_of}
use Rattle.rtl_bits.specs.declared.bit.Bit.{Bit}
use Rattle.rtl_bits.specs.declared.bit.Bit.TheVariants.{S0}
use Rattle.rtl_sig.specs.declared.sig.SigBit.{SigBit}
use Rattle.rtl_sig.specs.declared.sig.SigBit.TheVariants.{Fixed}
use Rattle.gate_nets.proofs.Nets.{Goods, Logic, Net, net_bitwise, net_pure, net_then}
use Rattle.gate_divide.proofs.Numbers.{Digit, Word, digit_small, fixed_zero, gated, head, high, join, low, no_bits, parts, picked, rest_is, sum, tail, word_as, word_small}
use Rattle.gate_divide.proofs.Signals.{Reads, ReadsDigit, net_given, net_sums, reads_as, reads_head, reads_high, reads_join, reads_low, reads_tail, reads_zero}
use Rattle.map_mul.specs.Product.{added_row, product_from, row_of}

-- a row, of the upper bits of a product so far below p, in the width q above it
row_below : (p q l s : ℕ) → l < p → s < q → l + p * s < p * q
row_below p q l s h k =
    let more : suc s ≤ q = omega arith in
    let t : p * suc s ≡ p * s + p = grind arith in
    omega (arith, mul-le-mul_left p more)

spread : (p q x y : ℕ) → p * (x + q * y) ≡ p * x + p * q * y
spread p q x y = grind arith

share : (p x y : ℕ) → p * (x + y) ≡ p * x + p * y
share p x y = grind arith

turn : (p a : ℕ) → p * a ≡ a * (p * 1)
turn p a = grind arith

nothing : (p a : ℕ) → a * (p * 0) ≡ 0
nothing p a = grind arith

-- a number in its two parts, times another one
in_parts : (p q h : ℕ) → p * (h % q) + p * q * (h / q) ≡ p * h
in_parts p q h =
    let e : h % q + q * (h / q) ≡ h = omega (arith, div-add-mod h q) in
    sym (spread p q (h % q) (h / q)) ∙ ap (λ t. p * t) e

row_sum : (p q m a d : ℕ) → d ≤ 1 → 0 < p → 0 < q → m % p + p * ((m / p + picked d 0 (a % q) + 0) % q) ≡ (m + a * (p * d)) % (p * q)
row_sum p q m a zero small more some =
    let h : ℕ = m / p + 0 + 0 in
    let plain : h ≡ m / p = omega arith in
    let same : p * h ≡ p * (m / p) = ap (λ t. p * t) plain in
    rest_is (p * q) (m % p + p * (h % q)) (h / q) (m + a * (p * 0)) (omega (arith, in_parts p q h, nothing p a, same, div-add-mod m p)) (row_below p q (m % p) (h % q) (mod_below m p more) (mod_below h q some))
row_sum p q m a (suc zero) small more some =
    let h : ℕ = m / p + a % q + 0 in
    let plain : h ≡ m / p + a % q = omega arith in
    let same : p * h ≡ p * (m / p) + p * (a % q) = ap (λ t. p * t) plain ∙ share p (m / p) (a % q) in
    let all : p * (a % q) + p * q * (a / q) ≡ a * (p * 1) = in_parts p q a ∙ turn p a in
    rest_is (p * q) (m % p + p * (h % q)) (h / q + a / q) (m + a * (p * 1)) (omega (arith, in_parts p q h, same, all, share (p * q) (h / q) (a / q), div-add-mod m p)) (row_below p q (m % p) (h % q) (mod_below m p more) (mod_below h q some))
row_sum p q m a (suc (suc d)) small more some = absurd (omega arith)

pub row_number : (i j n m a d : ℕ) → n ≡ i + j → d ≤ 1 → m % 2 ^ i + 2 ^ i * ((m / 2 ^ i + picked d 0 (a % 2 ^ j) + 0) % 2 ^ j) ≡ (m + a * (2 ^ i * d)) % 2 ^ n
row_number i j n m a d e small =
    row_sum (2 ^ i) (2 ^ j) m a d small (pow_pos i) (pow_pos j) ∙ ap (λ z. (m + a * (2 ^ i * d)) % z) (sym (pow-add 2 i j) ∙ ap (λ z. 2 ^ z) (sym e))

-- the same at the next place
next_power : (i : ℕ) → 2 ^ (i + 1) ≡ 2 * 2 ^ i
next_power i =
    let e : i + 1 ≡ suc i = omega arith in
    let f : 2 ^ suc i ≡ 2 * 2 ^ i = omega arith in
    ap (λ t. 2 ^ t) e ∙ f

doubled : (a p r : ℕ) → a * (2 * p * r) ≡ a * (p * (2 * r))
doubled a p r = grind arith

split : (a p d r : ℕ) → a * (p * (d + r)) ≡ a * (p * d) + a * (p * r)
split a p d r = grind arith

-- the product so far with the rows of a bit and those above it
pub rows_number : (i n m a d r z : ℕ) → z ≡ d + 2 * r → ((m + a * (2 ^ i * d)) % 2 ^ n + a * (2 ^ (i + 1) * r)) % 2 ^ n ≡ (m + a * (2 ^ i * z)) % 2 ^ n
rows_number i n m a d r z e =
    let p : ℕ = 2 ^ i in
    let t : a * (2 ^ (i + 1) * r) ≡ a * (p * (2 * r)) = ap (λ y. a * (y * r)) (next_power i) ∙ doubled a p r in
    let s : a * (p * z) ≡ a * (p * d) + a * (p * (2 * r)) = ap (λ y. a * (p * y)) e ∙ split a p d (2 * r) in
    let whole : m + a * (p * d) + a * (2 ^ (i + 1) * r) ≡ m + a * (p * z) = omega (arith, t, s) in
    mod-add-mod (m + a * (p * d)) (2 ^ n) (a * (2 ^ (i + 1) * r)) ∙ ap (λ y. y % 2 ^ n) whole

-- no further rows
pub no_rows : (i n m a z : ℕ) → m < 2 ^ n → z ≡ 0 → m ≡ (m + a * (2 ^ i * z)) % 2 ^ n
no_rows i n m a z h e =
    let none : a * (2 ^ i * z) ≡ 0 = ap (λ y. a * (2 ^ i * y)) e ∙ nothing (2 ^ i) a in
    let same : m + a * (2 ^ i * z) ≡ m = omega (arith, none) in
    sym (ap (λ y. y % 2 ^ n) same ∙ mod-eq_of_lt h)

pub other_way : (i j n : ℕ) → n ≡ i + j → n ≡ j + i
other_way i j n e = omega arith

pub next_place : (i k n : ℕ) → n ≡ i + suc k → n ≡ (i + 1) + k
next_place i k n e = omega arith

module _ (K : Type 0) where
  unfoldable pub row_word : (i j n m a d : ℕ) → n ≡ i + j → Word K n m → Word K n a → Digit K d → Word K n ((m + a * (2 ^ i * d)) % 2 ^ n)
  row_word i j n m a d e so_far x by =
      let f : n ≡ j + i = other_way i j n e in
      word_as K n _ _ (λ k. row_number i j n m a d e (digit_small K d by k))
      (join K i j n _ _ e (low K i j n m e so_far) (sum K j _ _ 0 (high K i j n m e so_far) (gated K j _ d (low K j i n a f x) by) (fixed_zero K)))

  unfoldable pub product_word : (k i n m a z : ℕ) → n ≡ i + k → Word K n m → Word K n a → Word K k z → Word K n ((m + a * (2 ^ i * z)) % 2 ^ n)
  product_word zero i n m a z e so_far x y =
      word_as K n m _ (λ h. no_rows i n m a z (word_small K n m so_far h) (no_bits K z y h)) so_far
  product_word (suc k) i n m a z e so_far x y =
      let f : n ≡ (i + 1) + k = next_place i k n e in
      word_as K n _ _ (λ h. rows_number i n m a _ _ z (parts K k z y h))
      (product_word k (i + 1) n _ a _ f (row_word i (suc k) n m a _ e so_far x (head K k z y)) x (tail K k z y))

module _ (l : Logic) (K : Type 0) where
  net_row : (u : ℕ → Bit) (v : Bit) (bits : List SigBit) (by : SigBit) {R : Type 0} → (R → Goods l u bits) → (R → l.Has v by)
      → Net l R (row_of bits by) (λ ys. Goods l (λ at. and_of (u at) v) ys × (length ys ≡ length bits))
  net_row u v [] by h k = net_pure l (λ r. (tt, refl))
  net_row u v (a ∷ bits) by h k =
      net_then l (net_bitwise l And (u 0) v (λ r. (h r).0) k) λ y.
      net_then l (net_row (λ at. u (suc at)) v bits by (λ r. (h r.0).1) (λ r. k r.0)) λ ys.
      net_pure l (λ r. ((r.0.1, r.1.0), ap suc r.1.1))

  net_gated : (n x d : ℕ) (w : Word K n x) (s : Digit K d) (bits : List SigBit) (by : SigBit) {R : Type 0} → (R → Reads l K n x w bits) → (R → ReadsDigit l K d s by)
      → Net l R (row_of bits by) (Reads l K n _ (gated K n x d w s))
  unfolding gated
  net_gated n x d w s bits by h k =
      net_given l (net_row w.value s.value bits by (λ r. (h r).has) (λ r. (k r).has)) (λ r ys v. record { has = v.0; width = v.1 ∙ (h r).width })

  net_added :
      (i j n m a d : ℕ) (e : n ≡ i + j) (w : Word K n m) (x : Word K n a) (s : Digit K d) (so_far bits : List SigBit) (by : SigBit) {R : Type 0}
      → (R → Reads l K n m w so_far) → (R → Reads l K n a x bits) → (R → ReadsDigit l K d s by)
      → Net l R (added_row so_far bits i by) (Reads l K n _ (row_word K i j n m a d e w x s))
  unfolding added_row row_word
  net_added i j n m a d e w x s so_far bits by h k g =
      let f : n ≡ j + i = other_way i j n e in
      net_then l (net_gated j _ d (low K j i n a f x) s (take (length (drop i so_far)) bits) by (λ r. subst (λ z. Reads l K j _ (low K j i n a f x) (take z bits)) (sym (reads_high l K i j n m e w so_far (h r)).width) (reads_low l K j i n a f x bits (k r))) g) λ row.
      net_then l (net_sums l K j _ _ 0 (high K i j n m e w) (gated K j _ d (low K j i n a f x) s) (fixed_zero K) (drop i so_far) row (Fixed S0) (λ r. reads_high l K i j n m e w so_far (h r.0)) (λ r. r.1) (λ r. reads_zero l K)) λ total.
      net_pure l
      (λ r.
      reads_as l K n _ _ _ _ _
      (reads_join l K i j n _ _ e (low K i j n m e w) _ (take i so_far) total.bits (reads_low l K i j n m e w so_far (h r.0.0)) r.1.bits))

  pub net_product :
      (ys : List SigBit) (k i n m a z : ℕ) (e : n ≡ i + k) (w : Word K n m) (x : Word K n a) (y : Word K k z) (so_far bits : List SigBit) {R : Type 0}
      → length ys ≡ k → (R → Reads l K n m w so_far) → (R → Reads l K n a x bits) → (R → Reads l K k z y ys)
      → Net l R (product_from so_far bits i ys) (Reads l K n _ (product_word K k i n m a z e w x y))
  unfolding product_word
  net_product [] zero i n m a z e w x y so_far bits q h g f = net_pure l (λ r. reads_as l K n _ _ _ w so_far (h r))
  net_product [] (suc k) i n m a z e w x y so_far bits q h g f = absurd (omega (arith, q))
  net_product (by ∷ ys) zero i n m a z e w x y so_far bits q h g f = absurd (omega (arith, q))
  net_product (by ∷ ys) (suc k) i n m a z e w x y so_far bits q h g f =
      let next : n ≡ (i + 1) + k = next_place i k n e in
      net_then l (net_added i (suc k) n m a _ e w x (head K k z y) so_far bits by h g (λ r. reads_head l K k z y by ys (f r))) λ more.
      net_given l (net_product ys k (i + 1) n _ a _ next (row_word K i (suc k) n m a _ e w x (head K k z y)) x (tail K k z y) more bits (omega (arith, q)) (λ r. r.1) (λ r. g r.0) (λ r. reads_tail l K k z y by ys (f r.0)))
      (λ r bits v. reads_as l K n _ _ _ _ bits v)
