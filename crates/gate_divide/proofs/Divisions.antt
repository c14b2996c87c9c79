-- Divisions of plain numbers, by the numbers that words are.
use Rattle.std.proofs.Common.{◌≡◌, ◌<◌, ◌≤◌, ℕ, zero, suc, ◌+◌, ◌-◌, ◌*◌, ◌/◌, ◌%◌, ◌^◌, Bool, true, false, List, [], ◌∷◌, ◌++◌, length, take, refl, sym, ◌∙◌, ap, subst, arith}
use Rattle.std.specs.Prelude.{◌==◌, replicate}
use Rattle.std.proofs.Math.Nat.{zero-div, zero-mod}
use Rattle.std.proofs.lemmas.Bool.Decides.{nat_tests}
use Rattle.std.proofs.lemmas.Nat.{mod_below}
use Rattle.rtl_bits.specs.Numbers.{number_of}
use Rattle.rtl_bits.specs.declared.bit.Bit.TheVariants.{S0, S1, X}
use Rattle.rtl_sig.specs.declared.sig.SigBit.{SigBit}
use Rattle.rtl_sig.specs.declared.sig.SigBit.TheVariants.{Fixed}
use Rattle.gate_nets.proofs.Adding.{low_of}
use Rattle.gate_nets.proofs.Nets.{Logic, Net, net_pure, net_then}
use Rattle.gate_divide.proofs.Numbers.{Digit, Word, carry, choice, cons, digit_as, digit_small, fixed_one, head, inverse, join, low, no_bits, parts, picked, sum, tail, word_as, word_small, zeros}
use Rattle.gate_divide.proofs.Quotients.{taken, with_digit}
use Rattle.gate_divide.proofs.Signals.{Reads, ReadsDigit, net_choice, net_given, net_inverses, net_sums, reads_as, reads_cons, reads_digit_as, reads_head, reads_join, reads_low, reads_one, reads_tail, reads_zeros}
use Rattle.gate_divide.specs.Division.{digit_of, divided_of, less_of}
use Rattle.gate_divide.specs.declared.division.Division.{Division}

-- the sum that takes the divisor off
abbrev pub taken_sum : ℕ → ℕ → ℕ → ℕ
taken_sum n y w = w + (2 ^ suc n - 1 - (y + 2 ^ n * 0)) + 1

pub double : (n : ℕ) → 2 ^ suc n ≡ 2 * 2 ^ n
double n = omega arith

pub digit_number : (n y w : ℕ) → 0 < y → y < 2 ^ n → w < 2 * y → taken_sum n y w / 2 ^ suc n ≡ w / y
digit_number n y w some small h =
    subst (λ t. (w + (t - 1 - (y + 2 ^ n * 0)) + 1) / t ≡ w / y) (sym (double n)) (taken (2 ^ n) y w some small h).digit

pub rest_number : (n y w : ℕ) → 0 < y → y < 2 ^ n → w < 2 * y → picked (taken_sum n y w / 2 ^ suc n) w (taken_sum n y w % 2 ^ suc n) % 2 ^ n ≡ w % y
rest_number n y w some small h =
    subst (λ t. picked ((w + (t - 1 - (y + 2 ^ n * 0)) + 1) / t) w ((w + (t - 1 - (y + 2 ^ n * 0)) + 1) % t) % 2 ^ n ≡ w % y) (sym (double n)) (taken (2 ^ n) y w some small h).rest

pub wide_below : (d r y : ℕ) → d ≤ 1 → r < y → d + 2 * r < 2 * y
wide_below d r y h k = omega arith

module _ (K : Type 0) (n y : ℕ) (divisor : Word K n y) (some : K → 0 < y) where
  pub one_above : suc n ≡ n + 1
  one_above = omega arith

  unfoldable pub above_divisor : Word K (suc n) (y + 2 ^ n * 0)
  above_divisor = join K n 1 (suc n) y 0 one_above divisor (zeros K 1)

  module _ (d r : ℕ) (x : Digit K d) (rest : Word K n r) where
    unfoldable pub wide : Word K (suc n) (d + 2 * r)
    wide = cons K n d r x rest

    unfoldable pub less_word : Word K (suc n) (taken_sum n y (d + 2 * r) % 2 ^ suc n)
    less_word = sum K (suc n) _ _ 1 wide (inverse K (suc n) _ above_divisor) (fixed_one K)

    unfoldable pub less_carry : Digit K (taken_sum n y (d + 2 * r) / 2 ^ suc n)
    less_carry = carry K (suc n) _ _ 1 wide (inverse K (suc n) _ above_divisor) (fixed_one K)

    unfoldable pub digit_word : (K → r < y) → Digit K ((d + 2 * r) / y)
    digit_word below =
        digit_as K _ _ (λ k. digit_number n y (d + 2 * r) (some k) (word_small K n y divisor k) (wide_below d r y (digit_small K d x k) (below k))) less_carry

    unfoldable pub rest_word : (K → r < y) → Word K n ((d + 2 * r) % y)
    rest_word below =
        word_as K n _ _ (λ k. rest_number n y (d + 2 * r) (some k) (word_small K n y divisor k) (wide_below d r y (digit_small K d x k) (below k)))
        (low K n 1 (suc n) _ one_above (choice K (suc n) _ _ _ wide less_word less_carry))

  -- a quotient and what is left
  pub record Divided (k x : ℕ) : Type 0 where
    pub quotient : Word K k (x / y)
    pub rest : Word K n (x % y)

  pub none_divided : (x : ℕ) → x ≡ 0 → (x ≡ x / y) × (0 ≡ x % y)
  none_divided x e = (e ∙ sym (zero-div y) ∙ ap (λ z. z / y) (sym e), sym (zero-mod y) ∙ ap (λ z. z % y) (sym e))

  unfoldable pub divided_word : (k x : ℕ) → Word K k x → Divided k x
  divided_word zero x w = record {
    quotient = word_as K zero x _ (λ h. (none_divided x (no_bits K x w h)).0) w;
    rest = word_as K n 0 _ (λ h. (none_divided x (no_bits K x w h)).1) (zeros K n);
  }
  divided_word (suc k) x w =
      let r : ℕ = number_of (low_of (λ at. w.value (suc at)) k) in
      let upper : Divided k r = divided_word k r (tail K k x w) in
      let below : K → r % y < y = λ h. mod_below r y (some h) in
      record {
        quotient =
            word_as K (suc k) _ _ (λ h. (with_digit y x _ r (some h) (parts K k x w h)).0) (cons K k _ _ (digit_word _ (r % y) (head K k x w) upper.rest below) upper.quotient);
        rest = word_as K n _ _ (λ h. (with_digit y x _ r (some h) (parts K k x w h)).1) (rest_word _ (r % y) (head K k x w) upper.rest below);
      }

  module _ (l : Logic) where
    pub record ReadsDivided (k x : ℕ) (w : Divided k x) (division : Division) : Type 0 where
      pub quotient : Reads l K k _ w.quotient division.quotient
      pub rest : Reads l K n _ w.rest division.rest

    net_less : (d r : ℕ) (x : Digit K d) (rest : Word K n r) (bits ys : List SigBit) {R : Type 0} → (R → Reads l K (suc n) _ (wide d r x rest) bits) → (R → Reads l K n y divisor ys)
        → Net l R (less_of bits ys) (λ total. Reads l K (suc n) _ (less_word d r x rest) total.bits × ReadsDigit l K _ (less_carry d r x rest) total.carry)
    unfolding less_of less_word less_carry above_divisor
    net_less d r x rest bits ys h g =
        net_then l (net_inverses l K (suc n) _ above_divisor (ys ++ Fixed S0 ∷ []) (λ q. reads_join l K n 1 (suc n) y 0 one_above divisor (zeros K 1) ys (Fixed S0 ∷ []) (g q) (reads_zeros l K 1))) λ inverse.
        net_given l (net_sums l K (suc n) _ _ 1 (wide d r x rest) _ (fixed_one K) bits inverse (Fixed S1) (λ q. h q.0) (λ q. q.1) (λ q. reads_one l K))
        (λ q total w. (w.bits, w.carry))

    net_digit : (d r : ℕ) (x : Digit K d) (rest : Word K n r) (below : K → r < y) (bit : SigBit) (bits ys : List SigBit) {R : Type 0}
        → (R → ReadsDigit l K d x bit) → (R → Reads l K n r rest bits) → (R → Reads l K n y divisor ys)
        → Net l R (digit_of bit bits ys) (λ digit. ReadsDigit l K _ (digit_word d r x rest below) digit.0 × Reads l K n _ (rest_word d r x rest below) digit.1)
    unfolding digit_of digit_word rest_word wide
    net_digit d r x rest below bit bits ys g h f =
        net_then l (net_less d r x rest (bit ∷ bits) ys (λ q. reads_cons l K n d r x rest bit bits (g q) (h q)) f) λ total.
        net_then l (net_choice l K (suc n) _ _ _ (wide d r x rest) (less_word d r x rest) (less_carry d r x rest) (bit ∷ bits) total.bits total.carry (λ q. reads_cons l K n d r x rest bit bits (g q.0) (h q.0)) (λ q. q.1.0) (λ q. q.1.1)) λ chosen.
        net_pure l
        (λ q. (
          reads_digit_as l K _ _ _ _ _ q.0.1.1,
          subst (λ z. Reads l K n ((d + 2 * r) % y) (rest_word d r x rest below) (take z chosen)) (sym (f q.0.0).width) (reads_as l K n _ _ _ _ _ (reads_low l K n 1 (suc n) _ one_above _ chosen q.1)),
        ))

    pub net_exact : (xs : List SigBit) (k x : ℕ) (w : Word K k x) (ys : List SigBit) {R : Type 0} → length xs ≡ k → (R → Reads l K k x w xs) → (R → Reads l K n y divisor ys)
        → Net l R (divided_of xs ys) (ReadsDivided k x (divided_word k x w))
    unfolding divided_word
    net_exact [] zero x w ys e h g =
        net_pure l
        (λ q. record {
          quotient = reads_as l K zero _ _ _ w [] (h q);
          rest = reads_as l K n _ _ _ (zeros K n) _ (subst (λ z. Reads l K n 0 (zeros K n) (replicate z (Fixed S0))) (sym (g q).width) (reads_zeros l K n));
        })
    net_exact [] (suc k) x w ys e h g = absurd (omega (arith, e))
    net_exact (b ∷ xs) zero x w ys e h g = absurd (omega (arith, e))
    net_exact (b ∷ xs) (suc k) x w ys e h g =
        let r : ℕ = number_of (low_of (λ at. w.value (suc at)) k) in
        let upper : Divided k r = divided_word k r (tail K k x w) in
        let below : K → r % y < y = λ h. mod_below r y (some h) in
        net_then l (net_exact xs k r (tail K k x w) ys (omega (arith, e)) (λ q. reads_tail l K k x w b xs (h q)) g) λ above.
        net_then l (net_digit _ (r % y) (head K k x w) upper.rest below b above.rest ys (λ q. reads_head l K k x w b xs (h q.0)) (λ q. q.1.rest) (λ q. g q.0)) λ digit.
        net_pure l
        (λ q. record {
          quotient = reads_as l K (suc k) _ _ _ _ _ (reads_cons l K k _ _ _ _ digit.0 above.quotient q.1.0 q.0.1.quotient);
          rest = reads_as l K n _ _ _ _ digit.1 q.1.1;
        })

-- a word of which nothing is said
no_word : (n m : ℕ) → Word ⊥ n m
no_word n m = record { value = λ at. X; known = λ k. absurd k; is = λ k. absurd k }

-- the same of a dividend whose length is only known with what is said of it
module _ (K : Type 0) (n y : ℕ) (divisor : Word K n y) (some : K → 0 < y) (l : Logic) where
  pub net_divided : (xs : List SigBit) (k x : ℕ) (w : Word K k x) (ys : List SigBit) {R : Type 0} → (R → Reads l K k x w xs) → (R → Reads l K n y divisor ys)
      → Net l R (divided_of xs ys) (ReadsDivided K n y divisor some l k x (divided_word K n y divisor some k x w))
  net_divided xs k x w ys {R = R} h g = by (length xs == k) refl
    where
      by : (t : Bool) → (length xs == k) ≡ t → Net l R (divided_of xs ys) (ReadsDivided K n y divisor some l k x (divided_word K n y divisor some k x w))
      by true e = net_exact K n y divisor some l xs k x w ys (grind (arith, nat_tests)) h g
      by false e =
          let other : Net l ⊥ (divided_of xs ys) (ReadsDivided ⊥ n 0 (no_word n 0) (λ q. absurd q) l (length xs) 0 (divided_word ⊥ n 0 (no_word n 0) (λ q. absurd q) (length xs) 0 (no_word (length xs) 0))) = net_exact ⊥ n 0 (no_word n 0) (λ q. absurd q) l xs (length xs) 0 (no_word (length xs) 0) ys refl (λ q. absurd q) (λ q. absurd q) in
          let far : length xs ≡ k → ⊥ = grind (arith, nat_tests) in
          record { gates = other.gates; is = other.is; unnamed = other.unnamed; holds = λ b r o. absurd (far (h r).width) }
