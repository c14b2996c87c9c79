-- Words in two's complement by sign and size, and rounding, by the numbers that words are.
use Rattle.std.proofs.Common.{◌≡◌, ℕ, zero, suc, ◌+◌, ◌-◌, ◌*◌, ◌/◌, ◌%◌, ◌^◌, List, [], ◌∷◌, length, refl, sym, ◌∙◌, ap, subst, arith}
use Rattle.std.specs.Prelude.{replicate, slice_get, unwrap_or}
use Rattle.cell_types.specs.declared.word.BitwiseKind.TheVariants.{And, Or, Xor}
use Rattle.rtl_bits.specs.declared.bit.Bit.{Bit}
use Rattle.rtl_bits.specs.declared.bit.Bit.TheVariants.{S0, S1}
use Rattle.rtl_sig.specs.declared.sig.SigBit.{SigBit}
use Rattle.rtl_sig.specs.declared.sig.SigBit.TheVariants.{Fixed}
use Rattle.gate_nets.specs.Sum.{negative_of}
use Rattle.gate_nets.specs.Words.{fold_of}
use Rattle.gate_nets.proofs.Nets.{Goods, Logic, Net, net_bitwise, net_fold_from, net_pure, net_then}
use Rattle.gate_divide.proofs.Numbers.{Digit, Word, both, choice, differ, fixed_one, fixed_zero, inverse, ones, picked, some, some_at, some_of, sum, top, top_at, zeros}
use Rattle.gate_divide.proofs.Rounded.{negative}
use Rattle.gate_divide.proofs.Signals.{Reads, ReadsDigit, net_choice, net_given, net_inverses, net_sums, reads_one, reads_zero, reads_zeros}
use Rattle.gate_divide.specs.Rounding.{floor_quotient_of, floor_remainder_of, is_rounded_of, lowered_of, lowered_where, remainder_of, signs_differ, truncated_of}
use Rattle.gate_divide.specs.Signs.{magnitude_of, negated_where, top_of}

-- the digit of different signs
abbrev pub differing : ℕ → ℕ → ℕ
differing s t = (s + t) % 2

-- the digit of a sign
abbrev pub sign : ℕ → ℕ → ℕ
sign n m = (2 * m) / 2 ^ n

-- the number of a word or of its two's complement
abbrev pub where_number : ℕ → ℕ → ℕ → ℕ
where_number n m d = picked d m (negative n m)

-- the digit by which the quotient is lowered
abbrev pub rounding : ℕ → ℕ → ℕ
rounding left d = picked (some_of left) 0 d

-- the number less one, or more a further one
abbrev pub lowered_number : ℕ → ℕ → ℕ → ℕ
lowered_number n m d = picked d m ((m + (2 ^ n - 1) + 0) % 2 ^ n)

abbrev pub raised_number : ℕ → ℕ → ℕ → ℕ → ℕ
raised_number n m b d = picked d m ((m + b + 0) % 2 ^ n)

module _ (K : Type 0) (n : ℕ) where
  unfoldable pub negative_word : (m : ℕ) → Word K n m → Word K n (negative n m)
  negative_word m w = sum K n 0 _ 1 (zeros K n) (inverse K n m w) (fixed_one K)

  unfoldable pub where_word : (m d : ℕ) → Word K n m → Digit K d → Word K n (where_number n m d)
  where_word m d w s = choice K n _ _ d w (negative_word m w) s

  unfoldable pub magnitude_word : (m : ℕ) → Word K n m → Word K n (where_number n m (sign n m))
  magnitude_word m w = where_word m _ w (top K n m w)

  unfoldable pub differ_digit : (a b : ℕ) → Word K n a → Word K n b → Digit K (differing (sign n a) (sign n b))
  differ_digit a b x y = differ K _ _ (top K n a x) (top K n b y)

  unfoldable pub rounding_digit : (left d : ℕ) → Word K n left → Digit K d → Digit K (rounding left d)
  rounding_digit left d w s = both K _ d (some K n left w) s

  unfoldable pub lowered_word : (m d : ℕ) → Word K n m → Digit K d → Word K n (lowered_number n m d)
  lowered_word m d w s = choice K n _ _ d w (sum K n _ _ 0 w (ones K n) (fixed_zero K)) s

  unfoldable pub raised_word : (m b d : ℕ) → Word K n m → Word K n b → Digit K d → Word K n (raised_number n m b d)
  raised_word m b d w x s = choice K n _ _ d w (sum K n _ _ 0 w x (fixed_zero K)) s

  module _ (a b q r : ℕ) (x : Word K n a) (y : Word K n b) (u : Word K n q) (v : Word K n r) where
    unfoldable pub left_word : Word K n (where_number n r (sign n a))
    left_word = where_word r _ v (top K n a x)

    unfoldable pub whole_word : Word K n (where_number n q (differing (sign n a) (sign n b)))
    whole_word = where_word q _ u (differ_digit a b x y)

    unfoldable pub rounded_digit : Digit K (rounding (where_number n r (sign n a)) (differing (sign n a) (sign n b)))
    rounded_digit = rounding_digit _ _ left_word (differ_digit a b x y)

module _ (l : Logic) where
  -- the top bit of a signal
  top_has : (n : ℕ) (v : ℕ → Bit) (bits : List SigBit) → length bits ≡ n → Goods l v bits → l.Has (top_at n v) (top_of bits)
  top_has zero v [] e h = l.constant S0
  top_has (suc n) v [] e h = absurd (omega (arith, e))
  top_has zero v (b ∷ bits) e h = absurd (omega (arith, e))
  top_has (suc zero) v (b ∷ []) e h = h.0
  top_has (suc (suc n)) v (b ∷ []) e h = absurd (omega (arith, e))
  top_has (suc zero) v (b ∷ c ∷ bits) e h = absurd (omega (arith, e))
  top_has (suc (suc n)) v (b ∷ c ∷ bits) e h =
      let f : length (c ∷ bits) - 1 ≡ length bits = omega arith in
      let g : length (b ∷ c ∷ bits) - 1 ≡ suc (length bits) = omega arith in
      let rest : l.Has (v (suc n)) (unwrap_or (slice_get (c ∷ bits) (length bits)) (Fixed S0)) = subst (λ z. l.Has (v (suc n)) (unwrap_or (slice_get (c ∷ bits) z) (Fixed S0))) f (top_has (suc n) (λ at. v (suc at)) (c ∷ bits) (omega (arith, e)) h.1) in
      subst (λ z. l.Has (v (suc n)) (unwrap_or (slice_get (b ∷ c ∷ bits) z) (Fixed S0))) (sym g) rest

  goods_ones : (n : ℕ) → Goods l (λ at. S1) (replicate n (Fixed S1))
  goods_ones zero = tt
  goods_ones (suc n) = (l.constant S1, goods_ones n)

  length_ones : (n : ℕ) → length (replicate n (Fixed S1)) ≡ n
  length_ones zero = refl
  length_ones (suc n) = ap suc (length_ones n)

  module _ (K : Type 0) (n : ℕ) where
    reads_ones : (k : ℕ) → k ≡ n → Reads l K n _ (ones K n) (replicate k (Fixed S1))
    unfolding ones
    reads_ones k e = record { has = goods_ones k; width = length_ones k ∙ e }

    reads_top : (m : ℕ) (w : Word K n m) (bits : List SigBit) → Reads l K n m w bits → ReadsDigit l K _ (top K n m w) (top_of bits)
    unfolding top
    reads_top m w bits r = record { has = top_has n w.value bits r.width r.has }

    net_complement : (m : ℕ) (w : Word K n m) (bits : List SigBit) {R : Type 0} → (R → Reads l K n m w bits) → Net l R (negative_of bits) (Reads l K n _ (negative_word K n m w))
    unfolding negative_word
    net_complement m w bits h =
        net_then l (net_inverses l K n m w bits h) λ flipped.
        net_then l (net_sums l K n 0 _ 1 (zeros K n) _ (fixed_one K) (replicate (length bits) (Fixed S0)) flipped (Fixed S1) (λ r. subst (λ z. Reads l K n 0 (zeros K n) (replicate z (Fixed S0))) (sym (h r.0).width) (reads_zeros l K n)) (λ r. r.1) (λ r. reads_one l K)) λ total.
        net_pure l (λ r. r.1.bits)

    pub net_where : (m d : ℕ) (w : Word K n m) (s : Digit K d) (bits : List SigBit) (bit : SigBit) {R : Type 0} → (R → Reads l K n m w bits) → (R → ReadsDigit l K d s bit)
        → Net l R (negated_where bits bit) (Reads l K n _ (where_word K n m d w s))
    unfolding negated_where where_word
    net_where m d w s bits bit h g =
        net_then l (net_complement m w bits h) λ complement.
        net_choice l K n _ _ d w (negative_word K n m w) s bits complement bit (λ r. h r.0) (λ r. r.1) (λ r. g r.0)

    pub net_magnitude : (m : ℕ) (w : Word K n m) (bits : List SigBit) {R : Type 0} → (R → Reads l K n m w bits) → Net l R (magnitude_of bits) (Reads l K n _ (magnitude_word K n m w))
    unfolding magnitude_word
    net_magnitude m w bits h = net_where m _ w (top K n m w) bits (top_of bits) h (λ r. reads_top m w bits (h r))

    net_differ : (a b : ℕ) (x : Word K n a) (y : Word K n b) (xs ys : List SigBit) {R : Type 0} → (R → Reads l K n a x xs) → (R → Reads l K n b y ys)
        → Net l R (signs_differ xs ys) (ReadsDigit l K _ (differ_digit K n a b x y))
    unfolding differ_digit differ
    net_differ a b x y xs ys h g =
        net_given l (net_bitwise l Xor _ _ (λ r. (reads_top a x xs (h r)).has) (λ r. (reads_top b y ys (g r)).has)) (λ r bit v. record { has = v })

    net_some : (m : ℕ) (w : Word K n m) (bits : List SigBit) {R : Type 0} → (R → Reads l K n m w bits) → Net l R (fold_of Or bits) (ReadsDigit l K _ (some K n m w))
    unfolding some
    net_some m w [] h = net_pure l (λ r. record { has = subst (λ z. l.Has (some_at z w.value) (Fixed S0)) (h r).width (l.constant S0) })
    net_some m w (b ∷ bits) h =
        net_given l (net_fold_from l Or (w.value 0) (λ at. w.value (suc at)) b bits (λ r. (h r).has.0) (λ r. (h r).has.1))
        (λ r bit v. record { has = subst (λ z. l.Has (some_at z w.value) bit) (h r).width v })

    net_rounding : (left d : ℕ) (w : Word K n left) (s : Digit K d) (bits : List SigBit) (bit : SigBit) {R : Type 0} → (R → Reads l K n left w bits) → (R → ReadsDigit l K d s bit)
        → Net l R (is_rounded_of bits bit) (ReadsDigit l K _ (rounding_digit K n left d w s))
    unfolding is_rounded_of rounding_digit both
    net_rounding left d w s bits bit h g =
        net_then l (net_some left w bits h) λ any.
        net_given l (net_bitwise l And _ _ (λ r. r.1.has) (λ r. (g r.0).has)) (λ r y v. record { has = v })

    net_lowered : (m d : ℕ) (w : Word K n m) (s : Digit K d) (bits : List SigBit) (bit : SigBit) {R : Type 0} → (R → Reads l K n m w bits) → (R → ReadsDigit l K d s bit)
        → Net l R (lowered_where bits bit) (Reads l K n _ (lowered_word K n m d w s))
    unfolding lowered_where lowered_word
    net_lowered m d w s bits bit h g =
        net_then l (net_sums l K n _ _ 0 w (ones K n) (fixed_zero K) bits (replicate (length bits) (Fixed S1)) (Fixed S0) h (λ r. reads_ones (length bits) (h r).width) (λ r. reads_zero l K)) λ less.
        net_choice l K n _ _ d w _ s bits less.bits bit (λ r. h r.0) (λ r. r.1.bits) (λ r. g r.0)

    -- the quotients and remainders of integers
    module _ (a b q r : ℕ) (x : Word K n a) (y : Word K n b) (u : Word K n q) (v : Word K n r) (xs ys us vs : List SigBit) {R : Type 0}
        (h : R → Reads l K n a x xs) (g : R → Reads l K n b y ys) (f : R → Reads l K n q u us) (e : R → Reads l K n r v vs) where
      pub net_truncated : Net l R (truncated_of xs ys us) (Reads l K n _ (where_word K n q _ u (differ_digit K n a b x y)))
      unfolding truncated_of
      net_truncated =
          net_then l (net_differ a b x y xs ys h g) λ bit.
          net_where q _ u (differ_digit K n a b x y) us bit (λ p. f p.0) (λ p. p.1)

      pub net_remainder : Net l R (remainder_of xs vs) (Reads l K n _ (where_word K n r _ v (top K n a x)))
      unfolding remainder_of
      net_remainder = net_where r _ v (top K n a x) vs (top_of xs) e (λ p. reads_top a x xs (h p))

    module _ (a b q r : ℕ) (x : Word K n a) (y : Word K n b) (u : Word K n q) (v : Word K n r) where
      module _ (xs ys us vs : List SigBit) {R : Type 0}
          (h : R → Reads l K n a x xs) (g : R → Reads l K n b y ys) (f : R → Reads l K n q u us) (e : R → Reads l K n r v vs) where
        pub net_floor_quotient : Net l R (floor_quotient_of xs ys us vs) (Reads l K n _ (lowered_word K n _ _ (whole_word K n a b q r x y u v) (rounded_digit K n a b q r x y u v)))
        unfolding floor_quotient_of lowered_of left_word whole_word rounded_digit
        net_floor_quotient =
            net_then l (net_differ a b x y xs ys h g) λ bit.
            net_then l (net_where q _ u (differ_digit K n a b x y) us bit (λ p. f p.0) (λ p. p.1)) λ whole.
            net_then l (net_remainder a b q r x y u v xs ys us vs (λ p. h p.0.0) (λ p. g p.0.0) (λ p. f p.0.0) (λ p. e p.0.0)) λ left.
            net_then l (net_rounding _ _ (where_word K n r _ v (top K n a x)) (differ_digit K n a b x y) left bit (λ p. p.1) (λ p. p.0.0.1)) λ rounded.
            net_lowered _ _ (where_word K n q _ u (differ_digit K n a b x y)) (rounding_digit K n _ _ (where_word K n r _ v (top K n a x)) (differ_digit K n a b x y)) whole rounded (λ p. p.0.0.1) (λ p. p.1)

        pub net_floor_remainder : Net l R (floor_remainder_of xs ys vs) (Reads l K n _ (raised_word K n _ b _ (left_word K n a b q r x y u v) y (rounded_digit K n a b q r x y u v)))
        unfolding floor_remainder_of left_word rounded_digit raised_word
        net_floor_remainder =
            net_then l (net_differ a b x y xs ys h g) λ bit.
            net_then l (net_remainder a b q r x y u v xs ys us vs (λ p. h p.0) (λ p. g p.0) (λ p. f p.0) (λ p. e p.0)) λ left.
            net_then l (net_rounding _ _ (where_word K n r _ v (top K n a x)) (differ_digit K n a b x y) left bit (λ p. p.1) (λ p. p.0.1)) λ rounded.
            net_then l (net_sums l K n _ _ 0 (where_word K n r _ v (top K n a x)) y (fixed_zero K) left ys (Fixed S0) (λ p. p.0.1) (λ p. g p.0.0.0) (λ p. reads_zero l K)) λ more.
            net_choice l K n _ _ _ (where_word K n r _ v (top K n a x)) _ (rounding_digit K n _ _ (where_word K n r _ v (top K n a x)) (differ_digit K n a b x y)) left more.bits rounded (λ p. p.0.0.1) (λ p. p.1.bits) (λ p. p.0.1)
