-- Bits that have at least those of a word, and nets of them.
use Rattle.std.proofs.Common.{◌≡◌, refl, ℕ, zero, suc, ◌+◌, List, [], ◌∷◌, ◌++◌, length, take, drop, sym, ◌∙◌, ap, subst, arith, length-append}
use Rattle.std.specs.Prelude.{replicate}
use Rattle.std.proofs.lemmas.List.{length-drop, length-replicate, length-take}
use Rattle.rtl_bits.specs.Tables.{mux_of}
use Rattle.rtl_bits.specs.declared.bit.Bit.{Bit}
use Rattle.rtl_bits.specs.declared.bit.Bit.TheVariants.{S0, S1}
use Rattle.rtl_sig.specs.declared.sig.SigBit.{SigBit}
use Rattle.rtl_sig.specs.declared.sig.SigBit.TheVariants.{Fixed}
use Rattle.rtl_ir.specs.Build.{Build}
use Rattle.gate_nets.specs.Sum.{sum_of}
use Rattle.gate_nets.specs.Words.{inverse_of, select_of}
use Rattle.gate_nets.specs.declared.adder.Total.{Total}
use Rattle.gate_nets.proofs.Nets.{Goods, Logic, Net, carry_at, net_inverse, net_mux, net_pure, net_sum, net_then}
use Rattle.gate_divide.proofs.Numbers.{Digit, Word, carry, choice, cons, digit_as, fixed_one, fixed_zero, head, high, inverse, join, joined, low, shifted, sum, tail, word_as, zeros}

module _ (l : Logic) where
  goods_low : (i : ℕ) (v : ℕ → Bit) (bits : List SigBit) → Goods l v bits → Goods l v (take i bits)
  goods_low zero v [] h = tt
  goods_low zero v (b ∷ bits) h = tt
  goods_low (suc i) v [] h = tt
  goods_low (suc i) v (b ∷ bits) h = (h.0, goods_low i (λ at. v (suc at)) bits h.1)

  goods_high : (i : ℕ) (v : ℕ → Bit) (bits : List SigBit) → Goods l v bits → Goods l (shifted i v) (drop i bits)
  goods_high zero v bits h = h
  goods_high (suc i) v [] h = tt
  goods_high (suc i) v (b ∷ bits) h = goods_high i (λ at. v (suc at)) bits h.1

  goods_joined : (i : ℕ) (v u : ℕ → Bit) (bits top : List SigBit) → length bits ≡ i → Goods l v bits → Goods l u top → Goods l (joined i v u) (bits ++ top)
  goods_joined zero v u [] top e h k = k
  goods_joined zero v u (b ∷ bits) top e h k = absurd (omega (arith, e))
  goods_joined (suc i) v u [] top e h k = absurd (omega (arith, e))
  goods_joined (suc i) v u (b ∷ bits) top e h k = (h.0, goods_joined i (λ at. v (suc at)) u bits top (omega (arith, e)) h.1 k)

  -- what is so of the result under the premise, and what follows from it
  pub net_given : {A R : Type 0} {m : Build A} {W V : A → Type 0} → Net l R m W → (R → (a : A) → W a → V a) → Net l R m V
  net_given {m = m} n h = record {
    gates = n.gates;
    is = n.is;
    unnamed = n.unnamed;
    holds = λ b r o. let x = n.holds b r o in (x.0, h r (m b).0 x.1);
  }

  goods_zeros : (n : ℕ) → Goods l (λ at. S0) (replicate n (Fixed S0))
  goods_zeros zero = tt
  goods_zeros (suc n) = (l.constant S0, goods_zeros n)

  module _ (K : Type 0) where
    -- the signal has the bits of the word at least, and its width
    pub record Reads (n m : ℕ) (w : Word K n m) (bits : List SigBit) : Type 0 where
      pub has : Goods l w.value bits
      pub width : length bits ≡ n

    -- the same of one bit
    pub record ReadsDigit (d : ℕ) (x : Digit K d) (bit : SigBit) : Type 0 where
      pub has : l.Has x.value bit

    pub reads_zero : ReadsDigit 0 (fixed_zero K) (Fixed S0)
    unfolding fixed_zero
    reads_zero = record { has = l.constant S0 }

    pub reads_one : ReadsDigit 1 (fixed_one K) (Fixed S1)
    unfolding fixed_one
    reads_one = record { has = l.constant S1 }

    pub reads_as : (n m j : ℕ) (h : K → m ≡ j) (w : Word K n m) (bits : List SigBit) → Reads n m w bits → Reads n j (word_as K n m j h w) bits
    unfolding word_as
    reads_as n m j h w bits r = record { has = r.has; width = r.width }

    pub reads_digit_as : (d e : ℕ) (h : K → d ≡ e) (x : Digit K d) (bit : SigBit) → ReadsDigit d x bit → ReadsDigit e (digit_as K d e h x) bit
    unfolding digit_as
    reads_digit_as d e h x bit r = record { has = r.has }

    pub reads_head : (n m : ℕ) (w : Word K (suc n) m) (b : SigBit) (bits : List SigBit) → Reads (suc n) m w (b ∷ bits) → ReadsDigit _ (head K n m w) b
    unfolding head
    reads_head n m w b bits r = record { has = r.has.0 }

    pub reads_tail : (n m : ℕ) (w : Word K (suc n) m) (b : SigBit) (bits : List SigBit) → Reads (suc n) m w (b ∷ bits) → Reads n _ (tail K n m w) bits
    unfolding tail
    reads_tail n m w b bits r = record { has = r.has.1; width = omega (arith, r.width) }

    pub reads_cons : (n d m : ℕ) (x : Digit K d) (w : Word K n m) (b : SigBit) (bits : List SigBit) → ReadsDigit d x b → Reads n m w bits → Reads (suc n) _ (cons K n d m x w) (b ∷ bits)
    unfolding cons
    reads_cons n d m x w b bits r s = record { has = (r.has, s.has); width = ap suc s.width }

    pub reads_zeros : (n : ℕ) → Reads n 0 (zeros K n) (replicate n (Fixed S0))
    unfolding zeros
    reads_zeros n = record { has = goods_zeros n; width = length-replicate n (Fixed S0) }

    pub reads_low : (i j n m : ℕ) (e : n ≡ i + j) (w : Word K n m) (bits : List SigBit) → Reads n m w bits → Reads i _ (low K i j n m e w) (take i bits)
    unfolding low
    reads_low i j n m e w bits r = record { has = goods_low i w.value bits r.has; width = omega (arith, length-take i bits, r.width, e) }

    pub reads_high : (i j n m : ℕ) (e : n ≡ i + j) (w : Word K n m) (bits : List SigBit) → Reads n m w bits → Reads j _ (high K i j n m e w) (drop i bits)
    unfolding high
    reads_high i j n m e w bits r = record { has = goods_high i w.value bits r.has; width = omega (arith, length-drop i bits, r.width, e) }

    pub reads_join : (i j n m h : ℕ) (e : n ≡ i + j) (w : Word K i m) (x : Word K j h) (bits top : List SigBit) → Reads i m w bits → Reads j h x top → Reads n _ (join K i j n m h e w x) (bits ++ top)
    unfolding join
    reads_join i j n m h e w x bits top r s = record {
      has = goods_joined i w.value x.value bits top r.width r.has s.has;
      width = omega (arith, length-append bits top, r.width, s.width, e);
    }

    -- the sum of two words and a digit
    pub record ReadsSum (n x y c : ℕ) (u : Word K n x) (v : Word K n y) (d : Digit K c) (total : Total) : Type 0 where
      pub bits : Reads n _ (sum K n x y c u v d) total.bits
      pub carry : ReadsDigit _ (carry K n x y c u v d) total.carry

    pub net_sums : (n x y c : ℕ) (u : Word K n x) (v : Word K n y) (d : Digit K c) (a b : List SigBit) (s : SigBit) {R : Type 0} → (R → Reads n x u a) → (R → Reads n y v b) → (R → ReadsDigit c d s)
        → Net l R (sum_of a b s) (ReadsSum n x y c u v d)
    unfolding sum carry
    net_sums n x y c u v d a b s h k j =
        net_given (net_sum l u.value v.value d.value a b s (λ r. (h r).has) (λ r. (k r).has) (λ r. (j r).has) (λ r. (h r).width ∙ sym (k r).width))
        (λ r total w. record {
          bits = record { has = w.0; width = w.2 ∙ (h r).width };
          carry = record { has = subst (λ z. l.Has (carry_at u.value v.value d.value z) total.carry) (h r).width w.1 };
        })

    pub net_inverses : (n m : ℕ) (w : Word K n m) (bits : List SigBit) {R : Type 0} → (R → Reads n m w bits) → Net l R (inverse_of bits) (Reads n _ (inverse K n m w))
    unfolding inverse
    net_inverses n m w bits h = net_given (net_inverse l w.value bits (λ r. (h r).has)) (λ r ys v. record { has = v.0; width = v.1 ∙ (h r).width })

    -- one of two words, with its length
    net_chosen : (u v : ℕ → Bit) (c : Bit) (a b : List SigBit) (s : SigBit) {R : Type 0} → (R → Goods l u a) → (R → Goods l v b) → (R → l.Has c s) → (R → length a ≡ length b)
        → Net l R (select_of a b s) (λ ys. Goods l (λ at. mux_of (u at) (v at) c) ys × (length ys ≡ length a))
    net_chosen u v c [] b s h k j e = net_pure l (λ r. (tt, refl))
    net_chosen u v c (x ∷ a) [] s h k j e = net_pure l (λ r. absurd (omega (arith, e r)))
    net_chosen u v c (x ∷ a) (y ∷ b) s h k j e =
        net_then l (net_mux l (u 0) (v 0) c (λ r. (h r).0) (λ r. (k r).0) j) λ z.
        net_then l (net_chosen (λ at. u (suc at)) (λ at. v (suc at)) c a b s (λ r. (h r.0).1) (λ r. (k r.0).1) (λ r. j r.0) (λ r. omega (arith, e r.0))) λ zs.
        net_pure l (λ r. ((r.0.1, r.1.0), ap suc r.1.1))

    pub net_choice : (n x y d : ℕ) (u : Word K n x) (v : Word K n y) (c : Digit K d) (a b : List SigBit) (s : SigBit) {R : Type 0} → (R → Reads n x u a) → (R → Reads n y v b) → (R → ReadsDigit d c s)
        → Net l R (select_of a b s) (Reads n _ (choice K n x y d u v c))
    unfolding choice
    net_choice n x y d u v c a b s h k j =
        net_given (net_chosen u.value v.value c.value a b s (λ r. (h r).has) (λ r. (k r).has) (λ r. (j r).has) (λ r. (h r).width ∙ sym (k r).width))
        (λ r ys w. record { has = w.0; width = w.1 ∙ (h r).width })
