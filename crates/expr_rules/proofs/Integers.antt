-- Integers modulo a power of two, and their low bits.
use Rattle.std.proofs.Common.{◌≡◌, ℕ, zero, suc, ◌+◌, ◌-◌, ◌*◌, ◌/◌, ◌%◌, ◌^◌, ◌<◌, map, sym, ◌∙◌, ap, subst, arith, ℤ, pos, negsuc, ◌+ℤ◌, ◌-ℤ◌, ◌*ℤ◌}
use Rattle.std.proofs.lemmas.Int.{ints}
use Rattle.std.proofs.lemmas.Nat.{mod_below, pow_pos}
use Rattle.std.proofs.Math.IntN.{suc_ℤ, pred_ℤ, suc_ℤ-*ℤ, pred_ℤ-*ℤ, suc_ℤ-+ℤ, pred_ℤ-+ℤ, zero-*ℤ, *ℤ_comm, +ℤ_idl}
use Rattle.std.proofs.Math.Nat.{mod-eq_of_lt}
use Rattle.std.proofs.Math.Pow.{split}
use Rattle.rtl_bits.specs.Numbers.{bits_of, number_of}
use Rattle.rtl_bits.specs.Tables.{not_of}
use Rattle.rtl_bits.proofs.NumberLemmas.{number_of_bits_of}
use Rattle.cell_word.specs.Integers.{integer_bits}
use Rattle.cell_word.proofs.Residues.{bits_of_rest, bits_of_wrapped}

up_line : (a b c d e p : ℤ) → a ≡ b +ℤ p → c ≡ d +ℤ p → b ≡ d +ℤ e → a ≡ c +ℤ e
up_line a b c d e p x y z = omega (arith, ints)

down_line : (a b c d e p : ℤ) → a ≡ b -ℤ p → c ≡ d -ℤ p → b ≡ d +ℤ e → a ≡ c +ℤ e
down_line a b c d e p x y z = omega (arith, ints)

distribute_up : (m k p : ℤ) → (m +ℤ k) *ℤ p ≡ m *ℤ p +ℤ k *ℤ p → (suc_ℤ m +ℤ k) *ℤ p ≡ suc_ℤ m *ℤ p +ℤ k *ℤ p
distribute_up m k p e = ap (λ z. z *ℤ p) (suc_ℤ-+ℤ m k) ∙ up_line _ _ _ _ _ _ (suc_ℤ-*ℤ (m +ℤ k) p) (suc_ℤ-*ℤ m p) e

distribute_down : (m k p : ℤ) → (m +ℤ k) *ℤ p ≡ m *ℤ p +ℤ k *ℤ p → (pred_ℤ m +ℤ k) *ℤ p ≡ pred_ℤ m *ℤ p +ℤ k *ℤ p
distribute_down m k p e = ap (λ z. z *ℤ p) (pred_ℤ-+ℤ m k) ∙ down_line _ _ _ _ _ _ (pred_ℤ-*ℤ (m +ℤ k) p) (pred_ℤ-*ℤ m p) e

distribute_zero : (k p : ℤ) → (pos zero +ℤ k) *ℤ p ≡ pos zero *ℤ p +ℤ k *ℤ p
distribute_zero k p =
    ap (λ z. z *ℤ p) (+ℤ_idl k) ∙ sym (ap (λ z. z +ℤ k *ℤ p) (zero-*ℤ p) ∙ +ℤ_idl (k *ℤ p))

distribute_positive : (n : ℕ) (k p : ℤ) → (pos n +ℤ k) *ℤ p ≡ pos n *ℤ p +ℤ k *ℤ p
distribute_positive zero k p = distribute_zero k p
distribute_positive (suc n) k p = distribute_up (pos n) k p (distribute_positive n k p)

distribute_negative : (n : ℕ) (k p : ℤ) → (negsuc n +ℤ k) *ℤ p ≡ negsuc n *ℤ p +ℤ k *ℤ p
distribute_negative zero k p = distribute_down (pos zero) k p (distribute_zero k p)
distribute_negative (suc n) k p = distribute_down (negsuc n) k p (distribute_negative n k p)

-- products distribute over sums
distribute : (q k p : ℤ) → (q +ℤ k) *ℤ p ≡ q *ℤ p +ℤ k *ℤ p
distribute (pos n) k p = distribute_positive n k p
distribute (negsuc n) k p = distribute_negative n k p

cancel : (q k : ℤ) → (q -ℤ k) +ℤ k ≡ q
cancel q k = omega (arith, ints)

less : (a b c : ℤ) → a +ℤ b ≡ c → a ≡ c -ℤ b
less a b c e = omega (arith, ints)

-- and over differences
distribute_less : (q k p : ℤ) → (q -ℤ k) *ℤ p ≡ q *ℤ p -ℤ k *ℤ p
distribute_less q k p = less _ _ _ (sym (distribute (q -ℤ k) k p) ∙ ap (λ z. z *ℤ p) (cancel q k))

regroup_up : (a q p : ℤ) → a *ℤ (q *ℤ p) ≡ (a *ℤ q) *ℤ p → suc_ℤ a *ℤ (q *ℤ p) ≡ (suc_ℤ a *ℤ q) *ℤ p
regroup_up a q p e =
    suc_ℤ-*ℤ a (q *ℤ p) ∙ ap (λ z. z +ℤ q *ℤ p) e
    ∙ sym (ap (λ z. z *ℤ p) (suc_ℤ-*ℤ a q) ∙ distribute (a *ℤ q) q p)

regroup_down : (a q p : ℤ) → a *ℤ (q *ℤ p) ≡ (a *ℤ q) *ℤ p → pred_ℤ a *ℤ (q *ℤ p) ≡ (pred_ℤ a *ℤ q) *ℤ p
regroup_down a q p e =
    pred_ℤ-*ℤ a (q *ℤ p) ∙ ap (λ z. z -ℤ q *ℤ p) e
    ∙ sym (ap (λ z. z *ℤ p) (pred_ℤ-*ℤ a q) ∙ distribute_less (a *ℤ q) q p)

regroup_zero : (q p : ℤ) → pos zero *ℤ (q *ℤ p) ≡ (pos zero *ℤ q) *ℤ p
regroup_zero q p = zero-*ℤ (q *ℤ p) ∙ sym (ap (λ z. z *ℤ p) (zero-*ℤ q) ∙ zero-*ℤ p)

regroup_positive : (n : ℕ) (q p : ℤ) → pos n *ℤ (q *ℤ p) ≡ (pos n *ℤ q) *ℤ p
regroup_positive zero q p = regroup_zero q p
regroup_positive (suc n) q p = regroup_up (pos n) q p (regroup_positive n q p)

regroup_negative : (n : ℕ) (q p : ℤ) → negsuc n *ℤ (q *ℤ p) ≡ (negsuc n *ℤ q) *ℤ p
regroup_negative zero q p = regroup_down (pos zero) q p (regroup_zero q p)
regroup_negative (suc n) q p = regroup_down (negsuc n) q p (regroup_negative n q p)

-- products of three
regroup : (a q p : ℤ) → a *ℤ (q *ℤ p) ≡ (a *ℤ q) *ℤ p
regroup (pos n) q p = regroup_positive n q p
regroup (negsuc n) q p = regroup_negative n q p

-- integers that agree but for multiples of 2 to the width
pub record AreCongruent (width : ℕ) (y z : ℤ) : Type 0 where
  pub quotient : ℤ
  pub value : y ≡ z +ℤ quotient *ℤ pos (2 ^ width)

sum_line : (a b c x y z p q : ℤ) → a ≡ x +ℤ p → b ≡ y +ℤ q → (a +ℤ b) ≡ (x +ℤ y) +ℤ (p +ℤ q)
sum_line a b c x y z p q e f = omega (arith, ints)

difference_line : (a b x y p q : ℤ) → a ≡ x +ℤ p → b ≡ y +ℤ q → (a -ℤ b) ≡ (x -ℤ y) +ℤ (p -ℤ q)
difference_line a b x y p q e f = omega (arith, ints)

pub congruent_refl : (width : ℕ) (z : ℤ) → AreCongruent width z z
congruent_refl width z = record { quotient = pos zero; value = by z (pos zero *ℤ pos (2 ^ width)) (zero-*ℤ (pos (2 ^ width))) }
  where
    by : (z p : ℤ) → p ≡ pos zero → z ≡ z +ℤ p
    by z p e = omega (arith, ints)

pub congruent_sym : (width : ℕ) (y z : ℤ) → AreCongruent width y z → AreCongruent width z y
congruent_sym width y z c = record {
  quotient = pos zero -ℤ c.quotient;
  value = by y z (c.quotient *ℤ pos (2 ^ width)) (pos zero *ℤ pos (2 ^ width)) (zero-*ℤ (pos (2 ^ width))) c.value ∙ ap (λ p. y +ℤ p) (sym (distribute_less (pos zero) c.quotient (pos (2 ^ width))));
}
  where
    by : (y z p o : ℤ) → o ≡ pos zero → y ≡ z +ℤ p → z ≡ y +ℤ (o -ℤ p)
    by y z p o u e = omega (arith, ints)

pub congruent_trans : (width : ℕ) (x y z : ℤ) → AreCongruent width x y → AreCongruent width y z → AreCongruent width x z
congruent_trans width x y z c d = record {
  quotient = d.quotient +ℤ c.quotient;
  value = by x y z (c.quotient *ℤ pos (2 ^ width)) (d.quotient *ℤ pos (2 ^ width)) c.value d.value ∙ ap (λ p. z +ℤ p) (sym (distribute d.quotient c.quotient (pos (2 ^ width))));
}
  where
    by : (x y z p q : ℤ) → x ≡ y +ℤ p → y ≡ z +ℤ q → x ≡ z +ℤ (q +ℤ p)
    by x y z p q e f = omega (arith, ints)

-- sums, differences and products keep this
pub congruent_sum : (width : ℕ) (a b x y : ℤ) → AreCongruent width a x → AreCongruent width b y → AreCongruent width (a +ℤ b) (x +ℤ y)
congruent_sum width a b x y c d = record {
  quotient = c.quotient +ℤ d.quotient;
  value = sum_line a b a x y a _ _ c.value d.value ∙ ap (λ p. (x +ℤ y) +ℤ p) (sym (distribute c.quotient d.quotient (pos (2 ^ width))));
}

pub congruent_difference : (width : ℕ) (a b x y : ℤ) → AreCongruent width a x → AreCongruent width b y → AreCongruent width (a -ℤ b) (x -ℤ y)
congruent_difference width a b x y c d = record {
  quotient = c.quotient -ℤ d.quotient;
  value = difference_line a b x y _ _ c.value d.value ∙ ap (λ p. (x -ℤ y) +ℤ p) (sym (distribute_less c.quotient d.quotient (pos (2 ^ width))));
}

congruent_times : (width : ℕ) (a b y : ℤ) → AreCongruent width b y → AreCongruent width (a *ℤ b) (a *ℤ y)
congruent_times width a b y d = record {
  quotient = a *ℤ d.quotient;
  value =
      ap (λ z. a *ℤ z) d.value ∙ *ℤ_comm a (y +ℤ d.quotient *ℤ pos (2 ^ width))
      ∙ distribute y (d.quotient *ℤ pos (2 ^ width)) a
      ∙ ap (λ z. z +ℤ (d.quotient *ℤ pos (2 ^ width)) *ℤ a) (*ℤ_comm y a)
      ∙ ap (λ z. a *ℤ y +ℤ z) (*ℤ_comm (d.quotient *ℤ pos (2 ^ width)) a ∙ regroup a d.quotient (pos (2 ^ width)));
}

pub congruent_product : (width : ℕ) (a b x y : ℤ) → AreCongruent width a x → AreCongruent width b y → AreCongruent width (a *ℤ b) (x *ℤ y)
congruent_product width a b x y c d =
    congruent_trans width (a *ℤ b) (a *ℤ y) (x *ℤ y) (congruent_times width a b y d)
    (subst (λ z. AreCongruent width z (x *ℤ y)) (*ℤ_comm y a)
    (subst (AreCongruent width (y *ℤ a)) (*ℤ_comm y x) (congruent_times width y a x c)))

-- an integer by its residue
pub record HasResidue (width : ℕ) (z : ℤ) : Type 0 where
  pub residue : ℕ
  pub small : residue < 2 ^ width
  pub congruent : AreCongruent width z (pos residue)
  pub bits : integer_bits z width ≡ bits_of residue width

positive_line : (n d m p : ℕ) → d * p + m ≡ n → pos n ≡ pos m +ℤ pos d *ℤ pos p
positive_line n d m p e = omega (arith, ints)

negative_line : (n d m p : ℕ) → d * p + m ≡ n → m < p → negsuc n ≡ pos (p - 1 - m) +ℤ negsuc d *ℤ pos p
negative_line n d m p e h = omega (arith, ints)

pub has_residue : (width : ℕ) (z : ℤ) → HasResidue width z
has_residue width (pos n) =
    let low : n % 2 ^ width < 2 ^ width = mod_below n (2 ^ width) (pow_pos width) in
    record {
      residue = n % 2 ^ width;
      small = low;
      congruent = record { quotient = pos (n / 2 ^ width); value = positive_line n (n / 2 ^ width) (n % 2 ^ width) (2 ^ width) (split n width) };
      bits = bits_of_wrapped n (n % 2 ^ width) width width (sym (mod-eq_of_lt low)) (omega arith);
    }
has_residue width (negsuc n) =
    let low : n % 2 ^ width < 2 ^ width = mod_below n (2 ^ width) (pow_pos width) in
    let rest : (2 ^ width - 1 - n % 2 ^ width) + n % 2 ^ width + 1 ≡ 2 ^ width = omega arith in
    record {
      residue = 2 ^ width - 1 - n % 2 ^ width;
      small = omega arith;
      congruent = record { quotient = negsuc (n / 2 ^ width); value = negative_line n (n / 2 ^ width) (n % 2 ^ width) (2 ^ width) (split n width) low };
      bits =
          ap (map not_of) (bits_of_wrapped n (n % 2 ^ width) width width (sym (mod-eq_of_lt low)) (omega arith))
          ∙ sym (bits_of_rest (2 ^ width - 1 - n % 2 ^ width) (n % 2 ^ width) width width rest (omega arith));
    }

one_residue : (r s p : ℕ) (t : ℤ) → r < p → s < p → pos r ≡ pos s +ℤ t *ℤ pos p → r ≡ s
one_residue r s p (pos zero) h k e = omega (arith, ints)
one_residue r s p (pos (suc n)) h k e = omega (arith, ints)
one_residue r s p (negsuc n) h k e = omega (arith, ints)

-- integers have the same low bits where they are congruent
pub congruent_bits : (width : ℕ) (y z : ℤ) → AreCongruent width y z → integer_bits y width ≡ integer_bits z width
congruent_bits width y z c =
    let r = has_residue width y in
    let s = has_residue width z in
    let d : AreCongruent width (pos r.residue) (pos s.residue) =
    congruent_trans width (pos r.residue) y (pos s.residue) (congruent_sym width y (pos r.residue) r.congruent) (congruent_trans width y z (pos s.residue) c s.congruent) in
    r.bits ∙ ap (λ n. bits_of n width) (one_residue r.residue s.residue (2 ^ width) d.quotient r.small s.small d.value) ∙ sym s.bits

-- and only there
pub bits_congruent : (width : ℕ) (y z : ℤ) → integer_bits y width ≡ integer_bits z width → AreCongruent width y z
bits_congruent width y z e =
    let r = has_residue width y in
    let s = has_residue width z in
    let n : r.residue ≡ s.residue =
    sym (mod-eq_of_lt r.small) ∙ sym (number_of_bits_of r.residue width) ∙ ap number_of (sym r.bits ∙ e ∙ s.bits) ∙ number_of_bits_of s.residue width ∙ mod-eq_of_lt s.small in
    congruent_trans width y (pos r.residue) z r.congruent
    (congruent_sym width z (pos r.residue) (subst (λ n. AreCongruent width z (pos n)) (sym n) s.congruent))
