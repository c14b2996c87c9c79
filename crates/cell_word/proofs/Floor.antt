-- Quotients that are rounded down, and their remainders.
use Rattle.std.proofs.Common.{◌≡◌, refl, ◌∙◌, ap, zero, suc, Bool, true, false, arith, ℤ, pos, negsuc, ◌+ℤ◌, ◌-ℤ◌, ◌*ℤ◌}
use Rattle.std.specs.Prelude.{int_div, int_rem, if◌then◌else◌}
use Rattle.std.proofs.lemmas.Int.{ints, quot-rem}
use Rattle.std.proofs.Math.IntN.{pred_ℤ, pred_ℤ-*ℤ}
use Rattle.cell_word.specs.Arithmetic.{rounds_up, floor_div, floor_rem}

pub trunc_whole : (a b : ℤ) → int_div a b *ℤ b +ℤ int_rem a b ≡ a
trunc_whole a b = quot-rem a b

one_less : (q : ℤ) → q -ℤ pos 1 ≡ pred_ℤ q
one_less (pos zero) = refl
one_less (pos (suc n)) = omega (arith, ints)
one_less (negsuc n) = omega (arith, ints)

regroup : (m b r : ℤ) → (m -ℤ b) +ℤ (r +ℤ b) ≡ m +ℤ r
regroup m b r = omega (arith, ints)

-- one less of the quotient is one divisor more of the rest
lower : (q b r : ℤ) → (q -ℤ pos 1) *ℤ b +ℤ (r +ℤ b) ≡ q *ℤ b +ℤ r
lower q b r =
    ap (λ z. z *ℤ b +ℤ (r +ℤ b)) (one_less q)
    ∙ ap (λ z. z +ℤ (r +ℤ b)) (pred_ℤ-*ℤ q b)
    ∙ regroup (q *ℤ b) b r

choose_whole : (t : Bool) (q b r a : ℤ) → q *ℤ b +ℤ r ≡ a → (if t then q -ℤ pos 1 else q) *ℤ b +ℤ (if t then r +ℤ b else r) ≡ a
choose_whole true q b r a e = lower q b r ∙ e
choose_whole false q b r a e = e

pub floor_whole : (a b : ℤ) → floor_div a b *ℤ b +ℤ floor_rem a b ≡ a
floor_whole a b = choose_whole (rounds_up a b) (int_div a b) b (int_rem a b) a (quot-rem a b)
