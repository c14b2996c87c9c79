-- What holds of each of the eight remainders holds of every number's.
use Rattle.std.proofs.Common.{ℕ, zero, suc, ◌<◌, ◌%◌, arith}

below_eight : (P : ℕ → Type 0) → P 0 → P 1 → P 2 → P 3 → P 4 → P 5 → P 6 → P 7 → (r : ℕ) → r < 8 → P r
below_eight P a b c d e f g h zero few = a
below_eight P a b c d e f g h (suc zero) few = b
below_eight P a b c d e f g h (suc (suc zero)) few = c
below_eight P a b c d e f g h (suc (suc (suc zero))) few = d
below_eight P a b c d e f g h (suc (suc (suc (suc zero)))) few = e
below_eight P a b c d e f g h (suc (suc (suc (suc (suc zero))))) few = f
below_eight P a b c d e f g h (suc (suc (suc (suc (suc (suc zero)))))) few = g
below_eight P a b c d e f g h (suc (suc (suc (suc (suc (suc (suc zero))))))) few = h
below_eight P a b c d e f g h (suc (suc (suc (suc (suc (suc (suc (suc r)))))))) few = absurd (omega (arith, few))

pub by_remainder : (P : ℕ → Type 0) → P 0 → P 1 → P 2 → P 3 → P 4 → P 5 → P 6 → P 7 → (n : ℕ) → P (n % 8)
by_remainder P a b c d e f g h n = below_eight P a b c d e f g h (n % 8) (omega arith)
