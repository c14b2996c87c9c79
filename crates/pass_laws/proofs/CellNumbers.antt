-- Numbers that parameters of cells give.
use Rattle.std.proofs.Common.{◌≡◌, ℕ, ◌%◌, ◌^◌, ◌≤◌, true, ◌∙◌, arith}
use Rattle.rtl_bits.proofs.Lists.{true_all_known}
use Rattle.rtl_bits.proofs.NumberLemmas.{bits_of_known, number_of_bits_of}
use Rattle.rtl_bits.specs.Knowledge.{all_known}
use Rattle.rtl_bits.specs.Numbers.{bits_of, number_of}
use Rattle.rtl_ir.specs.Constants.{low_bits}

pub number_known : (n : ℕ) → all_known (low_bits n 32) ≡ true
unfolding low_bits
number_known n = true_all_known (bits_of n 32) (bits_of_known n 32)

pub number_is : (n : ℕ) → n ≤ 4096 → number_of (low_bits n 32) ≡ n
unfolding low_bits
number_is n few = let low : n % 2 ^ 32 ≡ n = omega arith in number_of_bits_of n 32 ∙ low
