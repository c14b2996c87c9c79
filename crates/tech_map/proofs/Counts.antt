-- A bit stands as often in a list in another order.
use Rattle.std.proofs.Common.{◌≡◌, ℕ, ◌+◌, cond, List, [], ◌∷◌, arith}
use Rattle.std.specs.Prelude.{sum_by, IsPermutation}
use Rattle.std.specs.List.{fold}
use Rattle.std.proofs.lemmas.List.Sorted.{sum_by-IsPermutation}
use Rattle.rtl_sig.specs.declared.sig.WireBit.{WireBit}
use Rattle.rtl_ir.specs.Signals.{same_bit}
use Rattle.pass_laws.proofs.Counting.{count}

-- a count is a sum, so order does not matter
count_sum : (b : WireBit) (n : ℕ) (xs : List WireBit) → fold (λ k (x : WireBit). k + cond (same_bit x b) 1 0) n xs ≡ n + count b xs
count_sum b n [] = omega arith
count_sum b n (x ∷ xs) = omega (arith, count_sum b (n + cond (same_bit x b) 1 0) xs)

pub count-permutation : (b : WireBit) (xs ys : List WireBit) → IsPermutation xs ys → count b xs ≡ count b ys
count-permutation b xs ys p =
    let same : sum_by (λ (x : WireBit). cond (same_bit x b) 1 0) ys ≡ sum_by (λ (x : WireBit). cond (same_bit x b) 1 0) xs = sum_by-IsPermutation (λ (x : WireBit). cond (same_bit x b) 1 0) xs ys p in
    omega (arith, same, count_sum b 0 xs, count_sum b 0 ys)
