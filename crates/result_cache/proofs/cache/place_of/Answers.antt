use Rattle.std.proofs.Common.{◌≡◌, ℕ, ◌+◌, ◌*◌, ◌/◌, ◌%◌, ◌<◌, List, [], ◌∷◌, length, take, get_or, sym, ap, ◌∙◌, arith, rules, zero-add}
use Rattle.std.specs.Prelude.{sum}
use Rattle.std.proofs.Math.Nat.{div-add-mod, mul-add-mod_self_left}
use Rattle.std.proofs.lemmas.List.{take_more}
use Rattle.std.proofs.lemmas.List.Sums.{sum_by-append}
use Rattle.result_cache.proofs.cache.place_of.Goals as goal

mod_more : (a b m : ℕ) → (a % m + b) % m ≡ (a + b) % m
mod_more a b m =
    let e : a + b ≡ m * (a / m) + (a % m + b) = omega (arith, div-add-mod a m) in
    sym (ap (λ n. n % m) e ∙ mul-add-mod_self_left m (a / m) (a % m + b))

sum_more : (xs : List ℕ) (i : ℕ) → i < length xs → sum (take (i + 1) xs) ≡ sum (take i xs) + get_or xs i 0
sum_more xs i l = ap sum (take_more xs i 0 l) ∙ sum_by-append (λ n. n) (take i xs) (get_or xs i 0 ∷ []) ∙ ap (λ n. sum (take i xs) + n) (zero-add (get_or xs i 0))

pub loop-byte-preserved : goal.loop-byte-preserved
loop-byte-preserved c =
    let i = c.loop-byte.invariant in
    let xs = c.as_slice-text.result.now in
    let k = c.loop-byte.byte-index in
    let below : k < length xs = c.loop-byte-test.true in
    let more : sum (take (k + 1) xs) ≡ sum (take k xs) + get_or xs k 0 = sum_more xs k below in
    let m = c.args.shards in
    let low = c.lowered.result in
    let b = c.from.result in
    let kept : (low + b) % m ≡ (sum (take k xs) + b) % m = sym (mod_more low b m) ∙ ap (λ n. (n + b) % m) (c.lowered.ensures.same ∙ i.1) ∙ mod_more (sum (take k xs)) b m in
    (search rules, kept ∙ ap (λ n. n % m) (ap (λ b. sum (take k xs) + b) c.from.ensures ∙ sym more))
