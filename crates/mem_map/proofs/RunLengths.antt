-- Runs of equal bits.
use Rattle.std.proofs.Common.{◌≡◌, ℕ, zero, suc, ◌+◌, ◌<◌, ◌≤◌, List, [], ◌∷◌, ◌++◌, length, drop, get_or, refl, sym, ◌∙◌, ap, arith, append_assoc, length-drop, drop-drop, drop-cons, add-one}
use Rattle.rtl_bits.specs.declared.bit.Bit.TheVariants.{X}
use Rattle.rtl_sig.specs.declared.sig.SigBit.{SigBit}
use Rattle.rtl_sig.specs.declared.sig.SigBit.TheVariants.{Fixed}
use Rattle.net_model.specs.Mem.Expand.{low_bit, run_length, run_lengths}

-- more steps than bits make no difference
runs_same : (n m : ℕ) (bits : List SigBit) → length bits ≤ n → length bits ≤ m → run_lengths n bits ≡ run_lengths m bits
runs_same zero zero [] h g = refl
runs_same zero (suc m) [] h g = refl
runs_same (suc n) zero [] h g = refl
runs_same (suc n) (suc m) [] h g = refl
runs_same zero m (e ∷ bits) h g = absurd (omega (arith, h))
runs_same (suc n) zero (e ∷ bits) h g = absurd (omega (arith, g))
runs_same (suc n) (suc m) (e ∷ bits) h g =
    let left = length-drop (run_length e bits) bits in
    ap (λ ns. suc (run_length e bits) ∷ ns) (runs_same n m (drop (run_length e bits) bits) (omega (arith, left, h)) (omega (arith, left, g)))

-- a run more at a place
pub run_goes : (bits : List SigBit) (at : ℕ) (here : List SigBit) (e : SigBit) (rest : List SigBit) (count : ℕ) (runs runs' : List ℕ) → at < length bits → here ≡ drop at bits → e ≡ low_bit here → rest ≡ drop 1 here → count ≡ run_length e rest
    → runs' ≡ runs ++ (count + 1) ∷ [] → runs ++ run_lengths (length bits) (drop at bits) ≡ run_lengths (length bits) bits
    → runs' ++ run_lengths (length bits) (drop (at + (count + 1)) bits) ≡ run_lengths (length bits) bits
run_goes bits at here e rest count runs runs' h stands first others are more so = by (length bits) refl
  where
    item : SigBit
    item = get_or bits at (Fixed X)

    next : here ≡ item ∷ drop (suc at) bits
    next = stands ∙ drop-cons bits at (Fixed X) h

    is : e ≡ item
    is = first ∙ ap low_bit next

    tail : rest ≡ drop (suc at) bits
    tail = others ∙ ap (drop 1) next

    all : drop at bits ≡ e ∷ rest
    all = sym stands ∙ next ∙ (λ i. sym is i ∷ sym tail i)

    by : (n : ℕ) → length bits ≡ n → runs' ++ run_lengths (length bits) (drop (at + (count + 1)) bits) ≡ run_lengths (length bits) bits
    by zero z = absurd (omega (arith, h, z))
    by (suc n) z =
        let few : length rest ≤ n = omega (arith, ap length tail, length-drop (suc at) bits, z, h) in
        let fewer : length (drop count rest) ≤ n = omega (arith, few, length-drop count rest) in
        let skip : drop (at + (count + 1)) bits ≡ drop count rest =
        ap (λ k. drop k bits) (omega arith) ∙ sym (drop-drop count (suc at) bits) ∙ ap (drop count) (sym tail) in
        (λ i. more i ++ run_lengths (z i) (skip i))
        ∙ append_assoc runs ((count + 1) ∷ []) (run_lengths (suc n) (drop count rest))
        ∙ (λ i. runs ++ (add-one count i) ∷ runs_same (suc n) n (drop count rest) (omega (arith, fewer)) fewer i)
        ∙ (λ i. runs ++ suc (are i) ∷ run_lengths n (drop (are i) rest))
        ∙ ap (λ ys. runs ++ run_lengths (suc n) ys) (sym all)
        ∙ ap (λ k. runs ++ run_lengths k (drop at bits)) (sym z)
        ∙ so
