-- Laws of the bits of a wire from one place up to another.
use Rattle.std.proofs.Common.{◌≡◌, ℕ, zero, suc, ◌+◌, ◌-◌, ◌<◌, ◌≤◌, [], ◌∷◌, ◌++◌, length, take, drop, refl, sym, ◌∙◌, ap, arith}
use Rattle.rtl_sig.specs.declared.sig.SigBit.{SigBit}
use Rattle.rtl_sig.specs.declared.sig.SigBit.TheVariants as bits
use Rattle.rtl_read.specs.Part.{range_bits}
use Rattle.rtl_read.specs.Signal.{wire_bits}
use Rattle.rtl_read.proofs.Signals.{wire_bits_more, wire_bits_none}

abbrev bit : ℕ → ℕ → SigBit
bit wire at = bits.Wire (record { wire = wire; at = at })

pub range_none : (wire low n : ℕ) → n ≡ 0 → range_bits wire low n ≡ []
unfolding range_bits
range_none wire low n e = ap (range_bits wire low) e

pub range_one : (wire low n : ℕ) → n ≡ 1 → range_bits wire low n ≡ bit wire low ∷ []
unfolding range_bits
range_one wire low n e = ap (range_bits wire low) e

more : (wire low n : ℕ) → range_bits wire low (suc n) ≡ bit wire low ∷ range_bits wire (low + 1) n
unfolding range_bits
more wire low n = refl

last : (wire low n : ℕ) → range_bits wire low (suc n) ≡ range_bits wire low n ++ bit wire (low + n) ∷ []
unfolding range_bits
last wire low zero = let e : low ≡ low + 0 = omega arith in ap (λ (k : ℕ). bit wire k ∷ []) e
last wire low (suc n) =
    let e : low + 1 + n ≡ low + suc n = omega arith in
    ap (λ z. bit wire low ∷ z) (last wire (low + 1) n ∙ ap (λ (k : ℕ). range_bits wire (low + 1) n ++ bit wire k ∷ []) e)

-- so many bits, and one more
pub range_last : (wire from n : ℕ) → range_bits wire from (n + 1) ≡ range_bits wire from n ++ bit wire (from + n) ∷ []
range_last wire from n = let e : n + 1 ≡ suc n = omega arith in ap (range_bits wire from) e ∙ last wire from n

-- the bits above a place, and those from it on
pub range_first : (wire from n width : ℕ) → n < width → range_bits wire (from + n) (width - n) ≡ bit wire (from + n) ∷ range_bits wire (from + (n + 1)) (width - (n + 1))
range_first wire from n width h =
    let e : width - n ≡ suc (width - (n + 1)) = omega (arith, h) in
    let f : from + n + 1 ≡ from + (n + 1) = omega arith in
    ap (range_bits wire (from + n)) e ∙ more wire (from + n) (width - (n + 1)) ∙ ap (λ (k : ℕ). bit wire (from + n) ∷ range_bits wire k (width - (n + 1))) f

pub range_length : (wire low n : ℕ) → length (range_bits wire low n) ≡ n
unfolding range_bits
range_length wire low zero = refl
range_length wire low (suc n) = ap suc (range_length wire (low + 1) n)

dropped : (wire low k n : ℕ) → drop k (range_bits wire low (k + n)) ≡ range_bits wire (low + k) n
unfolding range_bits
dropped wire low zero n =
    let e : low ≡ low + 0 = omega arith in
    let f : 0 + n ≡ n = omega arith in
    ap (range_bits wire low) f ∙ ap (λ (l : ℕ). range_bits wire l n) e
dropped wire low (suc k) n =
    let e : low + 1 + k ≡ low + suc k = omega arith in
    let f : suc k + n ≡ suc (k + n) = omega arith in
    ap (λ (c : ℕ). drop (suc k) (range_bits wire low c)) f ∙ dropped wire (low + 1) k n ∙ ap (λ (l : ℕ). range_bits wire l n) e

taken : (wire low k n : ℕ) → take k (range_bits wire low (k + n)) ≡ range_bits wire low k
unfolding range_bits
taken wire low zero n = refl
taken wire low (suc k) n =
    let f : suc k + n ≡ suc (k + n) = omega arith in
    ap (λ (c : ℕ). take (suc k) (range_bits wire low c)) f ∙ ap (λ z. bit wire low ∷ z) (taken wire (low + 1) k n)

-- a part of the bits is the bits between two places
pub range_between : (wire from to low high : ℕ) → low ≤ high → high < to - from
    → range_bits wire (from + low) (from + high + 1 - (from + low)) ≡ take (high + 1 - low) (drop low (range_bits wire from (to - from)))
range_between wire from to low high order inside =
    let n : ℕ = to - from - low in
    let k : ℕ = high + 1 - low in
    let a : to - from ≡ low + n = omega (arith, order, inside) in
    let b : n ≡ k + (n - k) = omega (arith, order, inside) in
    let c : from + high + 1 - (from + low) ≡ k = omega (arith, order) in
    ap (range_bits wire (from + low)) c
    ∙ sym (taken wire (from + low) k (n - k))
    ∙ ap (λ (z : ℕ). take k (range_bits wire (from + low) z)) (sym b)
    ∙ ap (take k) (sym (dropped wire from low n))
    ∙ ap (λ (z : ℕ). take k (drop low (range_bits wire from z))) (sym a)

-- the bits of a whole wire
pub whole_wire : (wire n : ℕ) → range_bits wire 0 n ≡ wire_bits wire n
whole_wire wire zero = range_none wire 0 zero refl ∙ sym (wire_bits_none wire)
whole_wire wire (suc n) =
    let e : suc n ≡ n + 1 = omega arith in
    let f : 0 + n ≡ n = omega arith in
    last wire 0 n ∙ ap (λ (k : ℕ). range_bits wire 0 n ++ bit wire k ∷ []) f ∙ ap (λ z. z ++ bit wire n ∷ []) (whole_wire wire n) ∙ sym (wire_bits_more wire n) ∙ ap (wire_bits wire) (sym e)
