-- How the cut into runs grows by a bit.
use Rattle.std.proofs.Common.{◌≡◌, ℕ, ◌+◌, ◌-◌, ◌<◌, ◌≤◌, Bool, true, false, List, [], ◌∷◌, ◌++◌, length, take, drop, get_or, sym, ap, ◌∙◌, add-one, arith}
use Rattle.std.specs.Prelude.{if◌then◌else◌}
use Rattle.std.specs.List.{fold}
use Rattle.std.proofs.lemmas.List.{get_or-take, get_or-drop, length-take, length-drop}
use Rattle.std.proofs.lemmas.List.Sums.{fold-append}
use Rattle.std.proofs.Math.Seq.{take-suc}
use Rattle.rtl_bits.specs.declared.bit.Bit.TheVariants.{S0}
use Rattle.rtl_sig.specs.declared.sig.SigBit.{SigBit}
use Rattle.rtl_sig.specs.declared.sig.SigBit.TheVariants.{Fixed}
use Rattle.rtl_write.specs.Signal.{goes_on, last_bit, with_bit}

-- one more bit of a list
take_more : (bits : List SigBit) (at : ℕ) → at < length bits → take (at + 1) bits ≡ take at bits ++ get_or bits at (Fixed S0) ∷ []
take_more bits at h = rw add-one (take-suc bits at (Fixed S0) h)

-- one more bit of a part
part_more : (bits : List SigBit) (from at : ℕ) → from ≤ at → at < length bits → take (at + 1 - from) (drop from bits) ≡ take (at - from) (drop from bits) ++ get_or bits at (Fixed S0) ∷ []
part_more bits from at le h =
    let count : at + 1 - from ≡ (at - from) + 1 = omega arith in
    let within : at - from < length (drop from bits) = omega (arith, length-drop from bits) in
    let place : from + (at - from) ≡ at = omega arith in
    ap (λ (n : ℕ). take n (drop from bits)) count
    ∙ take_more (drop from bits) (at - from) within
    ∙ ap (λ (b : SigBit). take (at - from) (drop from bits) ++ b ∷ []) (get_or-drop from bits (at - from) (Fixed S0) ∙ ap (λ (n : ℕ). get_or bits n (Fixed S0)) place)

length_part : (bits : List SigBit) (from at : ℕ) → from ≤ at → at ≤ length bits → length (take (at - from) (drop from bits)) ≡ at - from
length_part bits from at le h = omega (arith, length-take (at - from) (drop from bits), length-drop from bits)

-- the last bit of a part
last_part : (bits : List SigBit) (from at : ℕ) → from < at → at ≤ length bits → last_bit (take (at - from) (drop from bits)) ≡ get_or bits (at - 1) (Fixed S0)
last_part bits from at lt h =
    let len = length_part bits from at (omega arith) h in
    let place : from + (at - from - 1) ≡ at - 1 = omega arith in
    let below : at - from - 1 < at - from = omega arith in
    ap (λ (n : ℕ). get_or (take (at - from) (drop from bits)) (n - 1) (Fixed S0)) len
    ∙ get_or-take (at - from) (drop from bits) (at - from - 1) (Fixed S0) below
    ∙ get_or-drop from bits (at - from - 1) (Fixed S0)
    ∙ ap (λ (n : ℕ). get_or bits n (Fixed S0)) place

-- the cut of one bit more
pub cut_step : (bits : List SigBit) (from at : ℕ) (runs : List (List SigBit)) → from < at → at < length bits
    → fold with_bit [] (take at bits) ≡ take (at - from) (drop from bits) ∷ runs
    → fold with_bit [] (take (at + 1) bits) ≡ with_bit (take (at - from) (drop from bits) ∷ runs) (get_or bits at (Fixed S0))
cut_step bits from at runs lt h cut =
    ap (λ (l : List SigBit). fold with_bit [] l) (take_more bits at h)
    ∙ fold-append with_bit [] (take at bits) (get_or bits at (Fixed S0) ∷ [])
    ∙ ap (λ (c : List (List SigBit)). with_bit c (get_or bits at (Fixed S0))) cut

-- what the test of the code asks is what the cut asks
same_test : (bits : List SigBit) (from at : ℕ) → from < at → at < length bits
    → goes_on (last_bit (take (at - from) (drop from bits))) (length (take (at - from) (drop from bits))) (get_or bits at (Fixed S0)) ≡ goes_on (get_or bits (at - 1) (Fixed S0)) (at - from) (get_or bits at (Fixed S0))
same_test bits from at lt h =
    ap (λ (n : ℕ). goes_on (last_bit (take (at - from) (drop from bits))) n (get_or bits at (Fixed S0))) (length_part bits from at (omega arith) (omega arith))
    ∙ ap (λ (b : SigBit). goes_on b (at - from) (get_or bits at (Fixed S0))) (last_part bits from at lt (omega arith))

-- the bit goes on with the open run
pub cut_on : (bits : List SigBit) (from at : ℕ) (runs : List (List SigBit)) → from < at → at < length bits
    → goes_on (get_or bits (at - 1) (Fixed S0)) (at - from) (get_or bits at (Fixed S0)) ≡ true
    → fold with_bit [] (take at bits) ≡ take (at - from) (drop from bits) ∷ runs
    → fold with_bit [] (take (at + 1) bits) ≡ take (at + 1 - from) (drop from bits) ∷ runs
cut_on bits from at runs lt h goes cut =
    cut_step bits from at runs lt h cut
    ∙ ap (λ (t : Bool). if t then (take (at - from) (drop from bits) ++ get_or bits at (Fixed S0) ∷ []) ∷ runs else (get_or bits at (Fixed S0) ∷ []) ∷ take (at - from) (drop from bits) ∷ runs) (same_test bits from at lt h ∙ goes)
    ∙ ap (λ (r : List SigBit). r ∷ runs) (sym (part_more bits from at (omega arith) h))

-- the bit begins a run
pub cut_new : (bits : List SigBit) (from at : ℕ) (runs : List (List SigBit)) → from < at → at < length bits
    → goes_on (get_or bits (at - 1) (Fixed S0)) (at - from) (get_or bits at (Fixed S0)) ≡ false
    → fold with_bit [] (take at bits) ≡ take (at - from) (drop from bits) ∷ runs
    → fold with_bit [] (take (at + 1) bits) ≡ take (at + 1 - at) (drop at bits) ∷ take (at - from) (drop from bits) ∷ runs
cut_new bits from at runs lt h goes cut =
    let none : at - at ≡ 0 = omega arith in
    cut_step bits from at runs lt h cut
    ∙ ap (λ (t : Bool). if t then (take (at - from) (drop from bits) ++ get_or bits at (Fixed S0) ∷ []) ∷ runs else (get_or bits at (Fixed S0) ∷ []) ∷ take (at - from) (drop from bits) ∷ runs) (same_test bits from at lt h ∙ goes)
    ∙ ap (λ (r : List SigBit). r ∷ take (at - from) (drop from bits) ∷ runs) (sym (part_more bits at at (omega arith) h ∙ ap (λ (n : ℕ). take n (drop at bits) ++ get_or bits at (Fixed S0) ∷ []) none))
