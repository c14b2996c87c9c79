-- The loop of a division: what is made so far is the division of the upper bits.
use Rattle.std.proofs.Common.{◌≡◌, ℕ, suc, ◌-◌, ◌<◌, ◌≤◌, List, ◌∷◌, length, drop, get_or, refl, sym, ◌∙◌, ap, subst, arith}
use Rattle.std.proofs.Math.Seq.{drop-cons}
use Rattle.rtl_ir.specs.Build.{Building}
use Rattle.rtl_sig.specs.declared.sig.SigBit.{SigBit}
use Rattle.net_index.specs.Builder.{IsInLimits, PassesLimit}
use Rattle.gate_nets.specs.Gate.{after}
use Rattle.gate_divide.specs.Division.{digit_of, divided_of}
use Rattle.gate_divide.specs.declared.division.Division.{Division}
use Rattle.gate_divide.proofs.Limits.{upper_limits}

-- the bits from a place on that is not the end
bits_here : (bits : List SigBit) (at : ℕ) (d : SigBit) → 0 < at → at ≤ length bits → drop (at - 1) bits ≡ get_or bits (at - 1) d ∷ drop at bits
bits_here bits at d h k =
    let e : suc (at - 1) ≡ at = omega arith in
    drop-cons bits (at - 1) d (omega arith) ∙ ap (λ n. get_or bits (at - 1) d ∷ drop n bits) e

-- a division beside a module
abbrev pub division_beside : List SigBit → List SigBit → Building → Division × Building
division_beside quotient rest b = (record { quotient = quotient; rest = rest }, b)

-- a division with a further digit, which was made after it
abbrev with_digit : List SigBit → (SigBit × List SigBit) × Building → Division × Building
with_digit quotient digit = (record { quotient = digit.0.0 ∷ quotient; rest = digit.0.1 }, digit.1)

pub divided_step :
    (dividend divisor quotient rest : List SigBit) (at : ℕ) (d : SigBit) (digit : SigBit × List SigBit) (old now new : Building) → 0 < at → at ≤ length dividend
    → divided_of (drop at dividend) divisor old ≡ (record { quotient = quotient; rest = rest }, now)
    → (digit, new) ≡ digit_of (get_or dividend (at - 1) d) rest divisor now
    → divided_of (drop (at - 1) dividend) divisor old ≡ (record { quotient = digit.0 ∷ quotient; rest = digit.1 }, new)
unfolding after
divided_step dividend divisor quotient rest at d digit old now new h k is e =
    ap (λ z. divided_of z divisor old) (bits_here dividend at d h k)
    ∙ ap (λ (z : Division × Building). with_digit z.0.quotient (digit_of (get_or dividend (at - 1) d) z.0.rest divisor z.1)) is
    ∙ ap (with_digit quotient) (sym e)

pub divided_over :
    (dividend divisor quotient rest : List SigBit) (at : ℕ) (d : SigBit) (old now : Building) → 0 < at → at ≤ length dividend
    → divided_of (drop at dividend) divisor old ≡ (record { quotient = quotient; rest = rest }, now)
    → PassesLimit (digit_of (get_or dividend (at - 1) d) rest divisor now).1
    → PassesLimit (divided_of dividend divisor old).1
divided_over dividend divisor quotient rest at d old now h k is over fits =
    let here = digit_of (get_or dividend (at - 1) d) rest divisor now in
    over (subst (λ (z : Division × Building). IsInLimits z.1) (divided_step dividend divisor quotient rest at d here.0 old now here.1 h k is refl) (upper_limits dividend divisor (at - 1) old fits))
