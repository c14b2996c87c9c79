-- Constants, bits and signals that tests find equal are one, and tests find those that are one equal.
use Rattle.std.proofs.Common.{◌≡◌, true, List, [], ◌∷◌, refl, ap, subst}
use Rattle.std.proofs.lemmas.Bool.{and_parts, eqb-true, eq-eqb}
use Rattle.std.specs.Bool.{Decides}
use Rattle.std.specs.Cmp.Lexicographic.{pointwise_decides}
use Rattle.rtl_bits.specs.declared.bit.Bit.{Bit}
use Rattle.rtl_bits.specs.declared.bit.Bit.TheVariants.{S0, S1, X, Z, M, Dash}
use Rattle.rtl_sig.specs.declared.sig.SigBit.{SigBit}
use Rattle.rtl_sig.specs.declared.sig.SigBit.TheVariants.{Fixed, Wire as OnWire}
use Rattle.rtl_ir.specs.Signals.{same_place, same_signal, same_value}

pub value_is : (a b : Bit) → same_value a b ≡ true → a ≡ b
value_is S0 S0 e = refl
value_is S1 S1 e = refl
value_is X X e = refl
value_is Z Z e = refl
value_is M M e = refl
value_is Dash Dash e = refl
value_is a b e = absurd (cc)

pub place_is : (a b : SigBit) → same_place a b ≡ true → a ≡ b
place_is (Fixed a) (Fixed b) e = ap Fixed (value_is a b e)
place_is (OnWire a) (OnWire b) e =
    let both = and_parts _ _ e in
    let wire : a.wire ≡ b.wire = eqb-true a.wire b.wire both.0 in
    let at : a.at ≡ b.at = eqb-true a.at b.at both.1 in
    λ i. OnWire (record { wire = wire i; at = at i })
place_is (Fixed a) (OnWire b) e = absurd (cc)
place_is (OnWire a) (Fixed b) e = absurd (cc)

pub signal_is : (a b : List SigBit) → same_signal a b ≡ true → a ≡ b
signal_is [] [] e = refl
signal_is [] (t ∷ b) e = absurd (cc)
signal_is (s ∷ a) [] e = absurd (cc)
signal_is (s ∷ a) (t ∷ b) e =
    let both = and_parts (same_place s t) (same_signal a b) e in
    let first : s ≡ t = place_is s t both.0 in
    let rest : a ≡ b = signal_is a b both.1 in
    λ i. first i ∷ rest i

value_own : (a : Bit) → same_value a a ≡ true
value_own S0 = refl
value_own S1 = refl
value_own X = refl
value_own Z = refl
value_own M = refl
value_own Dash = refl

place_own : (a : SigBit) → same_place a a ≡ true
place_own (Fixed a) = value_own a
place_own (OnWire a) = rw (eq-eqb a.wire a.wire refl, eq-eqb a.at a.at refl) refl

pub place-decides : (a b : SigBit) → Decides (same_place a b) (a ≡ b)
place-decides a b = (place_is a b, λ e. subst (λ c. same_place a c ≡ true) e (place_own a))

pub signal-decides : (a b : List SigBit) → Decides (same_signal a b) (a ≡ b)
signal-decides = pointwise_decides place-decides
