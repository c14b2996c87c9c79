-- Keys are the same where signals are.
use Rattle.std.proofs.Common.{◌≡◌, ℕ, ◌+◌, Bool, true, false, List, [], ◌∷◌, refl, ◌∙◌, ap, arith}
use Rattle.std.specs.Prelude.{◌&&◌, ◌==◌}
use Rattle.std.specs.Str.{bytes_eq}
use Rattle.std.proofs.lemmas.Bool.Decides.{nat_tests}
use Rattle.rtl_bits.specs.declared.bit.Bit.{Bit}
use Rattle.rtl_bits.specs.declared.bit.Bit.TheVariants.{S0, S1, X, Z, M, Dash}
use Rattle.rtl_sig.specs.declared.sig.SigBit.{SigBit}
use Rattle.rtl_sig.specs.declared.sig.SigBit.TheVariants.{Fixed, Wire as OnWire}
use Rattle.rtl_ir.specs.Signals.{same_signal, same_value}
use Rattle.fsm_parts.specs.SignalTable.{bit_number, key_of}

number_same : (a b : Bit) → (bit_number a == bit_number b) ≡ same_value a b
number_same S0 S0 = refl
number_same S0 S1 = refl
number_same S0 X = refl
number_same S0 Z = refl
number_same S0 M = refl
number_same S0 Dash = refl
number_same S1 S0 = refl
number_same S1 S1 = refl
number_same S1 X = refl
number_same S1 Z = refl
number_same S1 M = refl
number_same S1 Dash = refl
number_same X S0 = refl
number_same X S1 = refl
number_same X X = refl
number_same X Z = refl
number_same X M = refl
number_same X Dash = refl
number_same Z S0 = refl
number_same Z S1 = refl
number_same Z X = refl
number_same Z Z = refl
number_same Z M = refl
number_same Z Dash = refl
number_same M S0 = refl
number_same M S1 = refl
number_same M X = refl
number_same M Z = refl
number_same M M = refl
number_same M Dash = refl
number_same Dash S0 = refl
number_same Dash S1 = refl
number_same Dash X = refl
number_same Dash Z = refl
number_same Dash M = refl
number_same Dash Dash = refl

one_more : (a b : ℕ) → ((a + 1) == (b + 1)) ≡ (a == b)
one_more a b = grind (arith, nat_tests)

none_more : (a : ℕ) → (0 == (a + 1)) ≡ false
none_more a = grind (arith, nat_tests)

more_none : (a : ℕ) → ((a + 1) == 0) ≡ false
more_none a = grind (arith, nat_tests)

and_assoc : (a b c : Bool) → (a && (b && c)) ≡ ((a && b) && c)
and_assoc true b c = refl
and_assoc false b c = refl

pub key_same : (as' bs : List SigBit) → bytes_eq (key_of as') (key_of bs) ≡ same_signal as' bs
key_same [] [] = refl
key_same [] (Fixed b ∷ bs) = refl
key_same [] (OnWire b ∷ bs) = refl
key_same (Fixed a ∷ as') [] = refl
key_same (OnWire a ∷ as') [] = refl
key_same (Fixed a ∷ as') (Fixed b ∷ bs) = (λ i. number_same a b i && key_same as' bs i)
key_same (Fixed a ∷ as') (OnWire b ∷ bs) = ap (λ t. t && ((bit_number a == b.at) && bytes_eq (key_of as') (key_of bs))) (none_more b.wire)
key_same (OnWire a ∷ as') (Fixed b ∷ bs) = ap (λ t. t && ((a.at == bit_number b) && bytes_eq (key_of as') (key_of bs))) (more_none a.wire)
key_same (OnWire a ∷ as') (OnWire b ∷ bs) = (λ i. one_more a.wire b.wire i && ((a.at == b.at) && key_same as' bs i)) ∙ and_assoc (a.wire == b.wire) (a.at == b.at) (same_signal as' bs)
