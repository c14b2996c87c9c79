-- Lists of bits that `==` finds the same are equal.
use Rattle.std.proofs.Common.{◌≡◌, true, List, true≢false, refl, sym, subst}
use Rattle.std.proofs.lemmas.Slice.Eq.{slice_eq-Decides}
use Rattle.std.specs.Cmp.Lexicographic.{pointwise}
use Rattle.rtl_bits.specs.declared.bit.Bit.{Bit}
use Rattle.rtl_bits.specs.declared.bit.Bit.TheVariants.{S0, S1, X, Z, M, Dash}
use Rattle.rtl_bits.specs.contracts.bit.BitPartialEq.TheImpl.{eq-value}

pub equal : (a b : Bit) → eq-value.it a b ≡ true → a ≡ b
equal S0 S0 e = refl
equal S1 S1 e = refl
equal X X e = refl
equal Z Z e = refl
equal M M e = refl
equal Dash Dash e = refl
equal a b e = absurd (true≢false (sym e))

itself : (a : Bit) → eq-value.it a a ≡ true
itself S0 = refl
itself S1 = refl
itself X = refl
itself Z = refl
itself M = refl
itself Dash = refl

pub equal_bits : (a b : List Bit) → pointwise eq-value.it a b ≡ true → a ≡ b
equal_bits a b e =
    (slice_eq-Decides (λ (x y : Bit). (equal x y, λ (s : x ≡ y). subst (λ z. eq-value.it x z ≡ true) s (itself x))) a b true (sym e)).0 refl
