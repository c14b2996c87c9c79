-- The tables of a list in which each bit stands once, where a bit goes last.
use Rattle.std.proofs.Common.{◌≡◌, Bool, true, false, cond, List, [], ◌∷◌, ◌++◌, refl, sym, ◌∙◌, ap, subst}
use Rattle.std.specs.Prelude.{◌||◌, ◌&&◌}
use Rattle.std.specs.HashSet.{contains}
use Rattle.std.specs.List.{list_any}
use Rattle.std.proofs.lemmas.Bool.{eq-eqb}
use Rattle.rtl_bits.specs.declared.bit.Bit.{Bit}
use Rattle.rtl_sig.specs.declared.sig.SigBit.TheVariants.{Fixed, Wire as OnWire}
use Rattle.rtl_sig.specs.declared.sig.WireBit.{WireBit}
use Rattle.rtl_ir.specs.Signals.{same_bit, same_place, same_value}
use Rattle.pass_laws.proofs.SamePlaces.{place_is}
use Rattle.opt_more.specs.Gather.{AreSeen}
use Rattle.opt_more.specs.declared.gather.Gathered.{Gathered}

any_more : {A : Type 0} (test : A → Bool) (xs : List A) (x : A) → list_any test (xs ++ x ∷ []) ≡ (list_any test xs || test x)
any_more test [] x = by (test x)
  where
    by : (t : Bool) → (t || false) ≡ t
    by true = refl
    by false = refl
any_more test (y ∷ xs) x = by (test y) (any_more test xs x)
  where
    by : (t : Bool) → list_any test (xs ++ x ∷ []) ≡ (list_any test xs || test x) → (t || list_any test (xs ++ x ∷ [])) ≡ ((t || list_any test xs) || test x)
    by true later = refl
    by false later = later

or_false : (t : Bool) → (t || false) ≡ t
or_false true = refl
or_false false = refl

both_ways : (a b : Bool) → (a ≡ true → b ≡ true) → (b ≡ true → a ≡ true) → a ≡ b
both_ways true b h k = sym (h refl)
both_ways false true h k = k refl
both_ways false false h k = refl

bit_self : (a : WireBit) → same_bit a a ≡ true
bit_self a = (λ i. eq-eqb a.wire a.wire refl i && eq-eqb a.at a.at refl i)

turned : (a b : WireBit) → same_bit a b ≡ true → same_bit b a ≡ true
turned a b e =
    let same : OnWire a ≡ OnWire b = place_is (OnWire a) (OnWire b) e in
    subst (λ z. same_place z (OnWire a) ≡ true) same (bit_self a)

bit_sym : (a b : WireBit) → same_bit a b ≡ same_bit b a
bit_sym a b = both_ways (same_bit a b) (same_bit b a) (turned a b) (turned b a)

module _ (old new : Gathered) (seen : AreSeen old) where
  -- a constant
  pub with_constant : (value : Bit) → new.bits ≡ old.bits ++ Fixed value ∷ [] → new.constants.items ≡ old.constants.items ++ value ∷ [] → new.wires ≡ old.wires → AreSeen new
  with_constant value bits constants wires = record {
    wires = λ b.
        ap (λ z. contains same_bit z b) wires ∙ seen.wires b ∙ sym (ap (list_any (same_place (OnWire b))) bits ∙ any_more (same_place (OnWire b)) old.bits (Fixed value) ∙ or_false (list_any (same_place (OnWire b)) old.bits));
    constants = λ c.
        ap (list_any (same_value c)) constants
        ∙ any_more (same_value c) old.constants.items value
        ∙ ap (λ z. z || same_value c value) (seen.constants c)
        ∙ sym (ap (list_any (same_place (Fixed c))) bits ∙ any_more (same_place (Fixed c)) old.bits (Fixed value));
  }

  -- a bit of a wire
  pub with_wire : (bit : WireBit) → new.bits ≡ old.bits ++ OnWire bit ∷ [] → new.constants ≡ old.constants → ((b : WireBit) → contains same_bit new.wires b ≡ cond (same_bit bit b) true (contains same_bit old.wires b)) → AreSeen new
  with_wire bit bits constants wires = record {
    wires = λ b.
        wires b
        ∙ by (same_bit bit b) (contains same_bit old.wires b)
        ∙ (λ i. seen.wires b i || bit_sym bit b i)
        ∙ sym (ap (list_any (same_place (OnWire b))) bits ∙ any_more (same_place (OnWire b)) old.bits (OnWire bit));
    constants = λ c.
        ap (λ z. list_any (same_value c) z.items) constants ∙ seen.constants c ∙ sym (ap (list_any (same_place (Fixed c))) bits ∙ any_more (same_place (Fixed c)) old.bits (OnWire bit) ∙ or_false (list_any (same_place (Fixed c)) old.bits));
  }
    where
      by : (t u : Bool) → cond t true u ≡ (u || t)
      by true true = refl
      by true false = refl
      by false true = refl
      by false false = refl
