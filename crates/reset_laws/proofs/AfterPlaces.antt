-- Which updated bits the reset sets, and to which constants.
use Rattle.std.proofs.Common.{◌≡◌, Bool, true, false, List, [], ◌∷◌, ◌++◌, Some, None, inl, inr, refl, sym, ◌∙◌, ap, subst}
use Rattle.std.specs.Prelude.{if◌then◌else◌, map, take}
use Rattle.std.specs.List.{list_all}
use Rattle.std.proofs.lemmas.Bool.{and_parts}
use Rattle.rtl_bits.specs.declared.bit.Bit.{Bit}
use Rattle.rtl_sig.specs.declared.sig.SigBit.{SigBit}
use Rattle.rtl_sig.specs.declared.sig.SigBit.TheVariants.{Fixed, Wire as OnWire}
use Rattle.rtl_sig.specs.declared.sig.WireBit.{WireBit}
use Rattle.rtl_ir.specs.EventTests.{is_bit}
use Rattle.rtl_ir.specs.Faults.TwoEdges.{are_all, are_one_constant, is_value}
use Rattle.rtl_ir.specs.Follow.{source_at}
use Rattle.rtl_ir.specs.declared.follow.Join.{Join}
use Rattle.rtl_ir.specs.Signals.{same_bit}
use Rattle.net_model.proofs.Members.{In-map, apart_at}
use Rattle.net_model.specs.Lists.{Apart, Distinct, In}
use Rattle.net_model.specs.Proc.Reset.{reset_places}
use Rattle.follow_laws.proofs.Following.{same_bit-same}
use Rattle.pass_laws.proofs.Once.{same_bit-refl}
use Rattle.rtl_ir.proofs.SamePlaces.{value_is}

pub all_in : {A : Type 0} (test : A → Bool) (xs : List A) → list_all test xs ≡ true → (x : A) → In x xs → test x ≡ true
all_in test [] e x i = absurd i
all_in test (y ∷ xs) e x (inl f) = ap test f ∙ (and_parts (test y) (list_all test xs) e).0
all_in test (y ∷ xs) e x (inr i) = all_in test xs (and_parts (test y) (list_all test xs) e).1 x i

-- leaves of one constant
pub record IsConstant (leaves : List SigBit) : Type 0 where
  pub value : Bit
  pub rest : List SigBit
  pub first : leaves ≡ Fixed value ∷ rest
  pub all : (s : SigBit) → In s leaves → s ≡ Fixed value

pub constant_leaves : (leaves : List SigBit) → are_one_constant leaves ≡ true → IsConstant leaves
constant_leaves [] e = absurd (cc)
constant_leaves (OnWire b ∷ leaves) e = absurd (cc)
constant_leaves (Fixed c ∷ leaves) e = record { value = c; rest = leaves; first = refl; all = all }
  where
    is : (s : SigBit) → is_value c s ≡ true → s ≡ Fixed c
    is (Fixed d) f = ap Fixed (sym (value_is c d f))
    is (OnWire b) f = absurd (cc)

    all : (s : SigBit) → In s (Fixed c ∷ leaves) → s ≡ Fixed c
    all s (inl f) = f
    all s (inr i) = is s (all_in (is_value c) leaves e s i)

-- leaves that are all a bit
pub own_leaves : (q : WireBit) (leaves : List SigBit) → are_all q leaves ≡ true → (s : SigBit) → In s leaves → s ≡ OnWire q
own_leaves q leaves e s i = is s (all_in (is_bit q) leaves e s i)
  where
    is : (s : SigBit) → is_bit q s ≡ true → s ≡ OnWire q
    is (Fixed c) f = absurd (cc)
    is (OnWire b) f = ap OnWire (same_bit-same b q f)

apart_bits : (a b : WireBit) → (a ≡ b → ⊥) → same_bit a b ≡ false
apart_bits a b h = by (same_bit a b) refl
  where
    by : (t : Bool) → same_bit a b ≡ t → t ≡ false
    by false e = refl
    by true e = absurd (h (same_bit-same a b e))

module _ (leaves : Join → List SigBit) where
  abbrev places : List Join → List Join
  places js = reset_places leaves js

  abbrev here : Join → List Join
  here j = map (λ s. record { bit = j.bit; source = s }) (take 1 (leaves j))

  -- a bit that is not among these has no place
  none_at : (js : List Join) (b : WireBit) → Apart b (map (λ (j : Join). j.bit) js) → source_at (places js) b ≡ None
  none_at [] b h = refl
  none_at (j ∷ js) b h = by (are_one_constant (leaves j)) (none_at js b h.1)
    where
      first : source_at (places js) b ≡ None → (ls : List SigBit) → source_at (map (λ s. record { bit = j.bit; source = s }) (take 1 ls) ++ places js) b ≡ None
      first e [] = e
      first e (s ∷ ls) = ap (λ t. if t then Some s else source_at (places js) b) (apart_bits j.bit b (λ f. h.0 (sym f))) ∙ e

      by : (t : Bool) → source_at (places js) b ≡ None → source_at (if t then here j ++ places js else places js) b ≡ None
      by true e = first e (leaves j)
      by false e = e

  behind : (j k : Join) (js : List Join) → same_bit j.bit k.bit ≡ false → source_at (places (j ∷ js)) k.bit ≡ source_at (places js) k.bit
  behind j k js apart = by (are_one_constant (leaves j))
    where
      first : (ls : List SigBit) → source_at (map (λ s. record { bit = j.bit; source = s }) (take 1 ls) ++ places js) k.bit ≡ source_at (places js) k.bit
      first [] = refl
      first (s ∷ ls) = ap (λ t. if t then Some s else source_at (places js) k.bit) apart

      by : (t : Bool) → source_at (if t then here j ++ places js else places js) k.bit ≡ source_at (places js) k.bit
      by true = first (leaves j)
      by false = refl

  -- what the reset's rule gives to a bit
  pub set_at : (js : List Join) → Distinct (map (λ (j : Join). j.bit) js) → (j : Join) → In j js → (is : IsConstant (leaves j)) → are_one_constant (leaves j) ≡ true → source_at (places js) j.bit ≡ Some (Fixed is.value)
  set_at [] u j i is e = absurd i
  set_at (k ∷ js) u j (inl f) is e =
      subst (λ z. source_at (places (z ∷ js)) j.bit ≡ Some (Fixed is.value)) f
      (ap (λ t. source_at (if t then here j ++ places js else places js) j.bit) e
      ∙ ap (λ ls. source_at (map (λ s. record { bit = j.bit; source = s }) (take 1 ls) ++ places js) j.bit) is.first
      ∙ ap (λ t. if t then Some (Fixed is.value) else source_at (places js) j.bit) (same_bit-refl j.bit))
  set_at (k ∷ js) u j (inr i) is e =
      behind k j js (apart_bits k.bit j.bit (apart_at k.bit (map (λ (z : Join). z.bit) js) u.0 j.bit (In-map (λ (z : Join). z.bit) j js i)))
      ∙ set_at js u.1 j i is e

  pub unset_at : (js : List Join) → Distinct (map (λ (j : Join). j.bit) js) → (j : Join) → In j js → are_one_constant (leaves j) ≡ false → source_at (places js) j.bit ≡ None
  unset_at [] u j i e = refl
  unset_at (k ∷ js) u j (inl f) e =
      subst (λ z. source_at (places (z ∷ js)) j.bit ≡ None) f
      (ap (λ t. source_at (if t then here j ++ places js else places js) j.bit) e ∙ none_at js j.bit (subst (λ z. Apart z.bit (map (λ (y : Join). y.bit) js)) (sym f) u.0))
  unset_at (k ∷ js) u j (inr i) e =
      behind k j js (apart_bits k.bit j.bit (apart_at k.bit (map (λ (z : Join). z.bit) js) u.0 j.bit (In-map (λ (z : Join). z.bit) j js i)))
      ∙ unset_at js u.1 j i e
