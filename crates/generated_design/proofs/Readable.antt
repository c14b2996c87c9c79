-- A generated design of few modules is one that a text can give.
use Rattle.std.proofs.Common.{◌≡◌, ℕ, zero, suc, ◌+◌, ◌%◌, ◌<◌, ◌≤◌, ◌^◌, List, [], ◌∷◌, ◌++◌, length, Some, refl, ◌∙◌, ap, sym, subst, arith}
use Rattle.std.specs.Prelude.{IsSomeAnd, codes, map, pos, slice_get}
use Rattle.std.specs.Fmt.{decimal}
use Rattle.std.specs.List.{All, IsDistinct, range_with_len}
use Rattle.std.proofs.lemmas.Bool.{lt-ltb}
use Rattle.std.proofs.lemmas.List.{length-map}
use Rattle.std.proofs.lemmas.List.Elements.{All-cons, All-nil}
use Rattle.std.proofs.lemmas.List.FromFn.{length-map-range_with_len, length-range_with_len}
use Rattle.rtl_sig.specs.declared.sig.SigBit.TheVariants.{Wire as OnWire}
use Rattle.rtl_ir.specs.Build.{integer_param, pin_of, whole}
use Rattle.rtl_ir.specs.Signals.{bits_of_wire}
use Rattle.rtl_ir.specs.declared.wire.Role.{Role}
use Rattle.rtl_ir.specs.declared.wire.Role.TheVariants.{Inner, Input, Output}
use Rattle.rtl_ir.specs.declared.wire.Wire.{Wire}
use Rattle.rtl_readable.specs.Readable.{AreAttributes, IsAttribute, IsBitOf, IsCell, IsCellParam, IsLink, IsName, IsParameter, IsPin, IsProcess, IsReadable, IsReadableModule, IsSignal, IsStore, IsWire}
use Rattle.generated_design.specs.Generate.{adder, generated, generated_module, register, registered_sum, wire, wires_of}
use Rattle.generated_design.proofs.Names.{name_is, names_distinct}

-- lists of two, three and five
module _ {A : Type 0} (P : A → Type 0) where
  two : (a b : A) → P a → P b → All P (a ∷ b ∷ [])
  two a b ha hb = All-cons P a (b ∷ []) ha (All-cons P b [] hb (All-nil P))

  three : (a b c : A) → P a → P b → P c → All P (a ∷ b ∷ c ∷ [])
  three a b c ha hb hc = All-cons P a (b ∷ c ∷ []) ha (two b c hb hc)

  five : (a b c d e : A) → P a → P b → P c → P d → P e → All P (a ∷ b ∷ c ∷ d ∷ e ∷ [])
  five a b c d e ha hb hc hd he = All-cons P a (b ∷ c ∷ d ∷ e ∷ []) ha (All-cons P b (c ∷ d ∷ e ∷ []) hb (three c d e hc hd he))

no_attributes : AreAttributes []
unfolding IsDistinct
no_attributes = record { each = All-nil IsAttribute; distinct = tt }

-- a wire of a few bits
port_is : (name : List ℕ) (width : ℕ) (role : Role) (number : ℕ) → IsName name → 0 < width → width ≤ 8 → number < 8 → (role ≡ Inner → number ≡ 0) → IsWire (wire name width role number)
port_is name width role number is some few low inner = record {
  name = is;
  some = some;
  width = omega (arith, few);
  offset = refl;
  number = lt-ltb number 2147483648 (omega (arith, low));
  inner = λ e. ap pos (inner e);
  attributes = no_attributes;
}

-- the whole signal of a wire
module _ (wires : List Wire) (at : ℕ) (w : Wire) (is : slice_get wires at ≡ Some w) where
  bits_from : (from n : ℕ) → from + n ≤ w.width → All (IsBitOf wires) (map OnWire (map (λ place. record { wire = at; at = place }) (range_with_len from n)))
  bits_from from zero h = All-nil (IsBitOf wires)
  bits_from from (suc n) h =
      let here : from < w.width = omega (arith, h) in
      All-cons (IsBitOf wires) (OnWire (record { wire = at; at = from })) _ (subst (λ o. IsSomeAnd o (λ (v : Wire). from < v.width)) (sym is) here) (bits_from (from + 1) n (omega (arith, h)))

  whole_is : (width : ℕ) → w.width ≡ width → width ≤ 8 → IsSignal wires (whole at width)
  whole_is width wide few = record {
    bits = bits_from 0 width (omega (arith, wide));
    width =
        let long : length (whole at width) ≡ width = length-map (bits_of_wire at width) OnWire ∙ length-map (range_with_len 0 width) (λ place. record { wire = at; at = place }) ∙ length-range_with_len 0 width in
        omega (arith, long, few);
  }

integer_is : (name : List ℕ) (n : ℕ) → IsName name → n ≤ 8 → IsCellParam (integer_param name n)
integer_is name n is few = record { name = is; value = lt-ltb n 2147483648 (omega (arith, few)) }

module _ (width : ℕ) (some : 0 < width) (few : width ≤ 8) where
  at_pin : (name : List ℕ) (at : ℕ) (w : Wire) (n : ℕ) → IsName name → slice_get (wires_of width) at ≡ Some w → w.width ≡ n → n ≤ 8 → IsPin (wires_of width) (pin_of name (whole at n))
  at_pin name at w n is here wide low = record { name = is; sig = whole_is (wires_of width) at w here n wide low }

  wires_are : All IsWire (wires_of width)
  wires_are =
      five IsWire _ _ _ _ _
      (port_is (codes "\\a") width Input 1 refl some few (omega arith) (λ e. absurd (cc)))
      (port_is (codes "\\b") width Input 2 refl some few (omega arith) (λ e. absurd (cc)))
      (port_is (codes "\\c") 1 Input 3 refl (omega arith) (omega arith) (omega arith) (λ e. absurd (cc)))
      (port_is (codes "\\y") width Output 4 refl some few (omega arith) (λ e. absurd (cc)))
      (port_is (codes "$s") width Inner 0 refl some few (omega arith) (λ e. refl))

  adder_is : IsCell (wires_of width) (adder width)
  unfolding IsDistinct
  adder_is = record {
    kind_name = refl;
    name = refl;
    params =
        five IsCellParam _ _ _ _ _
        (integer_is (codes "\\A_SIGNED") 0 refl (omega arith))
        (integer_is (codes "\\A_WIDTH") width refl few)
        (integer_is (codes "\\B_SIGNED") 0 refl (omega arith))
        (integer_is (codes "\\B_WIDTH") width refl few)
        (integer_is (codes "\\Y_WIDTH") width refl few);
    distinct_params = ((refl, (refl, (refl, (refl, tt)))), ((refl, (refl, (refl, tt))), ((refl, (refl, tt)), ((refl, tt), (tt, tt)))));
    pins =
        three (IsPin (wires_of width)) _ _ _
        (at_pin (codes "\\A") 0 _ width refl refl refl few)
        (at_pin (codes "\\B") 1 _ width refl refl refl few)
        (at_pin (codes "\\Y") 4 _ width refl refl refl few);
    distinct_pins = ((refl, (refl, tt)), ((refl, tt), (tt, tt)));
    attributes = no_attributes;
  }

  register_is : IsCell (wires_of width) (register width)
  unfolding IsDistinct
  register_is = record {
    kind_name = refl;
    name = refl;
    params = two IsCellParam _ _ (integer_is (codes "\\WIDTH") width refl few) (integer_is (codes "\\CLK_POLARITY") 1 refl (omega arith));
    distinct_params = ((refl, tt), (tt, tt));
    pins =
        three (IsPin (wires_of width)) _ _ _
        (at_pin (codes "\\CLK") 2 _ 1 refl refl refl (omega arith))
        (at_pin (codes "\\D") 4 _ width refl refl refl few)
        (at_pin (codes "\\Q") 3 _ width refl refl refl few);
    distinct_pins = ((refl, (refl, tt)), ((refl, tt), (tt, tt)));
    attributes = no_attributes;
  }

  sum_is : (id : List ℕ) → IsName id → IsReadableModule (registered_sum id width)
  unfolding IsDistinct
  sum_is id is = record {
    id = is;
    attributes = no_attributes;
    parameters = All-nil IsParameter;
    wires = wires_are;
    memories = All-nil IsStore;
    cells = two (IsCell (wires_of width)) _ _ adder_is register_is;
    processes = All-nil (IsProcess (wires_of width));
    links = All-nil (IsLink (wires_of width));
    distinct = (
      (refl, (refl, (refl, (refl, (refl, (refl, tt)))))),
      (
        (refl, (refl, (refl, (refl, (refl, tt))))),
        ((refl, (refl, (refl, (refl, tt)))), ((refl, (refl, (refl, tt))), ((refl, (refl, tt)), ((refl, tt), (tt, tt))))),
      ),
    );
    bits = omega (arith, few);
    count = omega arith;
  }

module_is : (n : ℕ) → n < 2 ^ 64 → IsReadableModule (generated_module n)
module_is n few = sum_is (n % 8 + 1) (omega arith) (omega arith) (codes "\\g" ++ decimal n) (name_is n few)

modules_are : (from n : ℕ) → from + n ≤ 2 ^ 64 → All IsReadableModule (map generated_module (range_with_len from n))
modules_are from zero few = All-nil IsReadableModule
modules_are from (suc n) few =
    All-cons IsReadableModule (generated_module from) _ (module_is from (omega (arith, few))) (modules_are (from + 1) n (omega (arith, few)))

pub can_be_read : (count : ℕ) → count ≤ 4096 → IsReadable (generated count)
can_be_read count few = record {
  modules = modules_are 0 count (omega (arith, few));
  distinct = names_distinct 0 count (omega (arith, few));
  count = omega (arith, few, length-map-range_with_len generated_module 0 count);
}
