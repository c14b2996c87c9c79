-- The test of traits says whether they are equal.
use Rattle.std.proofs.Common.{◌≡◌, true, ◌&&◌, ◌==◌, List, refl, ap}
use Rattle.std.specs.Bool.{Decides}
use Rattle.std.specs.Cmp.Lexicographic.{pointwise}
use Rattle.std.specs.Str.{bytes_eq}
use Rattle.std.proofs.lemmas.Bool.{and_parts, eqb-true, eq-eqb}
use Rattle.std.proofs.lemmas.Slice.Eq.{bytes_eq-Decides, slice_eq-Decides}
use Rattle.rtl_bits.specs.declared.bit.Bit.{Bit}
use Rattle.rtl_bits.specs.declared.bit.Bit.TheVariants.{S0, S1, X, Z, M, Dash}
use Rattle.rtl_sig.specs.declared.sig.SigBit.{SigBit}
use Rattle.rtl_sig.specs.declared.sig.SigBit.TheVariants.{Fixed, Wire as OnWire}
use Rattle.rtl_sig.specs.declared.sig.WireBit.{WireBit}
use Rattle.rtl_ir.specs.Signals.{same_place, same_signal, same_value}
use Rattle.opt_merge.specs.Traits.{Traits, bit_number, same_traits}
use Rattle.opt_merge.proofs.Numbers.{bit_inj}

by_number : (a b : Bit) → same_value a b ≡ (bit_number a == bit_number b)
by_number S0 S0 = refl
by_number S0 S1 = refl
by_number S0 X = refl
by_number S0 Z = refl
by_number S0 M = refl
by_number S0 Dash = refl
by_number S1 S0 = refl
by_number S1 S1 = refl
by_number S1 X = refl
by_number S1 Z = refl
by_number S1 M = refl
by_number S1 Dash = refl
by_number X S0 = refl
by_number X S1 = refl
by_number X X = refl
by_number X Z = refl
by_number X M = refl
by_number X Dash = refl
by_number Z S0 = refl
by_number Z S1 = refl
by_number Z X = refl
by_number Z Z = refl
by_number Z M = refl
by_number Z Dash = refl
by_number M S0 = refl
by_number M S1 = refl
by_number M X = refl
by_number M Z = refl
by_number M M = refl
by_number M Dash = refl
by_number Dash S0 = refl
by_number Dash S1 = refl
by_number Dash X = refl
by_number Dash Z = refl
by_number Dash M = refl
by_number Dash Dash = refl

value_decides : (a b : Bit) → Decides (same_value a b) (a ≡ b)
value_decides a b = (
  λ e. bit_inj a b (eqb-true (bit_number a) (bit_number b) (rw (← by_number a b) e)),
  λ e. rw (by_number a b) (eq-eqb (bit_number a) (bit_number b) (ap bit_number e)),
)

place_decides : (a b : SigBit) → Decides (same_place a b) (a ≡ b)
place_decides (Fixed a) (Fixed b) = let d = value_decides a b in (λ e. ap Fixed (d.0 e), λ e. d.1 (let same : a ≡ b = cc in same))
place_decides (Fixed a) (OnWire b) = (λ e. absurd (cc), λ e. absurd (cc))
place_decides (OnWire a) (Fixed b) = (λ e. absurd (cc), λ e. absurd (cc))
place_decides (OnWire a) (OnWire b) = (
  λ e. (let p = and_parts (a.wire == b.wire) (a.at == b.at) e in
      let wire = eqb-true a.wire b.wire p.0 in
      let at = eqb-true a.at b.at p.1 in
      (λ i. OnWire (record { wire = wire i; at = at i }))),
  λ e. (let same : a ≡ b = cc in
      rw (eq-eqb a.wire b.wire (ap (λ (c : WireBit). c.wire) same), eq-eqb a.at b.at (ap (λ (c : WireBit). c.at) same)) refl),
)

signal_decides : (a b : List SigBit) → Decides (same_signal a b) (a ≡ b)
signal_decides a b = slice_eq-Decides place_decides a b (same_signal a b) refl

pub same-true : (a b : Traits) → same_traits a b ≡ true → a ≡ b
same-true a b e =
    let one = and_parts (bytes_eq a.type b.type && pointwise bytes_eq a.params b.params && a.width == b.width && pointwise same_signal a.inputs b.inputs) (pointwise same_value a.starts b.starts) e in
    let two = and_parts (bytes_eq a.type b.type && pointwise bytes_eq a.params b.params && a.width == b.width) (pointwise same_signal a.inputs b.inputs) one.0 in
    let three = and_parts (bytes_eq a.type b.type && pointwise bytes_eq a.params b.params) (a.width == b.width) two.0 in
    let four = and_parts (bytes_eq a.type b.type) (pointwise bytes_eq a.params b.params) three.0 in
    let type = (bytes_eq-Decides a.type b.type).0 four.0 in
    let params = (slice_eq-Decides bytes_eq-Decides a.params b.params (pointwise bytes_eq a.params b.params) refl).0 four.1 in
    let width = eqb-true a.width b.width three.1 in
    let inputs = (slice_eq-Decides signal_decides a.inputs b.inputs (pointwise same_signal a.inputs b.inputs) refl).0 two.1 in
    let starts = (slice_eq-Decides value_decides a.starts b.starts (pointwise same_value a.starts b.starts) refl).0 one.1 in
    (λ i. record { type = type i; params = params i; width = width i; inputs = inputs i; starts = starts i })

pub same-refl : (a : Traits) → same_traits a a ≡ true
same-refl a =
    rw (
      (bytes_eq-Decides a.type a.type).1 refl,
      (slice_eq-Decides bytes_eq-Decides a.params a.params (pointwise bytes_eq a.params a.params) refl).1 refl,
      eq-eqb a.width a.width refl,
      (slice_eq-Decides signal_decides a.inputs a.inputs (pointwise same_signal a.inputs a.inputs) refl).1 refl,
      (slice_eq-Decides value_decides a.starts a.starts (pointwise same_value a.starts a.starts) refl).1 refl,
    ) refl
