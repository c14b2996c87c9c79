-- Bits that nothing reads are none of a port.
use Rattle.std.proofs.Common.{◌≡◌, ℕ, zero, suc, ◌+◌, ◌<◌, true, false, List, [], ◌∷◌, Option, Some, None, inl, inr, refl, sym, ◌∙◌, ap, subst, arith}
use Rattle.std.specs.Prelude.{IsSomeAnd, if◌then◌else◌, map, slice_get}
use Rattle.std.specs.List.{range_with_len}
use Rattle.rtl_ir.specs.Ports.{is_port, line_of, ports_of}
use Rattle.rtl_ir.specs.declared.ports.PortLine.{PortLine}
use Rattle.rtl_ir.specs.declared.wire.Wire.{Wire}
use Rattle.net_model.specs.Lists.{In, Distinct}
use Rattle.net_model.proofs.Members.{In-left, In-map, In-right}
use Rattle.rtl_ir.specs.Faults.Wires.{is_inout}
use Rattle.rtl_sig.specs.declared.sig.SigBit.TheVariants.{Wire as OnWire}
use Rattle.rtl_sig.specs.declared.sig.WireBit.{WireBit}
use Rattle.rtl_ir.specs.Flat.Place.{IsOf, OfWire}
use Rattle.rtl_ir.specs.Flat.Point.{name_or_empty}
use Rattle.rtl_ir.specs.Outputs.{is_output}
use Rattle.rtl_ir.specs.Signals.{bits_of_wire}
use Rattle.rtl_ir.specs.declared.module.Module.{Module}
use Rattle.rtl_ir.specs.declared.wire.Role.{Role}
use Rattle.rtl_ir.specs.declared.wire.Role.TheVariants.{Inner, Input, Output, Inout}
use Rattle.net_model.specs.Proc.Reset.{output_bits}
use Rattle.proc_laws.specs.Ready.{IsBitOf}
use Rattle.reset_laws.proofs.FrameStep.{IsNone, spot_of}
use Rattle.pass_laws.proofs.Ports.{same_item, line_port}
use Rattle.pass_laws.proofs.Finding.{in_place}

-- the bits of output ports
in_range : (a n k : ℕ) → k < n → In (a + k) (range_with_len a n)
in_range a zero k h = absurd (omega arith)
in_range a (suc n) zero h = let e : a + 0 ≡ a = omega arith in inl e
in_range a (suc n) (suc k) h =
    let e : (a + 1) + k ≡ a + suc k = omega arith in
    let lt : k < n = omega arith in
    inr (subst (λ z. In z (range_with_len (a + 1) n)) e (in_range (a + 1) n k lt))

output_in : (first : ℕ) (ws : List Wire) (k : ℕ) (w : Wire) → slice_get ws k ≡ Some w → is_output w.role ≡ true → (at : ℕ) → at < w.width → In (record { wire = first + k; at = at }) (output_bits first ws)
output_in first [] k w e o at h = absurd (cc)
output_in first (v ∷ ws) zero w e o at h =
    let same : w ≡ v = cc in
    let z : first ≡ first + 0 = omega arith in
    let y : 0 + at ≡ at = omega arith in
    let width : at < v.width = subst (λ (x : Wire). at < x.width) same h in
    let there : In at (range_with_len 0 v.width) = subst (λ x. In x (range_with_len 0 v.width)) y (in_range 0 v.width at width) in
    let bit : In (record { wire = first; at = at }) (bits_of_wire first v.width) = In-map (λ x. record { wire = first; at = x }) at (range_with_len 0 v.width) there in
    let role : is_output v.role ≡ true = ap (λ (x : Wire). is_output x.role) (sym same) ∙ o in
    subst (λ x. In (record { wire = x; at = at }) (output_bits first (v ∷ ws))) z
    (In-left (record { wire = first; at = at }) (if is_output v.role then bits_of_wire first v.width else []) (output_bits (first + 1) ws) (subst (λ t. In (record { wire = first; at = at }) (if t then bits_of_wire first v.width else [])) (sym role) bit))
output_in first (v ∷ ws) (suc k) w e o at h =
    let z : (first + 1) + k ≡ first + suc k = omega arith in
    subst (λ x. In (record { wire = x; at = at }) (output_bits first (v ∷ ws))) z
    (In-right (record { wire = (first + 1) + k; at = at }) (if is_output v.role then bits_of_wire first v.width else []) (output_bits (first + 1) ws) (output_in (first + 1) ws k w e o at h))

-- bits that no output port shows, and that no input port gives, are bits of no port
module _ (m : Module) (gone : List WireBit) (named : Distinct (map (λ (w : Wire). w.name) m.wires)) (has : (b : WireBit) → In b gone → IsBitOf m.wires (OnWire b)) (hidden : (b : WireBit) → In b gone → In b (output_bits 0 m.wires) → ⊥) (given : (b : WireBit) → In b gone → (n : PortLine) → In n (ports_of m.wires) → n.role ≡ Input → IsOf n.name (spot_of m b) → ⊥) (one_way : (w : Wire) → In w m.wires → is_inout w.role ≡ false) where
  pub ports_clear : (n : PortLine) → In n (ports_of m.wires) → (at : ℕ) → IsNone m gone (OfWire n.name at)
  ports_clear n i at b j e =
      by (slice_get m.wires b.wire) refl (has b j)
    where
      z : (w : Wire) × In w m.wires × (is_port w.role ≡ true) × (n ≡ line_of w)
      z = line_port m.wires n i

      role_of : (w : Wire) → slice_get m.wires b.wire ≡ Some w → b.at < w.width → w ≡ z.0 → (r : Role) → w.role ≡ r → ⊥
      role_of w f h same Inner g = absurd (let no : true ≡ false = sym z.2 ∙ ap (λ (x : Wire). is_port x.role) (sym same) ∙ ap is_port g in cc)
      role_of w f h same Input g =
          given b j n i (ap (λ (x : PortLine). x.role) z.3 ∙ ap (λ (x : Wire). x.role) (sym same) ∙ g) (at, sym e ∙ own)
        where
          own : OfWire n.name at ≡ OfWire n.name at
          own = refl
      role_of w f h same Output g =
          let zero_wire : 0 + b.wire ≡ b.wire = omega arith in
          hidden b j (subst (λ x. In (record { wire = x; at = b.at }) (output_bits 0 m.wires)) zero_wire (output_in 0 m.wires b.wire w f (ap is_output g) b.at h))
      role_of w f h same Inout g =
          absurd (let no : true ≡ false = sym (ap is_inout g) ∙ one_way w (in_place m.wires b.wire w f) in cc)

      by : (o : Option Wire) → slice_get m.wires b.wire ≡ o → IsSomeAnd o (λ w. b.at < w.width) → ⊥
      by None f h = h
      by (Some w) f h =
          let spots : OfWire n.name at ≡ OfWire w.name b.at = e ∙ ap (λ o. OfWire (name_or_empty o) b.at) f in
          let names : n.name ≡ w.name = cc in
          let same : w ≡ z.0 = same_item (λ (x : Wire). x.name) m.wires named w z.0 (in_place m.wires b.wire w f) z.1 (sym names ∙ ap (λ (x : PortLine). x.name) z.3) in
          role_of w f h same w.role refl
