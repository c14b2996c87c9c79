-- Gates for each bit of an output are such as a text can give.
use Rattle.std.proofs.Common.{◌≡◌, ℕ, zero, suc, ◌-◌, Bool, true, false, List, [], ◌∷◌, length, refl}
use Rattle.std.specs.Prelude.{slice_get, slice_index_or, unwrap_or}
use Rattle.std.specs.List.{All}
use Rattle.std.proofs.lemmas.List.Elements.{All-head, All-nil, All-tail}
use Rattle.cell_types.specs.declared.gate.GateKind.{GateKind}
use Rattle.cell_types.specs.declared.gate.GateKind.TheVariants as Kind
use Rattle.cell_types.specs.declared.pin_name.PinName.TheVariants.{A, B, S, Y}
use Rattle.rtl_bits.specs.declared.bit.Bit.TheVariants.{S0}
use Rattle.rtl_sig.specs.Signal.{fill_of}
use Rattle.rtl_sig.specs.declared.sig.SigBit.{SigBit}
use Rattle.rtl_sig.specs.declared.sig.SigBit.TheVariants.{Fixed}
use Rattle.rtl_ir.specs.Build.{Building, new_cell}
use Rattle.rtl_ir.specs.declared.cell.Pin.{Pin}
use Rattle.rtl_ir.specs.declared.wire.Wire.{Wire}
use Rattle.net_index.specs.BuilderNames.{gate_name}
use Rattle.rtl_readable.specs.Readable.{IsBitOf, IsCellParam, IsName, IsPin}
use Rattle.readable_laws.specs.Extends.{Extends}
use Rattle.readable_laws.proofs.Cells.{apart_distinct, are_apart}
use Rattle.readable_laws.proofs.Extending.{IsNewCell, extends_both, extends_cell, extends_none}
use Rattle.gate_nets.specs.Gate.{one}
use Rattle.map_gates.specs.Bitwise.{binary_gates, bwmux_gates, mux_gates, unary_gates}
use Rattle.map_gates.specs.Gates.{bit_at, each_bit}
use Rattle.readable_maps.proofs.Nets.{four_are, gate_is_name, pin_names, three_are, two_are}

-- a bit of a signal, or another one past its end
module _ (wires : List Wire) where
  pub at_is : (d : SigBit) → IsBitOf wires d → (bits : List SigBit) (at : ℕ) → All (IsBitOf wires) bits → IsBitOf wires (slice_index_or bits at d)
  at_is d h [] at all = h
  at_is d h (b ∷ bits) zero all = All-head (IsBitOf wires) b bits all
  at_is d h (b ∷ bits) (suc at) all = at_is d h bits at (All-tail (IsBitOf wires) b bits all)

  got_is : (bits : List SigBit) (at : ℕ) → All (IsBitOf wires) bits → IsBitOf wires (unwrap_or (slice_get bits at) (Fixed S0))
  got_is [] at all = tt
  got_is (b ∷ bits) zero all = All-head (IsBitOf wires) b bits all
  got_is (b ∷ bits) (suc at) all = got_is bits at (All-tail (IsBitOf wires) b bits all)

  fill_is : (signed : Bool) (bits : List SigBit) → All (IsBitOf wires) bits → IsBitOf wires (fill_of bits signed)
  fill_is true bits all = got_is bits (length bits - 1) all
  fill_is false bits all = tt

  pub bit_is : (signed : Bool) (bits : List SigBit) (at : ℕ) → All (IsBitOf wires) bits → IsBitOf wires (bit_at signed bits at)
  bit_is signed bits at all = at_is (fill_of bits signed) (fill_is signed bits all) bits at all

-- a cell of a type, with pins over wires
pub record IsReadableGate (wires : List Wire) (kind : List ℕ) (pins : List Pin) : Type 0 where
  pub named : IsName kind
  pub apart : are_apart (pin_names pins) ≡ true
  pub pins_are : All (IsPin wires) pins

gate_new : (wires : List Wire) (kind : List ℕ) (pins : List Pin) → IsReadableGate wires kind pins → IsNewCell kind [] (pin_names pins)
gate_new wires kind pins is = record {
  kind_name = is.named;
  values = All-nil IsCellParam;
  distinct_params = apart_distinct [] refl;
  distinct_pins = apart_distinct (pin_names pins) is.apart;
}

-- a cell for each bit
pub each_extends : (kind : ℕ → List ℕ) (pins : ℕ → SigBit → List Pin) (at : ℕ) (ys : List SigBit) (b : Building) → ((i : ℕ) (y : SigBit) → IsBitOf b.body.wires y → IsReadableGate b.body.wires (kind i) (pins i y)) → All (IsBitOf b.body.wires) ys
    → Extends b (each_bit (λ i y. new_cell (kind i) [] (pins i y)) at ys b)
each_extends kind pins at [] b made h = extends_none b
each_extends kind pins at (y ∷ ys) b made h =
    let new : Building = new_cell (kind at) [] (pins at y) b in
    let here = made at y (All-head (IsBitOf b.body.wires) y ys h) in
    extends_both b new (each_bit (λ i y. new_cell (kind i) [] (pins i y)) (suc at) ys new) (extends_cell (kind at) [] (pins at y) b (gate_new b.body.wires (kind at) (pins at y) here) here.pins_are)
    (each_extends kind pins (suc at) ys new made (All-tail (IsBitOf b.body.wires) y ys h))

module _ (b : Building) where
  abbrev Are : List SigBit → Type 0
  Are bits = All (IsBitOf b.body.wires) bits

  pub unary_extends : (kind : GateKind) (signed : Bool) (a ys : List SigBit) → Are a → Are ys → Extends b (unary_gates kind signed a ys b)
  unary_extends kind signed a ys h k =
      each_extends (λ i. gate_name kind) (λ i y. one A (bit_at signed a i) ∷ one Y y ∷ []) 0 ys b
      (λ i y e. record { named = gate_is_name kind; apart = refl; pins_are = two_are b.body.wires A Y (bit_at signed a i) y (bit_is b.body.wires signed a i h) e }) k

  pub binary_extends : (kind : GateKind) (signed : Bool) (a c ys : List SigBit) → Are a → Are c → Are ys → Extends b (binary_gates kind signed a c ys b)
  binary_extends kind signed a c ys h j k =
      each_extends (λ i. gate_name kind) (λ i y. one A (bit_at signed a i) ∷ one B (bit_at signed c i) ∷ one Y y ∷ []) 0 ys b
      (λ i y e. record {
        named = gate_is_name kind;
        apart = refl;
        pins_are = three_are b.body.wires A B Y (bit_at signed a i) (bit_at signed c i) y (bit_is b.body.wires signed a i h) (bit_is b.body.wires signed c i j) e;
      }) k

  -- multiplexers, of which each has its own bit of the selects, or all of them one
  muxes_extend : (s : ℕ → SigBit) (a c ys : List SigBit) → Are a → Are c → ((i : ℕ) → IsBitOf b.body.wires (s i)) → Are ys
      → Extends b (each_bit (λ i y. new_cell (gate_name Kind.Mux) [] (one A (bit_at false a i) ∷ one B (bit_at false c i) ∷ one S (s i) ∷ one Y y ∷ [])) 0 ys b)
  muxes_extend s a c ys h j f k =
      each_extends (λ i. gate_name Kind.Mux) (λ i y. one A (bit_at false a i) ∷ one B (bit_at false c i) ∷ one S (s i) ∷ one Y y ∷ []) 0 ys b
      (λ i y e. record {
        named = refl;
        apart = refl;
        pins_are = four_are b.body.wires A B S Y (bit_at false a i) (bit_at false c i) (s i) y (bit_is b.body.wires false a i h) (bit_is b.body.wires false c i j) (f i) e;
      }) k

  pub mux_extends : (a c : List SigBit) (s : SigBit) (ys : List SigBit) → Are a → Are c → IsBitOf b.body.wires s → Are ys → Extends b (mux_gates a c s ys b)
  mux_extends a c s ys h j f k = muxes_extend (λ i. s) a c ys h j (λ i. f) k

  pub bwmux_extends : (a c s ys : List SigBit) → Are a → Are c → Are s → Are ys → Extends b (bwmux_gates a c s ys b)
  bwmux_extends a c s ys h j f k = muxes_extend (λ i. bit_at false s i) a c ys h j (λ i. bit_is b.body.wires false s i f) k
