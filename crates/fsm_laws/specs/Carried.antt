-- What bits carry of the state, where the state has its code on other wires.
use Rattle.std.specs.Prelude.{◌≡◌, ◌+◌, ℕ, List, [], ◌∷◌, Option, Some, None, option_and_then, slice_get, slice_index_or, if◌then◌else◌}
use Rattle.std.specs.Option.{option_map_or}
use Rattle.std.specs.Str.{bytes_eq}
use Rattle.rtl_bits.specs.Knowledge.{Below}
use Rattle.rtl_bits.specs.declared.bit.Bit.{Bit}
use Rattle.rtl_bits.specs.declared.bit.Bit.TheVariants.{X}
use Rattle.rtl_sig.specs.declared.sig.SigBit.{SigBit}
use Rattle.rtl_sig.specs.declared.sig.SigBit.TheVariants.{Fixed, Wire as OnWire}
use Rattle.rtl_sig.specs.declared.sig.WireBit.{WireBit}
use Rattle.rtl_ir.specs.declared.module.Link.{Link}
use Rattle.rtl_ir.specs.declared.wire.Wire.{Wire}
use Rattle.rtl_ir.specs.Flat.Place.{OfWire, OfWord, Spot}
use Rattle.rtl_ir.specs.Flat.Point.{point_at, points}
use Rattle.rtl_ir.specs.Follow.{follow}
use Rattle.rtl_ir.specs.Signals.{same_bit}
use Rattle.net_model.specs.Fsm.Code.{Output}
use Rattle.net_model.specs.Relate.{Says}
use Rattle.net_model.specs.Valuation.{read}
use Rattle.fsm_laws.specs.Codes.{apart}

-- what a bit carries: the signal of the code, and which bit of the state
pub record Carrier : Type 0 where
  pub code : List SigBit
  pub bit : ℕ

-- where a bit stands in a signal, from a place on
abbrev pub place_in : List SigBit → WireBit → ℕ → Option ℕ
place_in [] b at = None
place_in (Fixed c ∷ signal) b at = place_in signal b (at + 1)
place_in (OnWire x ∷ signal) b at = if same_bit x b then Some at else place_in signal b (at + 1)

-- what a bit of one of these signals carries
abbrev pub carrier_in : List Output → WireBit → Option Carrier
carrier_in [] b = None
carrier_in (o ∷ outputs) b = option_map_or (λ k. Some (record { code = o.after; bit = k })) (place_in o.before b 0) (carrier_in outputs b)

-- the same of a bit or a constant
abbrev pub carrier_of : List Output → SigBit → Option Carrier
carrier_of outputs (Fixed c) = None
carrier_of outputs (OnWire b) = carrier_in outputs b

-- the number of the wire of a name, from a number on
abbrev pub wire_named : List Wire → ℕ → List ℕ → Option ℕ
wire_named [] at name = None
wire_named (w ∷ wires) at name = if bytes_eq w.name name then Some at else wire_named wires (at + 1) name

-- what a spot carries: what its bit follows to
abbrev pub spot_carrier : List Link → List Wire → List Output → Spot → Option Carrier
spot_carrier links wires outputs (OfWord name i k) = None
spot_carrier links wires outputs (OfWire name k) =
    option_and_then (λ x. carrier_of outputs (follow links (OnWire (record { wire = x; at = k })))) (wire_named wires 0 name)

-- of a bit that carries one of the state, the code says where it is apart from a state; of any other, it is below itself
abbrev pub carries : List (List Bit) → List Wire → Option Carrier → Says
carries states wires None p w o a = Below a (w (record { path = p; spot = o }))
carries states wires (Some y) p w o a =
    (i : ℕ) (s : List Bit) → slice_get states i ≡ Some s → Below (apart a (slice_index_or s y.bit X)) (read w (point_at (points p wires y.code) i))

-- what is said of all bits of a module: with these connections and wires, to which others have been added
abbrev pub code_says : List (List Bit) → List Link → List Wire → List Wire → List Output → Says
code_says states links wires grown outputs p w o a = carries states grown (spot_carrier links wires outputs o) p w o a
