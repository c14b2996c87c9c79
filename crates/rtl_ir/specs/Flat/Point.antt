-- What drivers read: constants, and bits of the flat netlist.
use Rattle.std.specs.Prelude.{ℕ, zero, suc, List, [], ◌∷◌, Option, Some, None, slice_get, slice_index_or}
use Rattle.rtl_bits.specs.declared.bit.Bit.{Bit}
use Rattle.rtl_bits.specs.declared.bit.Bit.TheVariants.{X}
use Rattle.rtl_sig.specs.declared.sig.SigBit.{SigBit}
use Rattle.rtl_sig.specs.declared.sig.SigBit.TheVariants.{Fixed, Wire as OnWire}
use Rattle.cell_types.specs.declared.pin_name.PinName.{PinName}
use Rattle.cell_types.specs.PinName.{pin_text}
use Rattle.rtl_ir.specs.declared.cell.Pin.{Pin}
use Rattle.rtl_ir.specs.declared.wire.Wire.{Wire}
use Rattle.rtl_sig.specs.declared.sig.WireBit.{WireBit}
use Rattle.rtl_ir.specs.Flat.Place.{Path, Place, wire_place}
use Rattle.rtl_ir.specs.Parameters.{signal_at}

-- a constant, or a bit
pub data Point : Type 0 where
  Constant : Bit → Point
  At : Place → Point

-- the name of a wire that may be there
abbrev pub name_or_empty : Option Wire → List ℕ
name_or_empty (Some w) = w.name
name_or_empty None = []

-- a bit of a wire, in a module with these wires at this path
abbrev pub bit_place : Path → List Wire → WireBit → Place
bit_place p wires b = wire_place p (name_or_empty (slice_get wires b.wire)) b.at

-- a bit of a signal, in a module with these wires at this path
abbrev pub point : Path → List Wire → SigBit → Point
point p wires (Fixed b) = Constant b
point p wires (OnWire b) = At (bit_place p wires b)

-- the bits of a signal
abbrev pub points : Path → List Wire → List SigBit → List Point
points p wires [] = []
points p wires (s ∷ signal) = point p wires s ∷ points p wires signal

-- the point at a place of a list, past its end the constant x
abbrev pub point_at : List Point → ℕ → Point
point_at ps at = slice_index_or ps at (Constant X)

-- the points at a pin of a cell of the library
abbrev pub pin_points : Path → List Wire → List Pin → PinName → List Point
pin_points p wires pins name = points p wires (signal_at pins (pin_text name))

-- the bits of a wire, from this one on, so many
abbrev pub wire_points : Path → List ℕ → ℕ → ℕ → List Point
wire_points p name at zero = []
wire_points p name at (suc width) = At (wire_place p name at) ∷ wire_points p name (suc at) width
