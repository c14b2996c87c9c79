-- The pins of the gate of a bit.
use Rattle.std.specs.Prelude.{ℕ, List, [], ◌∷◌, map, slice_index_or}
use Rattle.rtl_bits.specs.declared.bit.Bit.TheVariants.{X}
use Rattle.rtl_sig.specs.declared.sig.SigBit.{SigBit}
use Rattle.rtl_sig.specs.declared.sig.SigBit.TheVariants.{Fixed}
use Rattle.cell_types.specs.PinName.{pin_text}
use Rattle.cell_types.specs.Pins.{storage_gate_pins}
use Rattle.cell_types.specs.declared.pin_name.PinName.{PinName}
use Rattle.cell_types.specs.declared.pin_name.PinName.TheVariants.{S, Clk, En, Arst, Srst, Aload, Set, Clr, Q, C, E, R, L}
use Rattle.cell_types.specs.declared.storage.StorageKind.{StorageKind}
use Rattle.cell_types.specs.declared.storage.StorageKind.TheVariants.{Sdff, Sdffe, Sdffce, Adff, Adffe, Adlatch}
use Rattle.cell_types.specs.declared.storage_gate.StorageGate.{StorageGate}
use Rattle.rtl_ir.specs.Build.{pin_of}
use Rattle.rtl_ir.specs.declared.cell.Cell.{Cell}
use Rattle.rtl_ir.specs.declared.cell.Pin.{Pin}
use Rattle.map_laws.specs.Operand.{pin_signal}

-- the bit at a place of a pin, x past its end
abbrev pub pin_bit : Cell → PinName → ℕ → SigBit
pin_bit c name at = slice_index_or (pin_signal c name) at (Fixed X)

-- the reset of a kind, or its clear of the bit
abbrev pub reset_bit : StorageKind → Cell → ℕ → SigBit
reset_bit Adff c at = pin_bit c Arst 0
reset_bit Adffe c at = pin_bit c Arst 0
reset_bit Adlatch c at = pin_bit c Arst 0
reset_bit Sdff c at = pin_bit c Srst 0
reset_bit Sdffe c at = pin_bit c Srst 0
reset_bit Sdffce c at = pin_bit c Srst 0
reset_bit kind c at = pin_bit c Clr at

-- the bit at a pin of the gate of the bit at a place, which drives q; D and AD have their names from the cell
abbrev pub gate_bit : StorageKind → Cell → ℕ → SigBit → PinName → SigBit
gate_bit kind c at q C = pin_bit c Clk 0
gate_bit kind c at q E = pin_bit c En 0
gate_bit kind c at q L = pin_bit c Aload 0
gate_bit kind c at q S = pin_bit c Set at
gate_bit kind c at q R = reset_bit kind c at
gate_bit kind c at q Q = q
gate_bit kind c at q pin = pin_bit c pin at

-- a pin of one bit
abbrev pub gate_pin : PinName → SigBit → Pin
gate_pin name bit = pin_of (pin_text name) (bit ∷ [])

-- the pins of the gate: D, AD, the pins in the order of their letters, and Q
abbrev pub gate_pins : StorageKind → StorageGate → Cell → ℕ → SigBit → List Pin
gate_pins kind gate c at q = map (λ name. gate_pin name (gate_bit kind c at q name)) (storage_gate_pins gate)
