-- The gates of a storage cell.
use Rattle.std.specs.Prelude.{ℕ, suc, Bool, true, false, List, [], ◌∷◌}
use Rattle.cell_types.specs.declared.kind.CellKind.{CellKind}
use Rattle.cell_types.specs.declared.kind.CellKind.TheVariants as Cells
use Rattle.cell_types.specs.declared.pin_name.PinName.TheVariants.{Q}
use Rattle.cell_types.specs.declared.shape.Shape.{Shape}
use Rattle.cell_types.specs.declared.storage.StorageKind.{StorageKind}
use Rattle.cell_types.specs.declared.storage_gate.StorageGate.{StorageGate}
use Rattle.rtl_ir.specs.Build.{Building, new_cell}
use Rattle.rtl_ir.specs.declared.cell.Cell.{Cell}
use Rattle.rtl_sig.specs.declared.sig.SigBit.{SigBit}
use Rattle.net_index.specs.BuilderNames.{name_of}
use Rattle.map_laws.specs.Operand.{pin_signal}
use Rattle.map_flop.specs.Gate.{bit_gate}
use Rattle.map_flop.specs.Pins.{gate_pins}

-- a kind becomes gates here: a storage cell on words
abbrev pub is_mapped : CellKind → Bool
is_mapped (Cells.Storage kind) = true
is_mapped kind = false

-- a cell for each bit of an output, bits rising from a place on
abbrev pub each_bit : (ℕ → SigBit → Building → Building) → ℕ → List SigBit → Building → Building
each_bit put at [] b = b
each_bit put at (q ∷ qs) b = each_bit put (suc at) qs (put at q b)

-- the gate of a bit goes last; it drives q, which is the bit of the cell's Q
abbrev pub storage_gate : StorageKind → StorageGate → Cell → ℕ → SigBit → Building → Building
storage_gate kind gate c at q = new_cell (name_of (Cells.StorageGate gate)) [] (gate_pins kind gate c at q)

-- a gate for each bit of Q
abbrev pub storage_gates : StorageKind → Shape → Cell → Building → Building
storage_gates kind shape c = each_bit (λ at q. storage_gate kind (bit_gate kind shape at) c at q) 0 (pin_signal c Q)

-- the gates of a cell go last
abbrev pub gates_of : CellKind → Shape → Cell → Building → Building
gates_of (Cells.Storage kind) shape c = storage_gates kind shape c
gates_of kind shape c = λ b. b

-- what a cell of this shape becomes
abbrev pub map_of : Shape → Cell → Building → Building
map_of shape c b = gates_of shape.kind shape c b
