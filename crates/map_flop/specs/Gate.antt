-- The gate that keeps a bit of a storage cell.
use Rattle.std.specs.Prelude.{ℕ, Bool, true, false}
use Rattle.rtl_bits.specs.declared.bit.Bit.{Bit}
use Rattle.rtl_bits.specs.declared.bit.Bit.TheVariants.{S1}
use Rattle.cell_types.specs.declared.levels.Levels.{Levels}
use Rattle.cell_types.specs.declared.shape.Shape.{Shape}
use Rattle.cell_types.specs.declared.storage.StorageKind.{StorageKind}
use Rattle.cell_types.specs.declared.storage.StorageKind.TheVariants.{Ff, Dff, Dffe, Sdff, Sdffe, Sdffce, Adff, Adffe, Aldff, Aldffe, Dffsr, Dffsre, Dlatch, Adlatch, Dlatchsr, Sr}
use Rattle.cell_types.specs.declared.storage_gate.StorageGate.{StorageGate}
use Rattle.cell_types.specs.declared.storage_gate.StorageGate.TheVariants as Gate
use Rattle.cell_gate.specs.Store.{reset_at}

-- the gate of one bit with the meaning of a kind, these levels, and this value at a reset
abbrev pub gate_for : StorageKind → Levels → Bool → StorageGate
gate_for Ff l value = Gate.Ff
gate_for Dff l value = Gate.Dff l.clk
gate_for Dffe l value = Gate.Dffe l.clk l.en
gate_for Sdff l value = Gate.Sdff l.clk l.srst value
gate_for Sdffe l value = Gate.Sdffe l.clk l.srst value l.en
gate_for Sdffce l value = Gate.Sdffce l.clk l.srst value l.en
gate_for Adff l value = Gate.Adff l.clk l.arst value
gate_for Adffe l value = Gate.Adffe l.clk l.arst value l.en
gate_for Aldff l value = Gate.Aldff l.clk l.aload
gate_for Aldffe l value = Gate.Aldffe l.clk l.aload l.en
gate_for Dffsr l value = Gate.Dffsr l.clk l.set l.clr
gate_for Dffsre l value = Gate.Dffsre l.clk l.set l.clr l.en
gate_for Dlatch l value = Gate.Dlatch l.en
gate_for Adlatch l value = Gate.Adlatch l.en l.arst value
gate_for Dlatchsr l value = Gate.Dlatchsr l.en l.set l.clr
gate_for Sr l value = Gate.Sr l.set l.clr

-- a bit is 1; a bit that is not known counts as 0
abbrev pub is_one : Bit → Bool
is_one S1 = true
is_one bit = false

-- the gate of the bit at a place of a storage cell of a kind
abbrev pub bit_gate : StorageKind → Shape → ℕ → StorageGate
bit_gate kind shape at = gate_for kind shape.levels (is_one (reset_at kind shape.resets at))
