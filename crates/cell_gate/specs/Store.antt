-- How one bit of a storage cell works.
use Rattle.std.specs.Prelude.{ℕ, slice_index_or}
use Rattle.rtl_bits.specs.declared.bit.Bit.{Bit}
use Rattle.rtl_bits.specs.declared.bit.Bit.TheVariants.{X}
use Rattle.cell_types.specs.declared.kind.CellKind.{CellKind}
use Rattle.cell_types.specs.declared.kind.CellKind.TheVariants.{Storage, StorageGate}
use Rattle.cell_types.specs.declared.shape.Resets.{Resets}
use Rattle.cell_types.specs.declared.shape.Shape.{Shape}
use Rattle.cell_types.specs.declared.storage.StorageKind.{StorageKind}
use Rattle.cell_types.specs.declared.storage.StorageKind.TheVariants.{Ff, Sdff, Sdffe, Sdffce, Adff, Adffe, Adlatch}
use Rattle.cell_types.specs.declared.storage_gate.StorageGate.{StorageGate as AnyGate}
use Rattle.cell_types.specs.StorageGate.{kind_of_gate}
use Rattle.cell_gate.specs.declared.store.Store.{Store}

-- the kind of storage cell that has the meaning of a gate
abbrev pub gate_kind : AnyGate → StorageKind
gate_kind gate = kind_of_gate gate

-- a cell is a storage cell, on words or of one bit
abbrev pub IsStorage : CellKind → Type 0
IsStorage (Storage kind) = Unit {0}
IsStorage (StorageGate gate) = Unit {0}
IsStorage kind = ⊥

-- its kind; that of any other cell is `$ff`, which nothing reads
abbrev pub storage_kind : CellKind → StorageKind
storage_kind (Storage kind) = kind
storage_kind (StorageGate gate) = kind_of_gate gate
storage_kind kind = Ff

-- the bit that the reset of a kind gives at a place
abbrev pub reset_at : StorageKind → Resets → ℕ → Bit
reset_at Adff resets at = slice_index_or resets.arst at X
reset_at Adffe resets at = slice_index_or resets.arst at X
reset_at Adlatch resets at = slice_index_or resets.arst at X
reset_at Sdff resets at = slice_index_or resets.srst at X
reset_at Sdffe resets at = slice_index_or resets.srst at X
reset_at Sdffce resets at = slice_index_or resets.srst at X
reset_at kind resets at = X

-- the bit of a storage cell at a place
abbrev pub store_of : Shape → ℕ → Store
store_of shape at = record {
  kind = storage_kind shape.kind;
  levels = shape.levels;
  value = reset_at (storage_kind shape.kind) shape.resets at;
}
