-- storage gates as storage cells on words
use Rattle.cell_types.specs.declared.storage.StorageKind.{StorageKind}
use Rattle.cell_types.specs.declared.storage.StorageKind.TheVariants as Storage
use Rattle.cell_types.specs.declared.storage_gate.StorageGate.{StorageGate}
use Rattle.cell_types.specs.declared.storage_gate.StorageGate.TheVariants as Gate

-- the storage cell on words that keeps a bit in the same way
abbrev pub kind_of_gate : StorageGate → StorageKind
kind_of_gate Gate.Ff = Storage.Ff
kind_of_gate (Gate.Dff _) = Storage.Dff
kind_of_gate (Gate.Dffe _ _) = Storage.Dffe
kind_of_gate (Gate.Adff _ _ _) = Storage.Adff
kind_of_gate (Gate.Adffe _ _ _ _) = Storage.Adffe
kind_of_gate (Gate.Sdff _ _ _) = Storage.Sdff
kind_of_gate (Gate.Sdffe _ _ _ _) = Storage.Sdffe
kind_of_gate (Gate.Sdffce _ _ _ _) = Storage.Sdffce
kind_of_gate (Gate.Dffsr _ _ _) = Storage.Dffsr
kind_of_gate (Gate.Dffsre _ _ _ _) = Storage.Dffsre
kind_of_gate (Gate.Aldff _ _) = Storage.Aldff
kind_of_gate (Gate.Aldffe _ _ _) = Storage.Aldffe
kind_of_gate (Gate.Dlatch _) = Storage.Dlatch
kind_of_gate (Gate.Adlatch _ _ _) = Storage.Adlatch
kind_of_gate (Gate.Dlatchsr _ _ _) = Storage.Dlatchsr
kind_of_gate (Gate.Sr _ _) = Storage.Sr
