-- which pins each cell has
use Rattle.std.specs.Prelude.{List, [], ◌∷◌}
use Rattle.cell_types.specs.declared.kind.CellKind.{CellKind}
use Rattle.cell_types.specs.declared.word.WordKind.{WordKind}
use Rattle.cell_types.specs.declared.gate.GateKind.{GateKind}
use Rattle.cell_types.specs.declared.storage.StorageKind.{StorageKind}
use Rattle.cell_types.specs.declared.storage_gate.StorageGate.{StorageGate}
use Rattle.cell_types.specs.declared.memory.MemoryKind.{MemoryKind}
use Rattle.cell_types.specs.declared.pin_name.PinName.{PinName}
use Rattle.cell_types.specs.declared.kind.CellKind.TheVariants as Cell
use Rattle.cell_types.specs.declared.word.WordKind.TheVariants as Word
use Rattle.cell_types.specs.declared.gate.GateKind.TheVariants as Gate
use Rattle.cell_types.specs.declared.storage.StorageKind.TheVariants as Storage
use Rattle.cell_types.specs.declared.memory.MemoryKind.TheVariants as Memory
use Rattle.cell_types.specs.declared.pin_name.PinName.TheVariants.{A, B, S, Y, Clk, En, Arst, Srst, Aload, Set, Clr, Ad, D, Q, C, E, R, L, Addr, Data}

-- of combinational cells on words
abbrev pub word_pins : WordKind → List PinName
word_pins (Word.Unary _) = A ∷ Y ∷ []
word_pins (Word.Fold _) = A ∷ Y ∷ []
word_pins Word.Mux = A ∷ B ∷ S ∷ Y ∷ []
word_pins Word.Pmux = A ∷ B ∷ S ∷ Y ∷ []
word_pins Word.Slice = A ∷ Y ∷ []
word_pins Word.Concat = A ∷ B ∷ Y ∷ []
word_pins Word.Buf = A ∷ Y ∷ []
word_pins Word.Bwmux = A ∷ B ∷ S ∷ Y ∷ []
word_pins Word.Bmux = A ∷ S ∷ Y ∷ []
word_pins Word.Demux = A ∷ S ∷ Y ∷ []
word_pins _ = A ∷ B ∷ Y ∷ []

-- of combinational gates
abbrev pub gate_pins : GateKind → List PinName
gate_pins Gate.Buf = A ∷ Y ∷ []
gate_pins Gate.Not = A ∷ Y ∷ []
gate_pins Gate.Mux = A ∷ B ∷ S ∷ Y ∷ []
gate_pins Gate.Nmux = A ∷ B ∷ S ∷ Y ∷ []
gate_pins _ = A ∷ B ∷ Y ∷ []

-- of storage cells on words
abbrev pub storage_pins : StorageKind → List PinName
storage_pins Storage.Ff = D ∷ Q ∷ []
storage_pins Storage.Dff = Clk ∷ D ∷ Q ∷ []
storage_pins Storage.Dffe = Clk ∷ En ∷ D ∷ Q ∷ []
storage_pins Storage.Sdff = Clk ∷ Srst ∷ D ∷ Q ∷ []
storage_pins Storage.Sdffe = Clk ∷ En ∷ Srst ∷ D ∷ Q ∷ []
storage_pins Storage.Sdffce = Clk ∷ En ∷ Srst ∷ D ∷ Q ∷ []
storage_pins Storage.Adff = Clk ∷ Arst ∷ D ∷ Q ∷ []
storage_pins Storage.Adffe = Clk ∷ En ∷ Arst ∷ D ∷ Q ∷ []
storage_pins Storage.Aldff = Clk ∷ Aload ∷ Ad ∷ D ∷ Q ∷ []
storage_pins Storage.Aldffe = Clk ∷ En ∷ Aload ∷ Ad ∷ D ∷ Q ∷ []
storage_pins Storage.Dffsr = Clk ∷ Set ∷ Clr ∷ D ∷ Q ∷ []
storage_pins Storage.Dffsre = Clk ∷ En ∷ Set ∷ Clr ∷ D ∷ Q ∷ []
storage_pins Storage.Dlatch = En ∷ D ∷ Q ∷ []
storage_pins Storage.Adlatch = En ∷ Arst ∷ D ∷ Q ∷ []
storage_pins Storage.Dlatchsr = En ∷ Set ∷ Clr ∷ D ∷ Q ∷ []
storage_pins Storage.Sr = Set ∷ Clr ∷ Q ∷ []

-- of storage gates: D, AD, the pins in the order of their letters, Q
abbrev pub storage_gate_pins : StorageGate → List PinName
storage_gate_pins StorageGate.Ff = D ∷ Q ∷ []
storage_gate_pins (StorageGate.Dff _) = D ∷ C ∷ Q ∷ []
storage_gate_pins (StorageGate.Dffe _ _) = D ∷ C ∷ E ∷ Q ∷ []
storage_gate_pins (StorageGate.Adff _ _ _) = D ∷ C ∷ R ∷ Q ∷ []
storage_gate_pins (StorageGate.Adffe _ _ _ _) = D ∷ C ∷ R ∷ E ∷ Q ∷ []
storage_gate_pins (StorageGate.Sdff _ _ _) = D ∷ C ∷ R ∷ Q ∷ []
storage_gate_pins (StorageGate.Sdffe _ _ _ _) = D ∷ C ∷ R ∷ E ∷ Q ∷ []
storage_gate_pins (StorageGate.Sdffce _ _ _ _) = D ∷ C ∷ R ∷ E ∷ Q ∷ []
storage_gate_pins (StorageGate.Dffsr _ _ _) = D ∷ C ∷ S ∷ R ∷ Q ∷ []
storage_gate_pins (StorageGate.Dffsre _ _ _ _) = D ∷ C ∷ S ∷ R ∷ E ∷ Q ∷ []
storage_gate_pins (StorageGate.Aldff _ _) = D ∷ Ad ∷ C ∷ L ∷ Q ∷ []
storage_gate_pins (StorageGate.Aldffe _ _ _) = D ∷ Ad ∷ C ∷ L ∷ E ∷ Q ∷ []
storage_gate_pins (StorageGate.Dlatch _) = D ∷ E ∷ Q ∷ []
storage_gate_pins (StorageGate.Adlatch _ _ _) = D ∷ E ∷ R ∷ Q ∷ []
storage_gate_pins (StorageGate.Dlatchsr _ _ _) = D ∷ E ∷ S ∷ R ∷ Q ∷ []
storage_gate_pins (StorageGate.Sr _ _) = S ∷ R ∷ Q ∷ []

-- of memory cells
abbrev pub memory_pins : MemoryKind → List PinName
memory_pins Memory.Memrd = Clk ∷ En ∷ Addr ∷ Data ∷ []
memory_pins Memory.MemrdV2 = Clk ∷ En ∷ Arst ∷ Srst ∷ Addr ∷ Data ∷ []
memory_pins Memory.MemwrV2 = Clk ∷ En ∷ Addr ∷ Data ∷ []
memory_pins Memory.Meminit = Addr ∷ Data ∷ []
memory_pins Memory.MeminitV2 = Addr ∷ Data ∷ En ∷ []

-- the pins of a cell, in the order in which new cells write them
abbrev pub pins_of : CellKind → List PinName
pins_of (Cell.Word kind) = word_pins kind
pins_of (Cell.Gate kind) = gate_pins kind
pins_of (Cell.Storage kind) = storage_pins kind
pins_of (Cell.StorageGate gate) = storage_gate_pins gate
pins_of (Cell.Memory kind) = memory_pins kind
