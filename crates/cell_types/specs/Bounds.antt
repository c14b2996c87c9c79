-- what the shapes of cells keep to
use Rattle.std.specs.Prelude.{◌≡◌, ℕ, ◌+◌, ◌*◌, ◌^◌, ◌<◌, ◌≤◌, length, ⊤}
use Rattle.cell_types.specs.declared.kind.CellKind.{CellKind}
use Rattle.cell_types.specs.declared.kind.CellKind.TheVariants as Cell
use Rattle.cell_types.specs.declared.shape.Shape.{Shape}
use Rattle.cell_types.specs.declared.shape.Widths.{Widths}
use Rattle.cell_types.specs.declared.storage.StorageKind.{StorageKind}
use Rattle.cell_types.specs.declared.storage.StorageKind.TheVariants.{Adff, Adffe, Adlatch, Sdff, Sdffe, Sdffce}
use Rattle.cell_types.specs.declared.word.WordKind.{WordKind}
use Rattle.cell_types.specs.declared.word.WordKind.TheVariants.{Unary, Fold, Bitwise, Logic, Equal, Order, Arith, Division, Shift, Mux, Pmux, Slice, Concat, Buf, Bwmux, Bmux, Demux}
use Rattle.cell_types.specs.Fault.{limit_of}
use Rattle.cell_types.specs.StorageGate.{kind_of_gate}

-- a width of at least 1 and at most a limit
abbrev pub IsWithin : ℕ → ℕ → Type 0
IsWithin limit width = (0 < width) × (width ≤ limit)

-- the widths of a cell with one operand
abbrev pub OneOperand : ℕ → Widths → Type 0
OneOperand limit w = IsWithin limit w.a × IsWithin limit w.y

-- the widths of a cell with two operands
abbrev pub TwoOperands : ℕ → Widths → Type 0
TwoOperands limit w = IsWithin limit w.a × IsWithin limit w.b × IsWithin limit w.y

-- the widths of a combinational cell on words, and the offset of a slice
abbrev pub AreWordWidths : WordKind → Widths → ℕ → Type 0
AreWordWidths (Unary kind) w offset = OneOperand (limit_of (Unary kind)) w
AreWordWidths (Fold _) w offset = OneOperand 4096 w
AreWordWidths (Bitwise _) w offset = TwoOperands 4096 w
AreWordWidths (Logic _) w offset = TwoOperands 4096 w
AreWordWidths (Equal _) w offset = TwoOperands 4096 w
AreWordWidths (Order _) w offset = TwoOperands 128 w
AreWordWidths (Arith _) w offset = TwoOperands 128 w
AreWordWidths (Division _) w offset = TwoOperands 128 w
AreWordWidths (Shift _) w offset = TwoOperands 4096 w
AreWordWidths Mux w offset = IsWithin 4096 w.a × (w.b ≡ w.a) × (w.s ≡ 1) × (w.y ≡ w.a)
AreWordWidths Pmux w offset = IsWithin 4096 w.a × (w.b ≡ w.a * w.s) × IsWithin 4096 w.s × (w.y ≡ w.a) × (w.b ≤ 4096)
AreWordWidths Slice w offset = OneOperand 4096 w × (offset + w.y ≤ w.a)
AreWordWidths Concat w offset = IsWithin 4096 w.a × IsWithin 4096 w.b × (w.y ≡ w.a + w.b) × (w.y ≤ 4096)
AreWordWidths Buf w offset = IsWithin 4096 w.a × (w.y ≡ w.a)
AreWordWidths Bwmux w offset = IsWithin 4096 w.a × (w.b ≡ w.a) × (w.s ≡ w.a) × (w.y ≡ w.a)
AreWordWidths Bmux w offset = IsWithin 4096 w.y × IsWithin 12 w.s × (w.a ≡ w.y * 2 ^ w.s) × (w.a ≤ 4096)
AreWordWidths Demux w offset = IsWithin 4096 w.a × IsWithin 12 w.s × (w.y ≡ w.a * 2 ^ w.s) × (w.y ≤ 4096)

-- the reset that a storage cell has sets each of its bits
abbrev pub ResetsFit : StorageKind → Shape → Type 0
ResetsFit Adff shape = length shape.resets.arst ≡ shape.width
ResetsFit Adffe shape = length shape.resets.arst ≡ shape.width
ResetsFit Adlatch shape = length shape.resets.arst ≡ shape.width
ResetsFit Sdff shape = length shape.resets.srst ≡ shape.width
ResetsFit Sdffe shape = length shape.resets.srst ≡ shape.width
ResetsFit Sdffce shape = length shape.resets.srst ≡ shape.width
ResetsFit _ shape = ⊤

-- what the shape of a kind keeps to
abbrev pub KindKeeps : CellKind → Shape → Type 0
KindKeeps (Cell.Word kind) shape = AreWordWidths kind shape.widths shape.offset
KindKeeps (Cell.Gate _) shape = shape.widths ≡ record { a = 1; b = 1; s = 1; y = 1 }
KindKeeps (Cell.Storage kind) shape = IsWithin 4096 shape.width × ResetsFit kind shape
KindKeeps (Cell.StorageGate gate) shape = (shape.width ≡ 1) × ResetsFit (kind_of_gate gate) shape
KindKeeps (Cell.Memory _) shape = IsWithin 4096 shape.width

-- the shape keeps to what its kind asks
abbrev pub KeepsBounds : Shape → Type 0
KeepsBounds shape = KindKeeps shape.kind shape
