-- Cells that are marked one by one, each once.
use Rattle.std.specs.Prelude.{◌≡◌, ℕ, ◌+◌, ◌<◌, Bool, true, false, List, [], ◌∷◌, ◌++◌, length, set, Option, Some, None, slice_get, slice_index, slice_index_or, if◌then◌else◌}
use Rattle.rtl_sig.specs.declared.sig.WireBit.{WireBit}
use Rattle.rtl_ir.specs.Types as rtl
use Rattle.rtl_ir.specs.Types.{Ports}
use Rattle.rtl_ir.specs.declared.cell.Cell.{Cell}
use Rattle.rtl_ir.specs.declared.cell.Pin.{Pin}
use Rattle.rtl_ir.specs.declared.module.Module.{Module}
use Rattle.rtl_ir.specs.declared.wire.Wire.{Wire}
use Rattle.net_index.specs.declared.drivers.Drivers.{Drivers}
use Rattle.net_index.specs.declared.types.CellType.{CellType}
use Rattle.net_index.specs.Drivers.{AreDrivers}
use Rattle.net_index.specs.Types.{IsType}
use Rattle.net_model.specs.Lists.{In}
use Rattle.opt_clean.specs.declared.kept.Marks.{Marks}
use Rattle.opt_clean.specs.Keep.{is_root}
use Rattle.opt_clean.specs.Kept.{input_bits, read_bits}
use Rattle.opt_clean.specs.Linked.{cell_places}
use Rattle.opt_clean.specs.Wires.{mark_count}

-- the marks of cells, and the places of those that are marked, in the order in which they were
pub record Marking : Type 0 where
  pub marks : List Bool
  pub order : List ℕ

-- what the code holds of them
abbrev pub marking_of : Marks → Marking
marking_of m = record { marks = m.marks.items; order = m.order.items }

-- a cell is marked that was not
abbrev pub mark_place : Marking → ℕ → Marking
mark_place s place =
    if slice_index_or s.marks place true then s
    else record { marks = set s.marks place true; order = s.order ++ place ∷ [] }

-- several are
abbrev pub mark_places : Marking → List ℕ → Marking
mark_places s [] = s
mark_places s (place ∷ places) = mark_places (mark_place s place) places

-- the cells that drive these bits are marked, by the index of whatever module
abbrev pub MarksDrivers : Drivers → Marks → Marks → List WireBit → Type 0
MarksDrivers index old new bits =
    (ports : Ports) (m : Module) → AreDrivers index ports m →
    marking_of new ≡ mark_places (marking_of old) (cell_places ports m bits)

-- .. the bits that these pins of a cell of a type read
abbrev pub MarksRead : CellType → Drivers → Marks → Marks → List Pin → Type 0
MarksRead cell_type index old new pins =
    (type : rtl.CellType) (ports : Ports) (m : Module) → IsType cell_type type → AreDrivers index ports m →
    marking_of new ≡ mark_places (marking_of old) (cell_places ports m (read_bits type pins))

-- the bit is of a wire that the outside sees
abbrev pub is_seen : List Bool → WireBit → Bool
is_seen shown b = slice_index_or shown b.wire false

-- the places of the cells from one on that are kept whatever reads them
abbrev pub root_places : Ports → List Wire → ℕ → List Cell → List ℕ
root_places ports wires place [] = []
root_places ports wires place (c ∷ cs) =
    (if is_root ports wires c then place ∷ [] else []) ++ root_places ports wires (place + 1) cs

-- what drives a bit that a kept cell reads is kept
abbrev pub KeepsReads : Ports → Module → List Cell → List Bool → Type 0
KeepsReads ports m cells kept =
    (i : ℕ) (c : Cell) → slice_get cells i ≡ Some c → slice_index_or kept i false ≡ true → (j : ℕ) →
    In j (cell_places ports m (input_bits ports c)) → slice_index_or kept j false ≡ true

-- what the cell reads that may be at a place is marked
abbrev pub after_cell : Ports → Module → Marking → Option Cell → Marking
after_cell ports m s (Some c) = mark_places s (cell_places ports m (input_bits ports c))
after_cell ports m s None = s

-- what the cell reads that was marked at a place of the order, where one was, is marked
abbrev pub after_place : Ports → Module → List Cell → Marking → Option ℕ → Marking
after_place ports m cells s (Some place) = after_cell ports m s (slice_get cells place)
after_place ports m cells s None = s

abbrev pub after_next : Ports → Module → List Cell → Marking → ℕ → Marking
after_next ports m cells s next = after_place ports m cells s (slice_get s.order next)

-- each cell is marked once, and is one that is to be kept; the initial ones are, and those that the cells before a place of
-- the order read from
pub record IsMarking (ports : Ports) (m : Module) (cells : List Cell) (kept : List Bool) (initial : List ℕ) (s : Marking) (next : ℕ) : Type 0 where
  pub long : length s.marks ≡ length cells
  pub each : mark_count s.marks ≡ length s.order
  pub listed : (i : ℕ) → slice_index_or s.marks i false ≡ true → In i s.order
  pub sound : (i : ℕ) → In i s.order → slice_index_or kept i false ≡ true
  pub begun : (i : ℕ) → In i initial → slice_index_or s.marks i true ≡ true
  pub done :
      (k : ℕ) → k < next → k < length s.order → (c : Cell) → slice_get cells (slice_index s.order k) ≡ Some c → (i : ℕ) →
      In i (cell_places ports m (input_bits ports c)) → slice_index_or s.marks i true ≡ true
