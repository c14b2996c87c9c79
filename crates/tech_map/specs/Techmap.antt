-- Each cell of a kind that becomes gates, replaced in its place by them.
use Rattle.std.specs.Prelude.{Bool, true, false, List, [], ◌∷◌, ◌++◌, Option, Some, None, if◌then◌else◌}
use Rattle.cell_types.specs.declared.kind.CellKind.{CellKind}
use Rattle.cell_types.specs.declared.kind.CellKind.TheVariants.{Storage, Word}
use Rattle.cell_types.specs.declared.shape.Shape.{Shape}
use Rattle.cell_types.specs.declared.word.ArithKind.TheVariants.{Mul}
use Rattle.cell_types.specs.declared.word.UnaryKind.TheVariants.{Neg}
use Rattle.cell_types.specs.declared.word.WordKind.TheVariants.{Unary, Order, Arith, Division, Shift}
use Rattle.rtl_ir.specs.Build.{Building, building_of}
use Rattle.rtl_ir.specs.Flat.Cell.{cell_kind, cell_shape}
use Rattle.rtl_ir.specs.declared.cell.Cell.{Cell}
use Rattle.rtl_ir.specs.declared.module.Module.{Module}
use Rattle.net_index.specs.Builder.{PassesLimit}
use Rattle.map_add.specs.Expand as adds
use Rattle.map_flop.specs.Expand as flops
use Rattle.map_gates.specs.Expand as gates
use Rattle.map_mul.specs.Expand as products
use Rattle.map_shift.specs.Expand as shifts
use Rattle.map_laws.specs.Expansion.{cells_added}

-- word cells and storage cells become gates
abbrev pub is_taken : CellKind → Bool
is_taken (Word kind) = true
is_taken (Storage kind) = true
is_taken kind = false

-- the kind, where it is one of them
abbrev pub if_taken : Option CellKind → Option CellKind
if_taken (Some kind) = if is_taken kind then Some kind else None
if_taken None = None

-- the kind of a cell that becomes gates; of any other cell None
abbrev pub taken_kind : Cell → Option CellKind
taken_kind c = if_taken (cell_kind c)

-- what the map of a kind adds for a cell of this shape
abbrev pub expansion_of : CellKind → Shape → Cell → Building → Building
expansion_of (Word (Unary Neg)) shape c = adds.map_of shape c
expansion_of (Word (Arith Mul)) shape c = products.map_of shape c
expansion_of (Word (Arith kind)) shape c = adds.map_of shape c
expansion_of (Word (Order kind)) shape c = adds.map_of shape c
expansion_of (Word (Division kind)) shape c = products.map_of shape c
expansion_of (Word (Shift kind)) shape c = shifts.map_of shape c
expansion_of (Storage kind) shape c = flops.map_of shape c
expansion_of kind shape c = gates.map_of shape c

-- what the map of a kind adds for a cell of it
abbrev pub expand_by_kind : CellKind → Cell → Building → Building
expand_by_kind kind c b = expansion_of kind (cell_shape kind c.params) c b

-- the gates of a cell of this kind go last, with fresh wires and connections, under fresh names
abbrev pub with_gates : Option CellKind → Cell → Building → Building
with_gates (Some kind) c b = expand_by_kind kind c b
with_gates None c b = b

-- what stands in the place of a cell: its gates, or the cell itself where it becomes none
abbrev pub stand_in : Option CellKind → Cell → Building → List Cell
stand_in (Some kind) c b = cells_added b (with_gates (Some kind) c b)
stand_in None c b = c ∷ []

-- the gates of all of these cells go last, behind the cells that they replace
abbrev pub with_all_gates : List Cell → Building → Building
with_all_gates [] b = b
with_all_gates (c ∷ cs) b = with_all_gates cs (with_gates (taken_kind c) c b)

-- what stands in the places of these cells
abbrev pub stand_ins : List Cell → Building → List Cell
stand_ins [] b = []
stand_ins (c ∷ cs) b = stand_in (taken_kind c) c b ++ stand_ins cs (with_gates (taken_kind c) c b)

-- the module with all gates, beside the cells that they replace
abbrev pub beside : Module → Building
beside m = with_all_gates m.cells (building_of m)

-- the module with the gates in the places of the cells; the fresh wires and the connections stay last
abbrev pub techmap_of : Module → Module
techmap_of m = record (beside m).body { cells = stand_ins m.cells (building_of m) }

-- the module passes a limit where the replaced cells count beside the gates
abbrev pub TechmapPassesLimit : Module → Type 0
TechmapPassesLimit m = PassesLimit (beside m)
