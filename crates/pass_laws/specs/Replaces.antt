-- One cell of a module goes: cells come in its place, and connections behind all others.
use Rattle.std.specs.Prelude.{◌≡◌, false, List, [], ◌∷◌, ◌++◌, length, Some}
use Rattle.cell_types.specs.declared.kind.CellKind.{CellKind}
use Rattle.rtl_ir.specs.Faults.Cells.{faults_by_type, is_memory_kind}
use Rattle.rtl_ir.specs.Faults.Links.{is_uneven}
use Rattle.rtl_ir.specs.Flat.Cell.{cell_kind, cell_rows, cells_rows, instances}
use Rattle.rtl_ir.specs.Flat.Driver.{Driven}
use Rattle.rtl_ir.specs.Flat.Link.{link_rows}
use Rattle.rtl_ir.specs.Flat.Place.{Path, Place}
use Rattle.rtl_ir.specs.Flat.Rows.{rows_of}
use Rattle.rtl_ir.specs.Flat.Start.{start_of}
use Rattle.rtl_ir.specs.Flat.Tree as flat
use Rattle.rtl_ir.specs.Scope.{cells_alone}
use Rattle.rtl_ir.specs.Signals.{has_constant}
use Rattle.rtl_ir.specs.Types as types
use Rattle.rtl_ir.specs.Types.{cell_type}
use Rattle.rtl_ir.specs.declared.cell.Cell.{Cell}
use Rattle.rtl_ir.specs.declared.module.Link.{Link}
use Rattle.rtl_ir.specs.declared.module.Module.{Module}
use Rattle.rtl_ir.specs.declared.ports.PortTable.{PortTable}
use Rattle.net_model.specs.Lists.{In}
use Rattle.net_model.specs.Refine.{IsMet, Solved, SolvedBefore, places_of}
use Rattle.net_model.specs.Run.{Time}
use Rattle.net_model.specs.Valuation.{Valuation}
use Rattle.net_model.specs.Within.{CellIn, Each, LinkIn}
use Rattle.pass_laws.specs.Bits.{cells_bits, links_bits}

-- a cell without faults where cells and instances alone are taken, in whatever module and behind whatever cells it stands
abbrev pub IsFaultless : types.Ports → Cell → Type 0
IsFaultless ports g =
    (m : Module) (earlier : List Cell) → faults_by_type cells_alone m earlier g (cell_type ports g.kind_name) ≡ []

-- a cell that is none of a memory
abbrev pub IsOutside : Cell → Type 0
IsOutside c = (kind : CellKind) → cell_kind c ≡ Some kind → is_memory_kind kind ≡ false

-- a connection without faults: its sides have one width, and no constant stands on its left
pub record IsEven (l : Link) : Type 0 where
  pub width : is_uneven l ≡ false
  pub wires : has_constant l.left ≡ false

-- the module with cells in the place of the one between these, and with further connections
abbrev pub replacing : List Cell → List Cell → List Cell → List Link → Module → Module
replacing pre here post more m = record m { cells = pre ++ (here ++ post); links = m.links ++ more }

-- what is owed of a cell of a module, between others, where cells come in its place and connections go last
pub record Replaces (table : PortTable) (m : Module) (pre : List Cell) (c : Cell) (post here : List Cell) (more : List Link) : Type 0 where
  -- the cell is none of a memory, whose rows are those of the memory
  pub outside : IsOutside c
  -- the instances among the cells are those that the cell is
  pub children : instances here ≡ instances (c ∷ [])
  -- the cells and then the connections drive the bits that the cell drives
  pub bits :
      cells_bits (types.table_ports table.modules) here ++ links_bits more
      ≡ cells_bits (types.table_ports table.modules) (c ∷ [])
  -- the same in the flat netlist
  pub places :
      (p : Path) →
      places_of (cells_rows (start_of m.wires m.processes) (flat.table_ports table) p m.wires here)
      ++ places_of (link_rows p m.wires more)
      ≡ places_of (cell_rows (start_of m.wires m.processes) (flat.table_ports table) p m.wires c (cell_kind c))
  -- the cells and the connections have no faults, and name wires of the module
  pub cells : Each (IsFaultless (types.table_ports table.modules)) here
  pub links : Each IsEven more
  pub cells_within : Each (CellIn (length m.wires)) here
  pub links_within : Each (LinkIn (length m.wires)) more
  -- each solution of the rows of the new module meets each row of the cell
  pub met :
      (p : Path) (t : Time Place) (w : Valuation) →
      Solved (rows_of (flat.table_ports table) p (replacing pre here post more m)) t w →
      SolvedBefore (rows_of (flat.table_ports table) p (replacing pre here post more m)) t → (d : Driven) →
      In d (cell_rows (start_of m.wires m.processes) (flat.table_ports table) p m.wires c (cell_kind c)) → IsMet d t w
