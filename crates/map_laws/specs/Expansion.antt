-- What is owed of the cells, wires and connections that a map adds to a module for a cell.
use Rattle.std.specs.Prelude.{◌≡◌, ◌≤◌, ◌+◌, ℕ, Bool, true, false, List, [], ◌∷◌, ◌++◌, length, map, drop, flat_map, Option, Some, None, IsPermutation}
use Rattle.std.specs.Option.{option_map_or}
use Rattle.cell_types.specs.PinName.{pin_text}
use Rattle.cell_types.specs.declared.kind.CellKind.{CellKind}
use Rattle.cell_types.specs.declared.shape.Shape.{Shape}
use Rattle.rtl_bits.specs.declared.bit.Bit.{Bit}
use Rattle.rtl_sig.specs.declared.sig.SigBit.{SigBit}
use Rattle.rtl_sig.specs.declared.sig.WireBit.{WireBit}
use Rattle.rtl_ir.specs.Build.{Building, inner_wire, made_name}
use Rattle.rtl_ir.specs.Faults.Cells.{has_constant_output, misfit}
use Rattle.rtl_ir.specs.Faults.Links.{is_uneven}
use Rattle.rtl_ir.specs.Flat.Cell.{Ports, cell_kind, cell_rows, cells_rows, instances}
use Rattle.rtl_ir.specs.Flat.Driver.{Driven}
use Rattle.rtl_ir.specs.Flat.Link.{link_rows}
use Rattle.rtl_ir.specs.Flat.Place.{Path, Place}
use Rattle.rtl_ir.specs.Outputs.{output_pin}
use Rattle.rtl_ir.specs.Parameters.{signal_at}
use Rattle.rtl_ir.specs.Signals.{bits_of_wire, has_constant, wire_bits}
use Rattle.rtl_ir.specs.Types.{Library}
use Rattle.rtl_ir.specs.declared.cell.Cell.{Cell}
use Rattle.rtl_ir.specs.declared.module.Link.{Link}
use Rattle.rtl_ir.specs.declared.wire.Wire.{Wire}
use Rattle.net_model.specs.Gates.{is_gate}
use Rattle.net_model.specs.Lists.{In}
use Rattle.net_model.specs.Refine.{IsMet, Solved, SolvedBefore}
use Rattle.net_model.specs.Run.{Time}
use Rattle.net_model.specs.Valuation.{Valuation}
use Rattle.net_model.specs.Within.{CellIn, Each, LinkIn}
use Rattle.map_laws.specs.Operand.{IsShapeOf}

-- the cells that went last in a module
abbrev pub cells_added : Building → Building → List Cell
cells_added old new = drop (length old.body.cells) new.body.cells

-- the wires
abbrev pub wires_added : Building → Building → List Wire
wires_added old new = drop (length old.body.wires) new.body.wires

-- the connections
abbrev pub links_added : Building → Building → List Link
links_added old new = drop (length old.body.links) new.body.links

-- these cells, wires and connections went last, and all else of the module is as before
pub record Adds (old new : Building) (cells : List Cell) (wires : List Wire) (links : List Link) : Type 0 where
  pub body :
      new.body
      ≡ record old.body {
        cells = old.body.cells ++ cells;
        wires = old.body.wires ++ wires;
        links = old.body.links ++ links;
      }
  pub next : old.next ≤ new.next

-- names are the fresh names of numbers, which rise from one number on and stay below another
abbrev pub AreRising : ℕ → ℕ → List (List ℕ) → Type 0
AreRising low high [] = low ≤ high
AreRising low high (name ∷ names) = (n : ℕ) × (low ≤ n) × (name ≡ made_name n) × AreRising (n + 1) high names

-- a wire is no port, and has no attributes
abbrev pub IsBare : Wire → Type 0
IsBare w = w ≡ inner_wire w.name w.width []

-- a cell of this kind, in a module of so many wires, has the parameters and pins of the kind, and no constant at its output
pub record IsWhole (count : ℕ) (kind : CellKind) (c : Cell) : Type 0 where
  pub own : cell_kind c ≡ Some kind
  pub shape : misfit kind c ≡ None
  pub output : has_constant_output (Library kind) c.pins ≡ false
  pub within : CellIn count c

-- the same of a cell of whatever kind, where it is one of the library
abbrev pub IsWholeCell : ℕ → Cell → Type 0
IsWholeCell count c = (kind : CellKind) → cell_kind c ≡ Some kind → IsWhole count kind c

-- the same of a gate, combinational or storage
pub record IsWholeGate (count : ℕ) (c : Cell) : Type 0 where
  pub kind : CellKind
  pub gate : is_gate (Some kind) ≡ true
  pub whole : IsWhole count kind c

-- a connection, in a module of so many wires, has sides of one width and no constant on its left
pub record IsWholeLink (count : ℕ) (l : Link) : Type 0 where
  pub even : is_uneven l ≡ false
  pub left : has_constant l.left ≡ false
  pub within : LinkIn count l

-- the bits of the signal at the output of a cell of a kind of the library
abbrev pub kind_bits : Option CellKind → Cell → List WireBit
kind_bits None c = []
kind_bits (Some kind) c = wire_bits (option_map_or (λ pin. signal_at c.pins (pin_text pin)) (output_pin kind) [])

-- the bits that a cell of the library drives; of an instance they are none
abbrev pub cell_bits : Cell → List WireBit
cell_bits c = kind_bits (cell_kind c) c

-- the bits that a connection drives
abbrev pub link_bits : Link → List WireBit
link_bits l = wire_bits l.left

-- what cells and then connections drive
abbrev pub driven_by : List Cell → List Link → List WireBit
driven_by cells links = flat_map cell_bits cells ++ flat_map link_bits links

-- the bits of wires, the first of which stands at this place of the list of wires
abbrev pub bits_from : ℕ → List Wire → List WireBit
bits_from first [] = []
bits_from first (w ∷ ws) = bits_of_wire first w.width ++ bits_from (first + 1) ws

-- these cells, wires and connections are what a map may add to a module for a cell of the library
pub record Expands (old new : Building) (c : Cell) (cells : List Cell) (wires : List Wire) (links : List Link) : Type 0 where
  pub adds : Adds old new cells wires links
  -- the fresh names are those of the numbers that were taken, in order
  pub cell_names : AreRising old.next new.next (map (λ (d : Cell). d.name) cells)
  pub wire_names : AreRising old.next new.next (map (λ (w : Wire). w.name) wires)
  pub bare : Each IsBare wires
  pub gates : Each (IsWholeGate (length new.body.wires)) cells
  pub lines : Each (IsWholeLink (length new.body.wires)) links
  -- each bit of a fresh wire is driven once, each bit that the cell drives as often as the cell drives it, and no other
  pub driven : IsPermutation (driven_by cells links) (bits_from (length old.body.wires) wires ++ cell_bits c)

-- what went last in a module is what a map may add to it for a cell
abbrev pub IsExpansion : Building → Building → Cell → Type 0
IsExpansion old new c = Expands old new c (cells_added old new) (wires_added old new) (links_added old new)

-- these cells and connections may stand in the place of a cell, in a module with these wires: the instances among them are
-- those that the cell is, and each solution of their rows meets the cell's rows
pub record StandsWith (ports : Ports) (start : SigBit → Bit) (wires : List Wire) (c : Cell) (cells : List Cell) (links : List Link) : Type 0 where
  pub children : instances cells ≡ instances (c ∷ [])
  pub rows :
      (p : Path) (t : Time Place) (w : Valuation) →
      Solved (cells_rows start ports p wires cells ++ link_rows p wires links) t w →
      SolvedBefore (cells_rows start ports p wires cells ++ link_rows p wires links) t → (d : Driven) →
      In d (cell_rows start ports p wires c (cell_kind c)) → IsMet d t w

-- what went last for a whole cell of this shape, of a kind that is mapped, is what a map may add for it
abbrev pub ExpandsMapped : (CellKind → Bool) → Shape → Cell → Building → Building → Type 0
ExpandsMapped is_mapped shape c old new =
    IsShapeOf c shape → is_mapped shape.kind ≡ true → IsWhole (length old.body.wires) shape.kind c → IsExpansion old new c

-- what went last for a cell of this shape, of a kind that is mapped, may stand in its place, in each module
abbrev pub StandsForMapped : (CellKind → Bool) → Shape → Cell → Building → Building → Type 0
StandsForMapped is_mapped shape c old new =
    IsShapeOf c shape → is_mapped shape.kind ≡ true → (ports : Ports) (start : SigBit → Bit) (wires : List Wire)
    → StandsWith ports start wires c (cells_added old new) (links_added old new)
