-- The input bits of cells, replaced by the bits or constants that they follow through the connections.
use Rattle.std.specs.Prelude.{◌≡◌, ◌⊎◌, ℕ, List, [], ◌∷◌, map, if◌then◌else◌}
use Rattle.rtl_sig.specs.declared.sig.SigBit.{SigBit}
use Rattle.rtl_ir.specs.declared.cell.Cell.{Cell}
use Rattle.rtl_ir.specs.declared.cell.Pin.{Pin}
use Rattle.rtl_ir.specs.declared.module.Link.{Link}
use Rattle.rtl_ir.specs.declared.module.Module.{Module}
use Rattle.rtl_ir.specs.Follow.{follow}
use Rattle.rtl_ir.specs.Outputs.{drives_pin}
use Rattle.rtl_ir.specs.Types.{Ports, CellType, cell_type}

-- what stands at a pin of this name of a cell of this type: bit by bit what is followed to, unless the cell drives the pin
abbrev pub followed_at : CellType → List Link → List ℕ → List SigBit → List SigBit
followed_at type links name signal = if drives_pin type name then signal else map (follow links) signal

-- a pin of a cell of this type
abbrev pub followed_pin : CellType → List Link → Pin → Pin
followed_pin type links pin = record pin { sig = followed_at type links pin.name pin.sig }

-- a cell, whose type is told over these ports: its pins hold their places
abbrev pub followed_cell : Ports → List Link → Cell → Cell
followed_cell ports links c = record c { pins = map (followed_pin (cell_type ports c.kind_name) links) c.pins }

-- a module, with the inputs of all its cells followed
abbrev pub followed : Ports → Module → Module
followed ports m = record m { cells = map (followed_cell ports m.links) m.cells }

-- of two lists of cells each cell of the second is that of the first, as it is or with its inputs followed
abbrev pub MayFollow : Ports → List Link → List Cell → List Cell → Type 0
MayFollow ports links [] [] = Unit {0}
MayFollow ports links (c ∷ cs) (d ∷ ds) = ((c ≡ d) ⊎ (followed_cell ports links c ≡ d)) × MayFollow ports links cs ds
MayFollow ports links [] (d ∷ ds) = ⊥
MayFollow ports links (c ∷ cs) [] = ⊥
