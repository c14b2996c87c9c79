-- The bits that cells and connections drive, as the check of a module counts them.
use Rattle.std.specs.Prelude.{List, [], ◌∷◌, ◌++◌, flat_map, if◌then◌else◌}
use Rattle.rtl_sig.specs.declared.sig.WireBit.{WireBit}
use Rattle.rtl_ir.specs.Outputs.{drives_pin}
use Rattle.rtl_ir.specs.Signals.{wire_bits}
use Rattle.rtl_ir.specs.Types.{CellType, Ports, cell_type}
use Rattle.rtl_ir.specs.declared.cell.Cell.{Cell}
use Rattle.rtl_ir.specs.declared.cell.Pin.{Pin}
use Rattle.rtl_ir.specs.declared.module.Link.{Link}

-- the bits that pins of a cell of a type drive
abbrev pub pin_bits : CellType → List Pin → List WireBit
pin_bits type [] = []
pin_bits type (p ∷ ps) = (if drives_pin type p.name then wire_bits p.sig else []) ++ pin_bits type ps

-- the bits that cells drive
abbrev pub cells_bits : Ports → List Cell → List WireBit
cells_bits ports cells = flat_map (λ (c : Cell). pin_bits (cell_type ports c.kind_name) c.pins) cells

-- the bits on the left of connections
abbrev pub links_bits : List Link → List WireBit
links_bits links = flat_map (λ (l : Link). wire_bits l.left) links
