-- The other cells, by the bits that their outputs begin with.
use Rattle.std.specs.Prelude.{List, Option}
use Rattle.rtl_sig.specs.declared.sig.WireBit.{WireBit}
use Rattle.rtl_ir.specs.declared.cell.Cell.{Cell}
use Rattle.opt_expr.specs.Places.{other_at, place_from}

-- the combinational cell whose output begins with the bit, as it stands now, unless it is the one between those that are done
-- and the rest; the first list is the cells as the sweep began
abbrev pub other_of : List Cell → List (Option Cell) → List Cell → WireBit → Option Cell
other_of cells done rest b = other_at done rest (place_from 0 cells b)
