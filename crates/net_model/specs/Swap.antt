-- Cells replaced one by one: what a pass owes that puts cells in the place of each cell and leaves all else.
use Rattle.std.specs.Prelude.{◌≡◌, List, [], ◌∷◌}
use Rattle.rtl_ir.specs.declared.cell.Cell.{Cell}
use Rattle.rtl_ir.specs.declared.module.Module.{Module}
use Rattle.rtl_ir.specs.declared.wire.Wire.{Wire}
use Rattle.rtl_bits.specs.declared.bit.Bit.{Bit}
use Rattle.rtl_sig.specs.declared.sig.SigBit.{SigBit}
use Rattle.rtl_ir.specs.Flat.Cell.{Ports, cell_kind, instances, cell_rows, cells_rows}
use Rattle.rtl_ir.specs.Flat.Driver.{Driven}
use Rattle.rtl_ir.specs.Flat.Place.{Path, Place}
use Rattle.net_model.specs.Lists.{In}
use Rattle.net_model.specs.Run.{Time}
use Rattle.net_model.specs.Valuation.{Valuation}
use Rattle.net_model.specs.Refine.{IsMet, Solved, SolvedBefore}

-- a module with other cells
abbrev pub with_cells : List Cell → Module → Module
with_cells cells m = record m { cells = cells }

-- these cells may stand in the place of a cell, in a module with these wires: the instances among them are those that the
-- cell is, and each solution of their rows meets the cell's rows
pub record StandsFor (ports : Ports) (start : SigBit → Bit) (wires : List Wire) (c : Cell) (cells : List Cell) : Type 0 where
  pub children : instances cells ≡ instances (c ∷ [])
  pub rows :
      (p : Path) (t : Time Place) (w : Valuation) → Solved (cells_rows start ports p wires cells) t w →
      SolvedBefore (cells_rows start ports p wires cells) t → (d : Driven) →
      In d (cell_rows start ports p wires c (cell_kind c)) → IsMet d t w
