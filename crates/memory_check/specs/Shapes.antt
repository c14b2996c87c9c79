-- The shapes of cells of memories.
use Rattle.std.specs.Prelude.{◌≡◌}
use Rattle.cell_types.specs.declared.kind.CellKind.TheVariants as Cells
use Rattle.cell_types.specs.declared.memory.MemoryKind.{MemoryKind}
use Rattle.cell_types.specs.declared.shape.Shape.{Shape}
use Rattle.cell_types.specs.Bounds.{KeepsBounds}
use Rattle.rtl_ir.specs.declared.cell.Cell.{Cell}
use Rattle.rtl_ir.specs.Flat.Cell.{cell_shape}

-- a cell of this kind has the shape, which keeps to its bounds
pub record HasShape (shape : Shape) (kind : MemoryKind) (c : Cell) : Type 0 where
  pub is : shape ≡ cell_shape (Cells.Memory kind) c.params
  pub bounds : KeepsBounds shape
