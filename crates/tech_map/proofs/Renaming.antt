-- What the maps add does not go by the name of the module.
use Rattle.std.proofs.Common.{◌≡◌, ℕ, List}
use Rattle.cell_types.specs.declared.kind.CellKind.{CellKind}
use Rattle.cell_types.specs.declared.kind.CellKind.TheVariants.{Storage, Word}
use Rattle.cell_types.specs.declared.shape.Shape.{Shape}
use Rattle.cell_types.specs.declared.word.ArithKind.TheVariants.{Mul}
use Rattle.cell_types.specs.declared.word.UnaryKind.TheVariants.{Neg}
use Rattle.cell_types.specs.declared.word.WordKind.TheVariants.{Unary, Order, Arith, Division, Shift}
use Rattle.rtl_ir.specs.Build.{Building}
use Rattle.rtl_ir.specs.Flat.Cell.{cell_shape}
use Rattle.rtl_ir.specs.declared.cell.Cell.{Cell}
use Rattle.map_laws.proofs.Renaming.{renamed}
use Rattle.map_add.proofs.Renaming as adds
use Rattle.map_flop.proofs.Renaming as flops
use Rattle.map_gates.proofs.Renaming as gates
use Rattle.map_mul.proofs.Renaming as products
use Rattle.map_shift.proofs.Renaming as shifts
use Rattle.tech_map.specs.Techmap.{expand_by_kind, expansion_of}

module _ (id : List ℕ) where
  expansion_renamed : (kind : CellKind) (shape : Shape) (c : Cell) (b : Building) → expansion_of kind shape c (renamed id b) ≡ renamed id (expansion_of kind shape c b)
  expansion_renamed (Word (Unary Neg)) shape c b = adds.map_renamed id shape c b
  expansion_renamed (Word (Arith Mul)) shape c b = products.map_renamed id shape c b
  expansion_renamed (Word (Arith kind)) shape c b = adds.map_renamed id shape c b
  expansion_renamed (Word (Order kind)) shape c b = adds.map_renamed id shape c b
  expansion_renamed (Word (Division kind)) shape c b = products.map_renamed id shape c b
  expansion_renamed (Word (Shift kind)) shape c b = shifts.map_renamed id shape c b
  expansion_renamed (Storage kind) shape c b = flops.map_renamed id shape c b
  expansion_renamed kind shape c b = gates.map_renamed id shape c b

  pub expand_renamed : (kind : CellKind) (c : Cell) (b : Building) → expand_by_kind kind c (renamed id b) ≡ renamed id (expand_by_kind kind c b)
  expand_renamed kind c b = expansion_renamed kind (cell_shape kind c.params) c b
