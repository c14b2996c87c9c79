-- The gates do not go by the name of the module.
use Rattle.std.proofs.Common.{◌≡◌, ℕ, suc, List, [], ◌∷◌, refl, ◌∙◌, ap}
use Rattle.cell_types.specs.declared.kind.CellKind.{CellKind}
use Rattle.cell_types.specs.declared.kind.CellKind.TheVariants.{Storage}
use Rattle.cell_types.specs.declared.pin_name.PinName.TheVariants.{Q}
use Rattle.cell_types.specs.declared.shape.Shape.{Shape}
use Rattle.rtl_ir.specs.Build.{Building}
use Rattle.rtl_ir.specs.declared.cell.Cell.{Cell}
use Rattle.rtl_sig.specs.declared.sig.SigBit.{SigBit}
use Rattle.map_laws.proofs.Renaming.{renamed}
use Rattle.map_laws.specs.Operand.{pin_signal}
use Rattle.map_flop.specs.Expand.{each_bit, gates_of, map_of}

module _ (id : List ℕ) where
  each_renamed : (put : ℕ → SigBit → Building → Building) → ((at : ℕ) (q : SigBit) (b : Building) → put at q (renamed id b) ≡ renamed id (put at q b)) → (at : ℕ) (qs : List SigBit) (b : Building) → each_bit put at qs (renamed id b) ≡ renamed id (each_bit put at qs b)
  each_renamed put same at [] b = refl
  each_renamed put same at (q ∷ qs) b = ap (each_bit put (suc at) qs) (same at q b) ∙ each_renamed put same (suc at) qs (put at q b)

  kind_renamed : (kind : CellKind) (shape : Shape) (c : Cell) (b : Building) → gates_of kind shape c (renamed id b) ≡ renamed id (gates_of kind shape c b)
  kind_renamed (Storage kind) shape c b = each_renamed _ (λ at q b. refl) 0 (pin_signal c Q) b
  kind_renamed kind shape c b = refl

  pub map_renamed : (shape : Shape) (c : Cell) (b : Building) → map_of shape c (renamed id b) ≡ renamed id (map_of shape c b)
  map_renamed shape c b = kind_renamed shape.kind shape c b
