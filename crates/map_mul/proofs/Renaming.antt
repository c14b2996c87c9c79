-- The gates do not go by the name of the module.
use Rattle.std.proofs.Common.{◌≡◌, ℕ, Bool, true, false, List, refl}
use Rattle.std.specs.Prelude.{if◌then◌else◌}
use Rattle.cell_types.specs.declared.pin_name.PinName.TheVariants.{Y}
use Rattle.cell_types.specs.declared.shape.Shape.{Shape}
use Rattle.rtl_ir.specs.Build.{Building}
use Rattle.rtl_ir.specs.declared.cell.Cell.{Cell}
use Rattle.map_laws.proofs.Renaming.{renamed}
use Rattle.map_laws.specs.Operand.{pin_signal}
use Rattle.gate_nets.proofs.Expanding.{given_renamed}
use Rattle.map_mul.specs.Expand.{given, is_mapped, map_of, value_of}
use Rattle.map_mul.proofs.Expanded.{net_kind}

module _ (id : List ℕ) (shape : Shape) (c : Cell) (b : Building) where
  abbrev added : Building → Building
  added = given (value_of shape.kind shape c) c

  value_renamed : added (renamed id b) ≡ renamed id (added b)
  value_renamed = given_renamed id (pin_signal c Y) (value_of shape.kind shape c) b (net_kind shape c shape.kind)

  pub map_renamed : map_of shape c (renamed id b) ≡ renamed id (map_of shape c b)
  map_renamed = by (is_mapped shape.kind)
    where
      by : (t : Bool) → (if t then added (renamed id b) else renamed id b) ≡ renamed id (if t then added b else b)
      by true = value_renamed
      by false = refl
