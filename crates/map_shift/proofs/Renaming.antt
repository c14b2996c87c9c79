-- The gates do not go by the name of the module.
use Rattle.std.proofs.Common.{◌≡◌, ℕ, Bool, true, false, List, refl}
use Rattle.std.specs.Prelude.{if◌then◌else◌}
use Rattle.cell_types.specs.declared.kind.CellKind.{CellKind}
use Rattle.cell_types.specs.declared.kind.CellKind.TheVariants.{Word}
use Rattle.cell_types.specs.declared.pin_name.PinName.TheVariants.{Y}
use Rattle.cell_types.specs.declared.shape.Shape.{Shape}
use Rattle.cell_types.specs.declared.word.WordKind.TheVariants.{Shift}
use Rattle.rtl_bits.specs.declared.bit.Bit.TheVariants.{X}
use Rattle.rtl_ir.specs.Build.{Building}
use Rattle.rtl_ir.specs.declared.cell.Cell.{Cell}
use Rattle.map_laws.proofs.Renaming.{renamed}
use Rattle.map_laws.specs.Operand.{pin_signal}
use Rattle.gate_nets.specs.Give.{given}
use Rattle.gate_nets.proofs.Expanding.{given_renamed}
use Rattle.gate_nets.proofs.Nets.{Net, net_pure, net_weaker, nothing}
use Rattle.map_shift.specs.Expand.{is_mapped, map_of, value_of}
use Rattle.map_shift.proofs.Nets.{net_shift}

module _ (id : List ℕ) (shape : Shape) (c : Cell) (b : Building) where
  net_kind : (kind : CellKind) → Net nothing (Unit {0}) (value_of kind shape c) (λ ys. Unit {0})
  net_kind (Word (Shift kind)) = net_weaker nothing (net_shift nothing (λ s. X) kind shape c (λ s i. tt) (λ s i. tt)) (λ ys w. tt)
  net_kind kind = net_pure nothing (λ r. tt)

  abbrev added : Building → Building
  added = given (pin_signal c Y) (value_of shape.kind shape c)

  value_renamed : added (renamed id b) ≡ renamed id (added b)
  value_renamed =
      given_renamed id (pin_signal c Y) (value_of shape.kind shape c) b (net_kind shape.kind)

  pub map_renamed : map_of shape c (renamed id b) ≡ renamed id (map_of shape c b)
  map_renamed = by (is_mapped shape.kind)
    where
      by : (t : Bool) → (if t then added (renamed id b) else renamed id b) ≡ renamed id (if t then added b else b)
      by true = value_renamed
      by false = refl
