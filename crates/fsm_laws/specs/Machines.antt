-- What a machine that is found has.
use Rattle.std.specs.Prelude.{◌≡◌, ◌&&◌, ℕ, true, Some, slice_get}
use Rattle.cell_types.specs.declared.pin_name.PinName.TheVariants.{Q}
use Rattle.rtl_ir.specs.declared.cell.Cell.{Cell}
use Rattle.rtl_ir.specs.declared.machine.Machine.{Machine}
use Rattle.rtl_ir.specs.declared.module.Module.{Module}
use Rattle.rtl_ir.specs.declared.wire.Wire.{Wire}
use Rattle.rtl_ir.specs.Flat.Cell.{cell_kind}
use Rattle.rtl_ir.specs.Types.{Ports}
use Rattle.rtl_ir.specs.Signals.{same_signal}
use Rattle.net_model.specs.Fsm.Find.{Tree, at_pin, is_flop, is_machine, made_machine, may_be_state, tree_of, whole_wire}

-- its wire, its flip-flop and its tree, and what was asked of it
pub record IsFoundMachine (ports : Ports) (m : Module) (at : ℕ) (machine : Machine) : Type 0 where
  pub wire : Wire
  pub there : slice_get m.wires at ≡ Some wire
  pub may : may_be_state wire ≡ true
  pub place : ℕ
  pub flop : Cell
  pub flop_there : slice_get m.cells place ≡ Some flop
  pub flop_is : (is_flop (cell_kind flop) && same_signal (at_pin flop Q) (whole_wire at wire)) ≡ true
  pub tree : Tree
  pub tree_is : tree_of m (whole_wire at wire) flop ≡ Some tree
  pub made : machine ≡ made_machine m at (whole_wire at wire) place flop tree
  pub asked : is_machine ports m (whole_wire at wire) flop machine ≡ true
