-- Machines of modules.
use Rattle.std.specs.Prelude.{◌≡◌, ℕ, Some}
use Rattle.rtl_ir.specs.Types.{table_ports}
use Rattle.rtl_ir.specs.declared.machine.Machine.{Machine}
use Rattle.rtl_ir.specs.declared.module.Module.{Module}
use Rattle.rtl_ir.specs.declared.ports.PortTable.{PortTable}
use Rattle.net_model.specs.Fsm.Find.{machine_of}
use Rattle.pass_laws.specs.Ready.{IsReady}

-- a pass may be given the module, and the machine is the one whose state a wire of the module holds
pub record IsMachineOf (table : PortTable) (m : Module) (machine : Machine) : Type 0 where
  pub ready : IsReady (table_ports table.modules) m
  -- the place of the wire
  pub at : ℕ
  pub is : machine_of (table_ports table.modules) m at ≡ Some machine
