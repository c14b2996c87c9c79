-- The plan of a memory of the module.
use Rattle.std.specs.Prelude.{◌≡◌, Some}
use Rattle.rtl_ir.specs.Types.{table_ports}
use Rattle.rtl_ir.specs.declared.module.Module.{Module}
use Rattle.rtl_ir.specs.declared.plan.MemPlan.{MemPlan}
use Rattle.rtl_ir.specs.declared.ports.PortTable.{PortTable}
use Rattle.net_model.specs.Mem.Gather.{plan_of}
use Rattle.pass_laws.specs.Ready.{IsReady}
use Rattle.pass_laws.specs.OwnNames.{HaveOwnNames}

-- the plan is the one that is gathered for its memory from the module, which a pass may be given over the ports of these modules,
-- and of whose memories no two have one name
pub record IsGathered (table : PortTable) (m : Module) (plan : MemPlan) : Type 0 where
  pub ready : IsReady (table_ports table.modules) m
  pub named : HaveOwnNames m
  pub from : Some plan ≡ plan_of m plan.store
