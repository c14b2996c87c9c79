-- What a step of `proc` promises.
use Rattle.std.specs.Prelude.{◌≡◌}
use Rattle.rtl_ir.specs.Flat.Cell as flat
use Rattle.rtl_ir.specs.Ports.{ports_of}
use Rattle.rtl_ir.specs.Scope.{with_processes}
use Rattle.rtl_ir.specs.Types as types
use Rattle.rtl_ir.specs.declared.module.Module.{Module}
use Rattle.rtl_ir.specs.declared.ports.PortTable.{PortTable}
use Rattle.net_model.specs.Refine.{RefinesIn}
use Rattle.pass_laws.specs.Pass.{StaysDriven}
use Rattle.proc_laws.specs.Ready.{IsReady}

-- what each step promises, over the ports of the modules that are instantiated
pub record IsStep (table : PortTable) (before after : Module) : Type 0 where
  -- no known output bit is lost
  pub refines : RefinesIn before after table
  -- no bit gets a second driver, whatever ports the instances have
  pub driven : StaysDriven before after
  -- the name stays
  pub id : before.id ≡ after.id
  -- the ports stay
  pub ports : ports_of before.wires ≡ ports_of after.wires
  -- the instances stay
  pub instances : flat.instances before.cells ≡ flat.instances after.cells

-- the answer of a step may be given to the next one
abbrev pub StaysReady : PortTable → Module → Module → Type 0
StaysReady table before after =
    IsReady with_processes (types.table_ports table.modules) before →
    IsReady with_processes (types.table_ports table.modules) after
