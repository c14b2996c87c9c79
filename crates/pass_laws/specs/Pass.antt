-- What a pass promises of the module that it makes.
use Rattle.std.specs.Prelude.{◌≡◌}
use Rattle.rtl_ir.specs.Flat.Cell as flat
use Rattle.rtl_ir.specs.Flat.Tree as tree
use Rattle.rtl_ir.specs.Ports.{ports_of}
use Rattle.rtl_ir.specs.Types as types
use Rattle.rtl_ir.specs.declared.module.Module.{Module}
use Rattle.rtl_ir.specs.declared.ports.PortTable.{PortTable}
use Rattle.net_model.specs.Refine.{AgreeOn, IsWellDriven, RefinesIn}
use Rattle.pass_laws.specs.Ready.{IsReady}

-- name, ports and instances stay
pub record KeepsInterface (before after : Module) : Type 0 where
  -- the name
  pub id : before.id ≡ after.id
  -- the table of its ports
  pub ports : ports_of before.wires ≡ ports_of after.wires
  -- the instances, with their names and modules
  pub instances : flat.instances before.cells ≡ flat.instances after.cells

-- where no bit has two drivers, none has after the pass, whatever ports the instances have
abbrev pub StaysDriven : Module → Module → Type 0
StaysDriven before after = (over : flat.Ports) → IsWellDriven over before → IsWellDriven over after

-- what each pass promises, over the ports of the modules that are instantiated
pub record IsPass (table : PortTable) (before after : Module) : Type 0 where
  -- no known output bit is lost
  pub refines : RefinesIn before after table
  -- the answer may be given to the next pass, where the module may be given to this one
  pub ready : IsReady (types.table_ports table.modules) before → IsReady (types.table_ports table.modules) after
  -- no bit gets a second driver, in whatever design has these ports for the instances
  pub driven :
      (over : flat.Ports) → AgreeOn (tree.table_ports table) over (flat.instances before.cells) →
      IsWellDriven over before → IsWellDriven over after
  -- the name stays
  pub id : before.id ≡ after.id
  -- the ports stay
  pub ports : ports_of before.wires ≡ ports_of after.wires
  -- the instances stay
  pub instances : flat.instances before.cells ≡ flat.instances after.cells
