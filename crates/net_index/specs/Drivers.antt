-- What the drivers of a module hold.
use Rattle.rtl_ir.specs.declared.module.Module.{Module}
use Rattle.rtl_ir.specs.Drivers.{drives_of}
use Rattle.rtl_ir.specs.Follow.{all_joins}
use Rattle.rtl_ir.specs.Types.{Ports}
use Rattle.net_index.specs.declared.drivers.Drivers.{Drivers}
use Rattle.net_index.specs.DriverFill.{HasDrivers}
use Rattle.net_index.specs.IndexWays.{AreWays}

-- the drivers are those of a module over these ports: the table has the first driver of each bit that has one, and what
-- is known of the ways along the connections is so
pub record AreDrivers (drivers : Drivers) (ports : Ports) (m : Module) : Type 0 where
  pub table : HasDrivers drivers.table (drives_of ports m)
  pub ways : AreWays drivers.ways (all_joins m.links)
