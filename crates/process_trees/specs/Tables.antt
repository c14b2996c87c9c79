-- Tables of a module by which tests of its event bits are found.
use Rattle.std.specs.Prelude.{◌≡◌, List, [], Option, Some, None, length}
use Rattle.rtl_sig.specs.declared.sig.SigBit.{SigBit}
use Rattle.rtl_ir.specs.declared.module.Link.{Link}
use Rattle.rtl_ir.specs.declared.module.Module.{Module}
use Rattle.rtl_ir.specs.Drivers.{cell_drives}
use Rattle.rtl_ir.specs.Empty.{empty_module}
use Rattle.rtl_ir.specs.Follow.{all_joins}
use Rattle.rtl_ir.specs.Types.{Ports, table_ports}
use Rattle.net_index.specs.declared.driver.Driver.{Driver}
use Rattle.net_index.specs.declared.driver.Driver.TheVariants.{Link as ByLink}
use Rattle.net_index.specs.DriverFill.{HasDrivers}
use Rattle.net_index.specs.Drivers.{AreDrivers}
use Rattle.process_trees.specs.declared.tables.EventTests.{EventTests}

-- the module with these connections alone
abbrev pub links_alone : List Link → Module
links_alone links = record (empty_module []) { links = links }

-- the tables know these connections, and how many places they have
pub record AreLinks (tests : EventTests) (links : List Link) : Type 0 where
  pub index : AreDrivers tests.links (table_ports []) (links_alone links)
  pub steps : tests.steps ≡ length (all_joins links)

-- the tables are those of a module whose cells may be instances of modules with these ports
pub record AreTests (tests : EventTests) (ports : Ports) (m : Module) : Type 0 where
  pub cells : HasDrivers tests.cells (cell_drives ports 0 m.cells)
  pub links : AreLinks tests m.links

-- what a connection gives, where one is the driver
abbrev pub linked : Driver → Option SigBit
linked (ByLink source) = Some source
linked driver = None
