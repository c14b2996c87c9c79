-- What drives a bit, as an index answers it.
use Rattle.std.specs.Prelude.{Option, Some, None}
use Rattle.rtl_ir.specs.Drivers.{Source, FromPort, FromCell, FromLink, FromTree, FromRules}
use Rattle.net_index.specs.declared.driver.Driver.{Driver}
use Rattle.net_index.specs.declared.driver.Driver.TheVariants.{Nothing, Port, Cell, Link, Tree, Sync}

-- a source, as it is answered
abbrev pub driver_by : Source → Driver
driver_by FromPort = Port
driver_by (FromCell cell pin at) = Cell (record { cell = cell; pin = pin; at = at })
driver_by (FromLink source) = Link source
driver_by (FromTree process) = Tree process
driver_by (FromRules process) = Sync process

-- what is answered of a bit that this drives, if anything does
abbrev pub driver_answer : Option Source → Driver
driver_answer (Some source) = driver_by source
driver_answer None = Nothing
