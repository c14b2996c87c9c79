-- Clocks of write ports, followed along connections.
use Rattle.std.specs.Prelude.{◌≡◌, Bool, true, false, List, [], Option, Some, None, map}
use Rattle.cell_types.specs.declared.level.Level.{Level}
use Rattle.cell_types.specs.declared.level.Level.TheVariants.{Low, High}
use Rattle.rtl_ir.specs.declared.module.Link.{Link}
use Rattle.rtl_ir.specs.declared.module.Module.{Module}
use Rattle.rtl_ir.specs.Follow.{follow}
use Rattle.rtl_ir.specs.Types.{table_ports}
use Rattle.rtl_ir.specs.WritePorts as ports
use Rattle.net_index.specs.declared.drivers.Drivers.{Drivers}
use Rattle.net_index.specs.Drivers.{AreDrivers}
use Rattle.memory_check.specs.declared.clocks.Clocking.{Clocking}
use Rattle.memory_check.specs.declared.clocks.Clocks.{Clocks}

-- the high level
abbrev pub is_high : Level → Bool
is_high High = true
is_high Low = false

-- when a port acts, with its clock followed
abbrev pub followed : List Link → Clocking → ports.Clocking
followed links c = record { clock = map (follow links) c.clock.now; rising = c.rising }

-- the index is that of the module, where it was made
abbrev pub WasIndexed : Option Drivers → Module → Type 0
WasIndexed None m = Unit {0}
WasIndexed (Some index) m = AreDrivers index (table_ports []) m

-- the clocks are followed along the connections of the module
pub record AreClocks (clocks : Clocks) (m : Module) : Type 0 where
  pub body : clocks.body.now ≡ m
  pub index : WasIndexed clocks.index m
