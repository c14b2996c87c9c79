-- The faults of a design, in the order in which they are answered.
pub mod Wires
pub mod Stores
pub mod MemoryCells
pub mod Cells
pub mod Links
pub mod ProcessLimits
pub mod RuleKinds
pub mod SelfReading
pub mod TwoEdges
pub mod Processes
pub mod Bits
pub mod Recursion
use Rattle.std.specs.Prelude.{List, [], ◌∷◌, ◌++◌, Option, Some, None, flat_map}
use Rattle.rtl_ir.specs.declared.module.Module.{Module}
use Rattle.rtl_ir.specs.Drivers.{drives_of}
use Rattle.rtl_ir.specs.Fault.{Fault}
use Rattle.rtl_ir.specs.Scope.{Scope, everything}
use Rattle.rtl_ir.specs.Faults.Wires.{wire_faults}
use Rattle.rtl_ir.specs.Faults.Stores.{store_faults}
use Rattle.rtl_ir.specs.Faults.Cells.{cell_faults}
use Rattle.rtl_ir.specs.Faults.Processes.{process_faults}
use Rattle.rtl_ir.specs.Faults.Links.{link_faults}
use Rattle.rtl_ir.specs.Faults.Bits.{bits_faults}
use Rattle.rtl_ir.specs.Faults.Recursion.{recursion_faults}
use Rattle.rtl_ir.specs.Types.{Ports, design_ports}

-- the faults of a module, over the ports of the modules that it may instantiate
abbrev pub module_faults : Scope → Ports → Module → List Fault
module_faults scope ports m =
    wire_faults m.id [] m.wires
    ++ flat_map (store_faults scope m.id) m.memories
    ++ cell_faults scope ports m [] m.cells
    ++ process_faults scope ports m [] m.processes
    ++ link_faults m.id 1 m.links
    ++ bits_faults m.id (drives_of ports m) 0 m.wires

-- the faults of a design as far as it is taken: those of each module in order, and then those of recursion
abbrev pub faults_within : Scope → List Module → List Fault
faults_within scope modules = flat_map (module_faults scope (design_ports modules)) modules ++ recursion_faults modules

-- the faults of a design
abbrev pub check_faults : List Module → List Fault
check_faults modules = faults_within everything modules

-- the first of some faults
abbrev pub first_of : List Fault → Option Fault
first_of [] = None
first_of (fault ∷ faults) = Some fault
