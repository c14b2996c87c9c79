-- The ports of a module, as the code holds them.
use Rattle.std.specs.Prelude.{◌≡◌, List, map}
use Rattle.rtl_ir.specs.declared.ports.PortLine.{PortLine}
use Rattle.rtl_ir.specs.declared.wire.Wire.{Wire}
use Rattle.rtl_ir.specs.Ports.{line_of, ports_of}
use Rattle.net_model.specs.Within.{Each}
use Rattle.flat_pass.specs.Flat.{place_of_wire}
use Rattle.flat_pass.specs.declared.ports.Port.{Port}

-- what a port is to other modules
abbrev pub port_line : Port → PortLine
port_line p = line_of p.wire.now

-- the place of a port is that of its wire among these
abbrev pub HasPlace : List Wire → Port → Type 0
HasPlace wires p = p.place ≡ place_of_wire wires p.wire.now.name

-- ports of these wires, in order of number, with the places of their wires
pub record ArePorts (ports : List Port) (wires : List Wire) : Type 0 where
  pub lines : map port_line ports ≡ ports_of wires
  pub places : Each (HasPlace wires) ports
