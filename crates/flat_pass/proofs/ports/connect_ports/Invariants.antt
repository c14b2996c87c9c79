-- The connections so far, and those of the ports that are left, are all.
use Rattle.std.proofs.Common.{◌≡◌, ◌++◌, List, drop}
use Rattle.std.specs.Prelude.{flat_map}
use Rattle.rtl_ir.specs.declared.wire.Wire.{Wire}
use Rattle.flat_pass.specs.Ports.{ArePorts, port_line}
use Rattle.flat_pass.specs.Flat.{port_links}
use Rattle.flat_pass.specs.declared.ports.Port.{Port}
use Rattle.flat_pass.proofs.ports.connect_ports.Given as goal

abbrev pub invariant-loop-port : goal.invariant-loop-port
invariant-loop-port l =
    (wires : List Wire) → ArePorts l.ports wires → l.links ++ flat_map (λ (p : Port). port_links l.first wires l.pins (port_line p)) (drop l.port-index l.ports) ≡ l.initial.links ++ flat_map (λ (p : Port). port_links l.first wires l.pins (port_line p)) l.ports
