-- No wire so far is a port.
use Rattle.std.proofs.Common.{◌≡◌, drop}
use Rattle.rtl_ir.specs.Types.{port_lines}
use Rattle.rtl_check.proofs.ports.has_no_port.Given as goal

abbrev pub invariant-loop-at : goal.invariant-loop-at
invariant-loop-at l = port_lines (drop l.at l.wires) ≡ port_lines (drop l.from l.wires)
