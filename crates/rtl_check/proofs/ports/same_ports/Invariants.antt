-- The ports so far are the same: the wires have the ports of the others where what is left has those that are left of them.
use Rattle.std.proofs.Common.{◌≡◌, ◌≤◌, drop, length}
use Rattle.rtl_ir.specs.Types.{port_lines}
use Rattle.rtl_check.proofs.ports.same_ports.Given as goal

abbrev pub invariant-loop-wire : goal.invariant-loop-wire
invariant-loop-wire l = record {
  within : l.from ≤ length l.others;
  equal : port_lines (drop l.wire-index l.wires) ≡ port_lines (drop l.from l.others) → port_lines l.wires ≡ port_lines l.others;
  complete : port_lines l.wires ≡ port_lines l.others → port_lines (drop l.wire-index l.wires) ≡ port_lines (drop l.from l.others);
}
