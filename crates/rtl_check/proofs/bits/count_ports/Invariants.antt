-- The ports so far and those that are left are all counted.
use Rattle.std.proofs.Common.{◌≡◌, drop}
use Rattle.rtl_check.specs.Tallies.{port_bits, with_bits}
use Rattle.rtl_check.proofs.bits.count_ports.Given as goal

abbrev pub invariant-loop-place : goal.invariant-loop-place
invariant-loop-place l = with_bits l.tally (port_bits l.place (drop l.place l.wires)) ≡ with_bits l.fn.tally (port_bits 0 l.wires)
