-- The number so far is that of the ports from here on.
use Rattle.std.proofs.Common.{◌≡◌, drop}
use Rattle.flat_net.specs.Accesses.{next_of}
use Rattle.flat_net.proofs.line_ports.next_number.Given as goal

abbrev pub invariant-loop-at : goal.invariant-loop-at
invariant-loop-at l = l.next ≡ next_of (drop l.at l.ports)
