-- The rules so far have no such line.
use Rattle.std.proofs.Common.{◌≡◌, drop}
use Rattle.flat_net.specs.Accesses.{event_of, rules_of}
use Rattle.flat_net.proofs.line_ports.first_event.Given as goal

abbrev pub invariant-loop-process : goal.invariant-loop-process
invariant-loop-process l = event_of l.name (rules_of l.processes) ≡ event_of l.name (rules_of (drop l.process-index l.processes))
