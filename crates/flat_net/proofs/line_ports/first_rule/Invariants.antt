-- The rules so far have no such line.
use Rattle.std.proofs.Common.{◌≡◌, drop}
use Rattle.flat_net.specs.Accesses.{event_of}
use Rattle.flat_net.proofs.line_ports.first_rule.Given as goal

abbrev pub invariant-loop-rule : goal.invariant-loop-rule
invariant-loop-rule l = event_of l.name l.rules ≡ event_of l.name (drop l.rule-index l.rules)
