-- What is kept so far and what is left give all.
use Rattle.std.proofs.Common.{◌≡◌, ◌++◌, drop}
use Rattle.sim_eval.specs.First.{marked_ports, unmarked_ports}
use Rattle.sim_eval.proofs.first.first_ports.Given as goal

abbrev pub invariant-loop-port : goal.invariant-loop-port
invariant-loop-port l = record {
  kept : l.kept ++ unmarked_ports l.seen (drop l.port-index l.ports) ≡ unmarked_ports l.fn.seen l.ports;
  seen : marked_ports l.seen (drop l.port-index l.ports) ≡ marked_ports l.fn.seen l.ports;
}
