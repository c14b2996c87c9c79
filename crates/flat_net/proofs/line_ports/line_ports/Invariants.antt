-- The ports so far and those of the processes that are left are all.
use Rattle.std.proofs.Common.{◌≡◌, ◌+◌, ◌++◌, drop, length, map}
use Rattle.rtl_ir.specs.Flat.Access.{rule_accesses}
use Rattle.net_model.specs.Mem.Gather.{write_port}
use Rattle.flat_net.specs.Accesses.{rules_of}
use Rattle.flat_net.proofs.line_ports.line_ports.Given as goal

abbrev pub invariant-loop-process : goal.invariant-loop-process
invariant-loop-process l =
    map write_port (rule_accesses l.name l.number (rules_of l.processes))
    ≡ l.ports.items ++ map write_port (rule_accesses l.name (l.number + length l.ports.items) (rules_of (drop l.process-index l.processes)))
