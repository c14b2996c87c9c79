-- The ports so far and those of the rules that are left are all.
use Rattle.std.proofs.Common.{◌≡◌, ◌+◌, ◌++◌, drop, length, map}
use Rattle.rtl_ir.specs.Flat.Access.{rule_accesses}
use Rattle.net_model.specs.Mem.Gather.{write_port}
use Rattle.flat_net.proofs.line_ports.put_rules.Given as goal

abbrev pub invariant-loop-rule : goal.invariant-loop-rule
invariant-loop-rule l =
    l.fn.ports.items ++ map write_port (rule_accesses l.name (l.number + length l.fn.ports.items) l.rules)
    ≡ l.ports.items ++ map write_port (rule_accesses l.name (l.number + length l.ports.items) (drop l.rule-index l.rules))
