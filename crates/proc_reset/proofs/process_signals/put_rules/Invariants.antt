-- The signals so far and those of the rules that are left are all.
use Rattle.std.proofs.Common.{◌≡◌, ◌++◌, drop, flat_map}
use Rattle.proc_reset.specs.Reads.{rule_signals}
use Rattle.proc_reset.proofs.process_signals.put_rules.Given as goal

abbrev pub invariant-loop-rule : goal.invariant-loop-rule
invariant-loop-rule l = l.signals.items ++ flat_map rule_signals (drop l.rule-index l.rules) ≡ l.fn.signals.items ++ flat_map rule_signals l.rules
