-- None so far has it.
use Rattle.std.proofs.Common.{◌≡◌, drop}
use Rattle.std.specs.List.{list_any}
use Rattle.process_check.specs.Flaws.{rule_has}
use Rattle.process_check.proofs.flaws.rules_have.Given as goal

abbrev pub invariant-loop-rule : goal.invariant-loop-rule
invariant-loop-rule l = list_any (rule_has l.flaw) (drop l.rule-index l.rules) ≡ list_any (rule_has l.flaw) l.rules
