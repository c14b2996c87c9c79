-- The places so far and those of the rules that are left are all.
use Rattle.std.proofs.Common.{◌≡◌, ◌++◌, drop}
use Rattle.rtl_ir.specs.Follow.{all_joins}
use Rattle.rtl_ir.specs.Rules.{init_lines}
use Rattle.rtl_ir.proofs.follow.init_joins.Given as goal

abbrev pub invariant-loop-rule : goal.invariant-loop-rule
invariant-loop-rule l = l.found.items ++ all_joins (init_lines (drop l.rule-index l.rules)) ≡ all_joins (init_lines l.rules)
