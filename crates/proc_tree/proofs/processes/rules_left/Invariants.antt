-- The rules so far and those of the rest are all.
use Rattle.std.proofs.Common.{◌≡◌, ◌++◌, drop, filter, not}
use Rattle.rtl_ir.specs.declared.process.SyncRule.{SyncRule}
use Rattle.rtl_ir.specs.Rules.{is_init}
use Rattle.proc_tree.proofs.processes.rules_left.Given as goal

abbrev pub invariant-loop-rule : goal.invariant-loop-rule
invariant-loop-rule l = l.left.items ++ filter (λ (r : SyncRule). not (is_init r.event)) (drop l.rule-index l.rules) ≡ filter (λ (r : SyncRule). not (is_init r.event)) l.rules
