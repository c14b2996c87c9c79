-- The rules so far, and those of the rules that are left, are all that are left.
use Rattle.std.proofs.Common.{◌≡◌, ◌++◌, drop, false, filter, if◌then◌else◌, true}
use Rattle.rtl_ir.specs.declared.process.SyncRule.{SyncRule}
use Rattle.net_model.specs.Proc.Latch.{is_always}
use Rattle.proc_latch.proofs.process.rules_left.Given as goal

abbrev pub invariant-loop-rule : goal.invariant-loop-rule
invariant-loop-rule l =
    l.left.items ++ filter (λ (r : SyncRule). if is_always r.event then false else true) (drop l.rule-index l.rules)
    ≡ filter (λ (r : SyncRule). if is_always r.event then false else true) l.rules
