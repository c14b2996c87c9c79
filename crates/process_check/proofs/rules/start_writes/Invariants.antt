-- No rule so far that gives start values writes.
use Rattle.std.proofs.Common.{◌≡◌, ◌&&◌, drop}
use Rattle.std.specs.List.{list_any}
use Rattle.rtl_ir.specs.declared.process.SyncRule.{SyncRule}
use Rattle.rtl_ir.specs.Faults.RuleKinds.{writes}
use Rattle.rtl_ir.specs.Rules.{is_init}
use Rattle.process_check.proofs.rules.start_writes.Given as goal

abbrev pub invariant-loop-rule : goal.invariant-loop-rule
invariant-loop-rule l =
    list_any (λ (r : SyncRule). is_init r.event && writes r) (drop l.rule-index l.rules) ≡ list_any (λ (r : SyncRule). is_init r.event && writes r) l.rules
