use Rattle.std.proofs.Common.{◌∙◌, ◌&&◌, not, refl, sym, ap}
use Rattle.std.specs.List.{list_any}
use Rattle.rtl_ir.specs.declared.process.SyncRule.{SyncRule}
use Rattle.rtl_ir.specs.Faults.RuleKinds.{writes}
use Rattle.rtl_ir.specs.Rules.{acting_rules, is_init}
use Rattle.process_check.proofs.RuleLemmas.{all_found}
use Rattle.process_check.proofs.rules.rules_stand.Goals as goal

pub returns-then-acting_stand : goal.returns-then-acting_stand
returns-then-acting_stand c = record {
  value =
      ap (λ t. t && not c.start_writes.result) (sym c.if-acting_stand.true)
      ∙ all_found c.args.rules.now c.acting_stand.result c.start_writes.result (c.acting_stand.ensures.value (acting_rules c.args.rules.now) c.acting_rules.ensures.value) c.start_writes.ensures.value;
}

pub returns-else-acting_stand : goal.returns-else-acting_stand
returns-else-acting_stand c = record {
  value =
      c.if-acting_stand.false
      ∙ ap (λ t. t && not (list_any (λ (r : SyncRule). is_init r.event && writes r) c.args.rules.now)) (sym c.if-acting_stand.false)
      ∙ all_found c.args.rules.now c.acting_stand.result _ (c.acting_stand.ensures.value (acting_rules c.args.rules.now) c.acting_rules.ensures.value) refl;
}
