-- The start values of the rules so far stand.
use Rattle.std.proofs.Common.{◌≡◌, false, drop}
use Rattle.std.specs.List.{list_all}
use Rattle.rtl_ir.specs.Follow.{all_joins}
use Rattle.rtl_ir.specs.Rules.{init_lines}
use Rattle.process_check.specs.Values.{is_settled}
use Rattle.process_check.proofs.starts.starts_stand.Given as goal

abbrev pub invariant-loop-rule : goal.invariant-loop-rule
invariant-loop-rule l =
    list_all (is_settled l.root l.bits false) (all_joins (init_lines (drop l.rule-index l.rule-items))) ≡ list_all (is_settled l.root l.bits false) (all_joins (init_lines l.process.syncs))
