use Rattle.std.specs.Bool.{one_answer}
use Rattle.std.specs.Cmp.Lexicographic.{pointwise}
use Rattle.rtl_ir.specs.Faults.RuleKinds.{same_line}
use Rattle.process_check.proofs.RuleLemmas.{lines-decides}
use Rattle.process_check.proofs.rules.same_updates.Goals as goal

pub returns : goal.returns
returns c = record {
  value = one_answer c.same.result (pointwise same_line c.args.first.now.updates c.args.second.now.updates) (c.same.ensures.equal, c.same.ensures.complete) (lines-decides c.args.first.now.updates c.args.second.now.updates);
}
