use Rattle.std.proofs.Common.{◌≡◌, ◌∙◌, IfOk, ap, subst}
use Rattle.rtl_ir.specs.EventTests.{switch_test}
use Rattle.rtl_ir.specs.Tree.{CaseView}
use Rattle.process_trees.specs.Levels.{case_at}
use Rattle.process_trees.proofs.level.at_level.Goals as goal

pub returns : goal.returns
returns c = record {
  value = λ ports are fit.
      let test = switch_test ports c.args.by.now.«module».now c.args.by.now.event in
      subst (λ ps. IfOk c.decided_case.result (λ made. made ≡ case_at test c.args.by.now.level ps c.args.root.now))
      (c.in_ok-copy.ensures.value ∙ ap (λ (x : CaseView). x.patterns) c.root.view_is)
      (c.decided_case.ensures.value ports are fit);
}
