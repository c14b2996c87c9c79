use Rattle.std.proofs.Common.{◌∙◌, sym}
use Rattle.fsm_find.proofs.Comparing.{compares_is}
use Rattle.fsm_find.proofs.readers.compares.Goals as goal

pub returns-in_ok-yes-in-Some : goal.returns-in_ok-yes-in-Some
returns-in_ok-yes-in-Some c = record {
  value = λ ports m view. compares_is m c.args.view.now.state c.args.cell.now c.in-Some.kind c.in_ok-yes-in-Some.yes (sym c.in-Some.is ∙ c.cell_kind.ensures.value) (sym c.is_compare.ensures.value ∙ c.if-is_compare.true) (c.in_ok-yes-in-Some.ensures.value ports m view);
}
