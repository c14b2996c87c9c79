use Rattle.std.proofs.Common.{◌≡◌, [], ◌∷◌, IfOk, sym, ◌∙◌, ap, subst}
use Rattle.rtl_ir.specs.EventTests.{switch_test}
use Rattle.rtl_ir.specs.Faults.TwoEdges.{cases_patterns}
use Rattle.rtl_ir.specs.Tree.{SwitchView, cases_of}
use Rattle.process_trees.specs.Tested.{only_place}
use Rattle.process_trees.proofs.Testing.{no_test, test_by}
use Rattle.process_trees.proofs.tables.EventTests.switch_test.Goals as goal

pub returns-in-Some : goal.returns-in-Some
returns-in-Some c = record {
  value = λ ports are fit.
      let m = c.args.module.now in
      let signal = c.as_slice.ensures.value ∙ ap (λ (s : SwitchView). s.signal) c.switch.view_is in
      let cases : cases_of c.deref.result.now ≡ c.args.switch.now.cases = ap cases_of c.deref.ensures.value ∙ ap (λ (s : SwitchView). s.cases) c.switch.view_is in
      let is = ap only_place (sym signal) ∙ sym c.only_place.ensures.value ∙ c.in-Some.is in
      subst (λ z. IfOk c.place_test.result (λ t. t ≡ z))
      (ap (λ cs. switch_test ports m c.args.event (c.in-Some.place ∷ []) (cases_patterns cs)) cases ∙ test_by ports m c.args.event c.args.switch.now.signal (cases_patterns c.args.switch.now.cases) c.in-Some.place is)
      (c.place_test.ensures.value ports are fit);
}

pub returns-in-None : goal.returns-in-None
returns-in-None c = record {
  value = λ ports are fit.
      let signal = c.as_slice.ensures.value ∙ ap (λ (s : SwitchView). s.signal) c.switch.view_is in
      no_test ports c.args.module.now c.args.event c.args.switch.now.signal (cases_patterns c.args.switch.now.cases) (ap only_place (sym signal) ∙ sym c.only_place.ensures.value ∙ c.in-None.is);
}
