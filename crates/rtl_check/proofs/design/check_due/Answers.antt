use Rattle.std.proofs.Common.{sym, ◌∙◌}
use Rattle.std.proofs.lemmas.Result.{err_from_is_err_and}
use Rattle.rtl_ir.specs.Faults.{module_faults}
use Rattle.rtl_ir.specs.Scope.{everything}
use Rattle.rtl_ir.specs.Types.{design_ports}
use Rattle.rtl_check.specs.Due.{is_due}
use Rattle.rtl_check.proofs.Noting.{due_first, due_next, due_passed}
use Rattle.rtl_check.proofs.design.check_due.Goals as goal
use Rattle.rtl_check.proofs.design.check_due.Goals.{then-has+in_ok-check_module, else-has}

pub returns-in_err-check_module : goal.returns-in_err-check_module
returns-in_err-check_module c = record {
  first =
      let p = err_from_is_err_and c.from_residual-in_err-check_module.result c.from_residual-in_err-check_module.ensures.1 in
      rw (p.1, p.2)
      (due_first (module_faults everything (design_ports c.args.modules.now)) (is_due c.args.due.now) c.args.modules.now c.loop-body.body-index c.body-item.result c.loop-body-test.true c.body-item.is c.loop-body.invariant
      c.in_err-check_module.field-0.0 (sym c.has.ensures.value ∙ c.if-has.true) (c.in_err-check_module.ensures.first (design_ports c.args.modules.now) c.in_ok-types.ensures.value));
}

pub loop-body-preserved : goal.loop-body-preserved
loop-body-preserved c =
    elim c.if-has.branch [
      | then-has+in_ok-check_module w ↦ due_next (module_faults everything (design_ports c.args.modules.now)) (is_due c.args.due.now) c.args.modules.now c.loop-body.body-index c.body-item.result c.loop-body-test.true c.body-item.is c.loop-body.invariant
          (sym c.has.ensures.value ∙ w.if-has.true) (w.in_ok-check_module.ensures.first (design_ports c.args.modules.now) c.in_ok-types.ensures.value)
      | else-has w ↦ due_passed (module_faults everything (design_ports c.args.modules.now)) (is_due c.args.due.now) c.args.modules.now c.loop-body.body-index c.body-item.result c.loop-body-test.true c.body-item.is c.loop-body.invariant
          (sym c.has.ensures.value ∙ w.if-has.false)
    ]
