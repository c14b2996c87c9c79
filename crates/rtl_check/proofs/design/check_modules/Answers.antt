use Rattle.std.proofs.lemmas.Result.{err_from_is_err_and}
use Rattle.rtl_ir.specs.Faults.{module_faults}
use Rattle.rtl_ir.specs.Scope.{everything}
use Rattle.rtl_ir.specs.Types.{design_ports}
use Rattle.rtl_check.proofs.Designs.{first_at, next_at}
use Rattle.rtl_check.proofs.design.check_modules.Goals as goal

pub returns-in_err-check_module : goal.returns-in_err-check_module
returns-in_err-check_module c = record {
  first =
      let p = err_from_is_err_and c.from_residual-in_err-check_module.result c.from_residual-in_err-check_module.ensures.1 in
      rw (p.1, p.2)
      (first_at (module_faults everything (design_ports c.args.modules.now)) c.args.modules.now c.loop-body.body-index c.body-item.result c.loop-body-test.true c.body-item.is c.loop-body.invariant c.in_err-check_module.field-0.0
      (c.in_err-check_module.ensures.first (design_ports c.args.modules.now) c.in_ok-types.ensures.value));
}

pub loop-body-preserved : goal.loop-body-preserved
loop-body-preserved c =
    next_at (module_faults everything (design_ports c.args.modules.now)) c.args.modules.now c.loop-body.body-index c.body-item.result c.loop-body-test.true c.body-item.is c.loop-body.invariant
    (c.in_ok-check_module.ensures.first (design_ports c.args.modules.now) c.in_ok-types.ensures.value)
