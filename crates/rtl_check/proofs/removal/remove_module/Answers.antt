use Rattle.std.proofs.Common.{◌≡◌, [], subst, ap, ◌∙◌}
use Rattle.rtl_ir.specs.Faults.{check_faults}
use Rattle.rtl_check.specs.Due.{due_faults}
use Rattle.rtl_check.specs.Finds.{IsFirst}
use Rattle.rtl_check.proofs.Refusing.{removal_checked, removal_faultless}
use Rattle.rtl_check.proofs.removal.remove_module.Goals as goal

pub returns-in-Ok-clause-faultless : goal.returns-in-Ok-clause-faultless
returns-in-Ok-clause-faultless c =
    let due = c.in_ok-due.due in
    removal_faultless c.args.modules.now.items c.take_module.new.modules.items c.args.name.now due c.requires.faultless c.in_ok-due.ensures.moved c.take_module.ensures.value (subst (λ ms. due_faults due ms ≡ []) c.as_slice.ensures.value c.in-Ok.ensures.first)

pub returns-clause-err : goal.returns-clause-err
returns-clause-err c = c.put_back.ensures.value ∙ c.in-Some.ensures.back

pub returns-clause-first : goal.returns-clause-first
returns-clause-first c =
    let due = c.in_ok-due.due in
    removal_checked c.args.modules.now.items c.take_module.new.modules.items c.args.name.now due c.requires.faultless c.in_ok-due.ensures.moved c.take_module.ensures.value c.in-Err.fault
    (subst (λ ms. IsFirst c.in-Err.fault (due_faults due ms)) c.as_slice.ensures.value c.in-Err.ensures.first)

pub returns-clause-faultless : goal.returns-clause-faultless
returns-clause-faultless c = ap check_faults (c.put_back.ensures.value ∙ c.in-Some.ensures.back) ∙ c.requires.faultless
