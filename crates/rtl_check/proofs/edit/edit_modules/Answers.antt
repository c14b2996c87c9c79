use Rattle.std.proofs.Common.{◌≡◌, [], Err, subst, ap, ◌∙◌}
use Rattle.std.proofs.lemmas.Result.{err_from_is_err_and}
use Rattle.rtl_ir.specs.Faults.{check_faults}
use Rattle.rtl_ir.specs.Types.{design_ports}
use Rattle.net_model.specs.Within.{Each}
use Rattle.rtl_check.specs.Due.{IsNoted, due_faults}
use Rattle.rtl_check.specs.Finds.{IsFirst}
use Rattle.rtl_check.proofs.Refusing.{edit_checked, edit_faultless, edit_memory, edit_placed}
use Rattle.rtl_check.proofs.edit.edit_modules.Goals as goal

pub returns-in_err-due-clause-fault : goal.returns-in_err-due-clause-fault
returns-in_err-due-clause-fault c =
    let p = err_from_is_err_and c.from_residual.result c.from_residual.ensures.1 in
    rw p.1 (edit_memory c.args.modules.now.items c.args.edits p.0 p.2)

pub returns-in_err-changes-clause-fault : goal.returns-in_err-changes-clause-fault
returns-in_err-changes-clause-fault c =
    let p = err_from_is_err_and c.from_residual-in_err-changes.result c.from_residual-in_err-changes.ensures.1 in
    rw p.1 (edit_placed c.args.modules.now.items c.args.edits c.in_err-changes.field-0.0 p.0 (λ at e. c.in_err-changes.ensures.past at (ap Err e)) p.2)

pub returns-in_err-changes-clause-faultless : goal.returns-in_err-changes-clause-faultless
returns-in_err-changes-clause-faultless c = ap check_faults c.in_err-changes.ensures.err ∙ c.requires.faultless

pub returns-in-Ok-clause-faultless : goal.returns-in-Ok-clause-faultless
returns-in-Ok-clause-faultless c =
    let due = c.in_ok-due.due in
    let noted = subst (λ es. Each (IsNoted (design_ports c.args.modules.now.items) due) es) c.as_slice-2.ensures.value (subst (λ ms. Each (IsNoted (design_ports ms) due) c.as_slice-2.result.now) c.as_slice.ensures.value c.in_ok-due.ensures.noted) in
    edit_faultless c.args.modules.now.items c.args.edits c.put_modules.new.modules.items due c.requires.faultless noted c.in_ok-changes.ensures.value (subst (λ ms. due_faults due ms ≡ []) c.as_slice-3.ensures.value c.in-Ok.ensures.first)

pub returns-clause-fault : goal.returns-clause-fault
returns-clause-fault c =
    let due = c.in_ok-due.due in
    let noted = subst (λ es. Each (IsNoted (design_ports c.args.modules.now.items) due) es) c.as_slice-2.ensures.value (subst (λ ms. Each (IsNoted (design_ports ms) due) c.as_slice-2.result.now) c.as_slice.ensures.value c.in_ok-due.ensures.noted) in
    edit_checked c.args.modules.now.items c.args.edits c.put_modules.new.modules.items due c.requires.faultless noted c.in_ok-changes.ensures.value c.in-Err.fault c.in_ok-changes.ensures.count
    (subst (λ ms. IsFirst c.in-Err.fault (due_faults due ms)) c.as_slice-3.ensures.value c.in-Err.ensures.first)
