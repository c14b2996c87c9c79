-- Why edits of accepted designs are refused, and that those which are not have no fault.
use Rattle.std.proofs.Common.{◌≡◌, ◌≤◌, ℕ, true, List, [], length, inl, inr, refl, sym, subst, ◌∙◌}
use Rattle.rtl_sig.specs.Names.{has_name}
use Rattle.rtl_ir.specs.declared.limits.TheConstants.{MAX_MODULES}
use Rattle.rtl_ir.specs.declared.module.Module.{Module}
use Rattle.rtl_ir.specs.Faults.{check_faults}
use Rattle.rtl_ir.specs.Types.{design_ports}
use Rattle.net_model.specs.Within.{Each}
use Rattle.design_edit.specs.declared.placement.PlaceFault.{PlaceFault}
use Rattle.design_edit.specs.declared.placement.PlaceFault.TheVariants as place
use Rattle.design_edit.specs.Modules.{PassesAt, with_modules, without_module}
use Rattle.rtl_check.specs.declared.due.Due.{Due}
use Rattle.rtl_check.specs.declared.edit.EditFault.{EditFault}
use Rattle.rtl_check.specs.declared.edit.EditFault.TheVariants.{Past, Check}
use Rattle.rtl_check.specs.declared.fault.CheckFault.{CheckFault}
use Rattle.rtl_check.specs.declared.fault.CheckFault.TheVariants as check
use Rattle.rtl_check.specs.Due.{IsNoted, due_faults}
use Rattle.rtl_check.specs.Edits.{IsEditFault, edit_fault_of}
use Rattle.rtl_check.specs.Finds.{IsFirst}
use Rattle.rtl_check.proofs.Edited.{edited_faults, edits_edited, removal_edited}

module _ (modules edits : List Module) where
  -- want of memory
  pub edit_memory : (fault : EditFault) → fault ≡ Check check.Memory → IsEditFault modules edits fault
  edit_memory fault is = subst (IsEditFault modules edits) (sym is) (inl refl)

  -- a fault of placing the edits
  pub edit_placed : (given : PlaceFault) (fault : EditFault) → ((at : ℕ) → given ≡ place.Past at → PassesAt modules edits at) → fault ≡ edit_fault_of given → IsEditFault modules edits fault
  edit_placed (place.Past at) fault past is = subst (IsEditFault modules edits) (sym is) (past at refl)
  edit_placed place.Memory fault past is = edit_memory fault is

  module _ (after : List Module) (due : Due) (none : check_faults modules ≡ []) (noted : Each (IsNoted (design_ports modules) due) edits) (is : after ≡ with_modules modules edits) where
    alike : check_faults after ≡ due_faults due after
    alike = subst (λ (ms : List Module). check_faults ms ≡ due_faults due ms) (sym is) (edited_faults modules (with_modules modules edits) due none (edits_edited modules edits due noted))

    -- a fault of the modules that are due, or of recursion
    pub edit_checked : (fault : CheckFault) → length after ≤ MAX_MODULES → IsFirst fault (due_faults due after) → IsEditFault modules edits (Check fault)
    edit_checked fault few first =
        inr (subst (λ (ms : List Module). length ms ≤ MAX_MODULES) is few, subst (λ (ms : List Module). IsFirst fault (check_faults ms)) is (subst (IsFirst fault) (sym alike) first))

    -- none
    pub edit_faultless : due_faults due after ≡ [] → check_faults after ≡ []
    edit_faultless left = alike ∙ left

module _ (modules after : List Module) (gone : List ℕ) (due : Due) (none : check_faults modules ≡ []) (moved : has_name due.moved gone ≡ true) (is : after ≡ without_module modules gone) where
  alike_without : check_faults after ≡ due_faults due after
  alike_without = subst (λ (ms : List Module). check_faults ms ≡ due_faults due ms) (sym is) (edited_faults modules (without_module modules gone) due none (removal_edited modules gone due moved))

  pub removal_checked : (fault : CheckFault) → IsFirst fault (due_faults due after) → IsFirst fault (check_faults (without_module modules gone))
  removal_checked fault first = subst (λ (ms : List Module). IsFirst fault (check_faults ms)) is (subst (IsFirst fault) (sym alike_without) first)

  pub removal_faultless : due_faults due after ≡ [] → check_faults after ≡ []
  removal_faultless left = alike_without ∙ left
