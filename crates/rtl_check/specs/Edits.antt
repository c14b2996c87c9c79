-- Why an accepted design is not edited.
use Rattle.std.specs.Prelude.{◌≡◌, ◌⊎◌, ◌≤◌, List, length}
use Rattle.rtl_ir.specs.declared.limits.TheConstants.{MAX_MODULES}
use Rattle.rtl_ir.specs.declared.module.Module.{Module}
use Rattle.rtl_ir.specs.Faults.{check_faults}
use Rattle.design_edit.specs.declared.placement.PlaceFault.{PlaceFault}
use Rattle.design_edit.specs.declared.placement.PlaceFault.TheVariants as place
use Rattle.design_edit.specs.Modules.{PassesAt, with_modules}
use Rattle.rtl_check.specs.declared.edit.EditFault.{EditFault}
use Rattle.rtl_check.specs.declared.edit.EditFault.TheVariants.{Past, Check}
use Rattle.rtl_check.specs.declared.fault.CheckFault.TheVariants as check
use Rattle.rtl_check.specs.Finds.{IsFirst}

-- a fault of placing the edits, as one of the edit
abbrev pub edit_fault_of : PlaceFault → EditFault
edit_fault_of (place.Past at) = Past at
edit_fault_of place.Memory = Check check.Memory

-- one of the edits makes too many modules, or memory was wanted, or the edited modules have faults, and this is the first
abbrev pub IsEditFault : List Module → List Module → EditFault → Type 0
IsEditFault modules edits (Past at) = PassesAt modules edits at
IsEditFault modules edits (Check fault) =
    (fault ≡ check.Memory)
    ⊎ ((length (with_modules modules edits) ≤ MAX_MODULES) × IsFirst fault (check_faults (with_modules modules edits)))
