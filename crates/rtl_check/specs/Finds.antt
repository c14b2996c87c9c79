-- What a part of the check answers.
use Rattle.std.specs.Prelude.{◌≡◌, List, [], Option, Some, option_map, Result, Ok, Err}
use Rattle.rtl_ir.specs.Fault as rtl
use Rattle.rtl_ir.specs.Faults.{first_of}
use Rattle.rtl_check.specs.declared.fault.CheckFault.{CheckFault}
use Rattle.rtl_check.specs.declared.fault.CheckFault.TheVariants as check
use Rattle.rtl_check.specs.Words.{answer_of}

-- the first of some faults, as the check answers it
abbrev pub first_answer : List rtl.Fault → Option CheckFault
first_answer faults = option_map answer_of (first_of faults)

-- the fault is the first of these, where it is one
abbrev pub IsFirst : CheckFault → List rtl.Fault → Type 0
IsFirst check.Memory faults = Unit {0}
IsFirst fault faults = first_answer faults ≡ Some fault

-- there is none of these faults, or the first one is answered; memory may be wanted instead
abbrev pub Finds : {A : Type 0} → Result A CheckFault → List rtl.Fault → Type 0
Finds (Ok done) faults = faults ≡ []
Finds (Err fault) faults = IsFirst fault faults
