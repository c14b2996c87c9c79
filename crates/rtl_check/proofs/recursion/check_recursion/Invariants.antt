-- The modules so far do not instantiate themselves.
use Rattle.std.proofs.Common.{◌≡◌, ◌-◌, length}
use Rattle.rtl_ir.specs.Faults.Recursion.{recursion_faults}
use Rattle.rtl_check.specs.Places.{faults_from}
use Rattle.rtl_check.proofs.recursion.check_recursion.Given as goal

abbrev pub invariant-loop-at : goal.invariant-loop-at
invariant-loop-at l = faults_from l.modules l.at (length l.modules - l.at) ≡ recursion_faults l.modules
