-- None of the switches and cases so far has it.
use Rattle.std.proofs.Common.{◌≡◌, drop, length}
use Rattle.rtl_ir.specs.Tree.{cases_of, switches_of}
use Rattle.process_check.specs.Flaws.{cases_have, switches_have}
use Rattle.process_check.proofs.flaws.+tree.Given as goal

abbrev pub invariant-case_has-loop-switch : goal.invariant-case_has-loop-switch
invariant-case_has-loop-switch l = switches_have l.flaw (switches_of (drop l.switch-index l.switch-items)) ≡ switches_have l.flaw (switches_of l.switch-items)

abbrev pub invariant-switch_has-loop-case : goal.invariant-switch_has-loop-case
invariant-switch_has-loop-case l = cases_have l.flaw (length l.signal) (cases_of (drop l.case-index l.case-items)) ≡ cases_have l.flaw (length l.signal) (cases_of l.case-items)
