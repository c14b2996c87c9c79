-- None of the switches or cases so far tests: those that are left test where all do.
use Rattle.std.proofs.Common.{◌≡◌, drop}
use Rattle.rtl_ir.specs.EventTests.{switch_test}
use Rattle.rtl_ir.specs.Faults.TwoEdges.{cases_test, switches_test}
use Rattle.rtl_ir.specs.Tree.{cases_of, switches_of}
use Rattle.rtl_ir.specs.Types.{Ports}
use Rattle.process_trees.specs.Fitting.{DoCellsFit}
use Rattle.process_trees.specs.Tables.{AreTests}
use Rattle.process_trees.proofs.tested.+tree.Given as goal

abbrev pub invariant-case_tests-loop-switch : goal.invariant-case_tests-loop-switch
invariant-case_tests-loop-switch l =
    (ports : Ports) → AreTests l.tests ports l.module → DoCellsFit ports l.module
    → switches_test (switch_test ports l.module l.event) (switches_of (drop l.switch-index l.switch-items)) ≡ switches_test (switch_test ports l.module l.event) (switches_of l.switch-items)

abbrev pub invariant-switch_tests-loop-case : goal.invariant-switch_tests-loop-case
invariant-switch_tests-loop-case l =
    (ports : Ports) → AreTests l.tests ports l.module → DoCellsFit ports l.module
    → cases_test (switch_test ports l.module l.event) (cases_of (drop l.case-index l.case-items)) ≡ cases_test (switch_test ports l.module l.event) (cases_of l.case-items)
