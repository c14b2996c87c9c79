-- What is made of the switches and cases so far.
use Rattle.std.proofs.Common.{◌≡◌, [], Some, map, take, drop}
use Rattle.rtl_ir.specs.EventTests.{switch_test}
use Rattle.rtl_ir.specs.Faults.TwoEdges.{SwitchTest}
use Rattle.rtl_ir.specs.Tree.{cases_of}
use Rattle.rtl_ir.specs.Types.{Ports}
use Rattle.net_model.specs.Proc.Reset.{cases_at}
use Rattle.process_trees.specs.Fitting.{DoCellsFit}
use Rattle.process_trees.specs.Tables.{AreTests}
use Rattle.process_trees.specs.Levels.{open_case, switch_at}
use Rattle.process_trees.proofs.level.+tree.Given as goal

abbrev pub invariant-decided_case-loop-switch : goal.invariant-decided_case-loop-switch
invariant-decided_case-loop-switch l =
    (ports : Ports) → AreTests l.by.tests.now ports l.by.«module».now → DoCellsFit ports l.by.«module».now
    → l.switches.items ≡ map (switch_at (switch_test ports l.by.«module».now l.by.event) l.by.level) (take l.switch-index l.switch-items)

abbrev pub invariant-open_switch-loop-case : goal.invariant-open_switch-loop-case
invariant-open_switch-loop-case l =
    (ports : Ports) → AreTests l.by.tests.now ports l.by.«module».now → DoCellsFit ports l.by.«module».now
    → l.cases.items ≡ map (open_case (switch_test ports l.by.«module».now l.by.event) l.by.level) (take l.case-index l.case-items)

abbrev pub invariant-taken_switch-loop-case : goal.invariant-taken_switch-loop-case
invariant-taken_switch-loop-case l = record {
  none : l.cases.items ≡ [];
  left :
      (test : SwitchTest)
      → cases_at test l.by.level (Some l.inverse) (cases_of (drop l.case-index l.case-items)) ≡ cases_at test l.by.level (Some l.inverse) (cases_of l.case-items);
}
