-- The patterns of the cases that are left are constants where all are.
use Rattle.std.proofs.Common.{◌≡◌, drop}
use Rattle.std.specs.List.{list_all}
use Rattle.rtl_ir.specs.Faults.TwoEdges.{cases_patterns}
use Rattle.rtl_ir.specs.Signals.{is_all_constant}
use Rattle.rtl_ir.specs.Tree.{cases_of}
use Rattle.process_trees.proofs.tested.have_constants.Given as goal

abbrev pub invariant-loop-case : goal.invariant-loop-case
invariant-loop-case l = list_all is_all_constant (cases_patterns (cases_of (drop l.case-index l.cases))) ≡ list_all is_all_constant (cases_patterns (cases_of l.cases))
