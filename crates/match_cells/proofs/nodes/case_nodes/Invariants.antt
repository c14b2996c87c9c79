-- The nodes so far, and those of the cases that are left, are all.
use Rattle.std.proofs.Common.{◌≡◌, ◌++◌, drop}
use Rattle.rtl_ir.specs.Tree.{cases_of}
use Rattle.match_cells.specs.Numbers.{HasCases, case_nodes}
use Rattle.match_cells.proofs.nodes.case_nodes.Given as goal

abbrev pub invariant-loop : goal.invariant-loop
invariant-loop l = record {
  all : l.nodes.items ++ case_nodes l.node (cases_of (drop l.index l.cases)) ≡ case_nodes l.initial.node (cases_of l.cases);
  has : HasCases l.table l.node (cases_of (drop l.index l.cases));
}
