use Rattle.std.proofs.Common.{◌≡◌, ◌+◌, ◌*◌, drop}
use Rattle.rtl_ir.specs.Tree.{cases_depth, cases_of, switches_depth, switches_of}
use Rattle.net_index.specs.Builder.{IsInLimits}
use Rattle.match_cells.specs.Numbers.{HasSwitches}
use Rattle.match_cells.specs.Trees.{seen}
use Rattle.proc_mux.specs.Trees.{switches_value}
use Rattle.proc_mux.proofs.Walking.{cases_from}
use Rattle.proc_mux.proofs.walk.+tree.Given as goal

-- what is left of the switches gives what all give
abbrev pub invariant-switches_value-loop-switch : goal.invariant-switches_value-loop-switch
invariant-switches_value-loop-switch l = record {
  all : switches_value l.by.given.now l.node (switches_of (drop l.switch-index l.switches)) l.value (seen l.trees) ≡ switches_value l.by.given.now l.initial.node (switches_of l.switches) l.initial.value (seen l.initial.trees);
  has : HasSwitches l.by.table.now l.node (switches_of (drop l.switch-index l.switches));
  within : IsInLimits l.initial.trees.builder → IsInLimits l.trees.builder;
}

-- the value is what stands for the cases that are done
abbrev pub invariant-cases_value-loop-at : goal.invariant-cases_value-loop-at
invariant-cases_value-loop-at l = record {
  all : (l.value, seen l.trees) ≡ cases_from l.by.given.now l.node l.signal l.fn.prior (seen l.initial.trees) l.cases l.at;
  within : IsInLimits l.initial.trees.builder → IsInLimits l.trees.builder;
}

-- a walk goes down the tree: from switches to one of them, to its cases, to one of them and to its switches
abbrev pub decreases-switches_value : goal.decreases-switches_value
decreases-switches_value l = 2 * switches_depth (switches_of l.switches.now)

abbrev pub decreases-switch_value : goal.decreases-switch_value
decreases-switch_value l = 2 * cases_depth l.switch.now.cases + 1

abbrev pub decreases-cases_value : goal.decreases-cases_value
decreases-cases_value l = 2 * cases_depth (cases_of l.cases.now)

abbrev pub decreases-case_value : goal.decreases-case_value
decreases-case_value l = 2 * switches_depth l.case.now.switches + 1
