use Rattle.std.proofs.Common.{◌≡◌, ◌+◌, ◌*◌, drop}
use Rattle.rtl_ir.specs.Tree.{cases_depth, cases_of, switches_depth, switches_of}
use Rattle.net_index.specs.Builder.{IsInLimits}
use Rattle.match_cells.specs.Numbers.{HasSwitches}
use Rattle.proc_latch.specs.Chains.{reads, seen, switches_chain}
use Rattle.proc_latch.proofs.Walking.{cases_from}
use Rattle.proc_latch.proofs.Leaves.{reads_add}
use Rattle.proc_latch.proofs.Ranks.{rank}
use Rattle.proc_latch.proofs.chains.Chains.+chain.Given as goal

-- what is left of the switches gives what all give
abbrev pub invariant-switches_chain-loop-switch : goal.invariant-switches_chain-loop-switch
invariant-switches_chain-loop-switch l = record {
  all : switches_chain (reads l.way.read.now l.way.depth) l.way.given.now l.node (switches_of (drop l.switch-index l.switches)) l.value (seen l.self) ≡ switches_chain (reads l.way.read.now l.way.depth) l.way.given.now l.initial.node (switches_of l.switches) l.initial.value (seen l.initial.self);
  has : HasSwitches l.way.read.now.tables.now.nodes.items l.node (switches_of (drop l.switch-index l.switches));
  within : IsInLimits l.initial.self.trees.builder → IsInLimits l.self.trees.builder;
}

-- the value is what stands for the cases that are done
abbrev pub invariant-cases_chain-loop-at : goal.invariant-cases_chain-loop-at
invariant-cases_chain-loop-at l = record {
  all : (l.value, seen l.self) ≡ cases_from (reads l.way.read.now l.way.depth) l.way.given.now (reads_add l.way.read.now l.way.depth) l.node l.signal l.prior (seen l.initial.self) l.cases l.at;
  within : IsInLimits l.initial.self.trees.builder → IsInLimits l.self.trees.builder;
}

-- a walk goes down the tree: from switches to one of them, to its cases, to one of them, and to its leaf and its switches; and a
-- leaf goes to a chain of fewer in one another
abbrev pub decreases-leaf : goal.decreases-leaf
decreases-leaf l = rank l.read.now.root.now l.depth

abbrev pub decreases-start : goal.decreases-start
decreases-start l = rank l.read.now.root.now l.depth + 1

abbrev pub decreases-switches_chain : goal.decreases-switches_chain
decreases-switches_chain l = rank l.way.now.read.now.root.now l.way.now.depth + (2 * switches_depth (switches_of l.switches.now) + 2)

abbrev pub decreases-switch_chain : goal.decreases-switch_chain
decreases-switch_chain l = rank l.way.now.read.now.root.now l.way.now.depth + (2 * cases_depth l.switch.now.cases + 3)

abbrev pub decreases-cases_chain : goal.decreases-cases_chain
decreases-cases_chain l = rank l.way.now.read.now.root.now l.way.now.depth + (2 * cases_depth (cases_of l.cases.now) + 2)

abbrev pub decreases-case_chain : goal.decreases-case_chain
decreases-case_chain l = rank l.way.now.read.now.root.now l.way.now.depth + (2 * switches_depth l.arm.now.case.now.switches + 3)

abbrev pub decreases-new_chain : goal.decreases-new_chain
decreases-new_chain l = rank l.read.now.root.now l.depth + (2 * switches_depth l.read.now.root.now.switches + 3)

abbrev pub decreases-chain : goal.decreases-chain
decreases-chain l = rank l.read.now.root.now l.depth + (2 * switches_depth l.read.now.root.now.switches + 4)
