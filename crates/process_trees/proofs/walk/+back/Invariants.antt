-- What was walked so far.
use Rattle.std.proofs.Common.{drop}
use Rattle.rtl_ir.specs.Tree.{switches_of}
use Rattle.process_trees.specs.Reach.{reach_switches}
use Rattle.process_trees.specs.Walk.{AreSet, Walked}
use Rattle.process_trees.proofs.Switches.{CasesWalked}
use Rattle.process_trees.proofs.walk.+back.Given as goal

-- the switches from here on
abbrev pub invariant-walk_case-loop-at : goal.invariant-walk_case-loop-at
invariant-walk_case-loop-at l = record {
  walked : Walked l.numbers (λ b. reach_switches b (switches_of (drop l.at l.switches))) l.initial.walk l.walk;
  set : AreSet l.set.items l.initial.walk.unset.items l.walk.unset.items;
}

-- the cases before this one, none of them a default, each behind what was there before the switch
abbrev pub invariant-walk_switch-loop-case : goal.invariant-walk_switch-loop-case
invariant-walk_switch-loop-case l = CasesWalked l.numbers l.case-items l.case-index l.initial.walk l.walk l.common
