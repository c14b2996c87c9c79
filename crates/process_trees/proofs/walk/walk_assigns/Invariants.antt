-- The assigns from here on were walked.
use Rattle.std.proofs.Common.{Bool, List, drop}
use Rattle.rtl_ir.specs.Assigns.{assigned}
use Rattle.process_trees.specs.Reach.{given_last}
use Rattle.process_trees.specs.Walk.{AreSet, Walked}
use Rattle.process_trees.proofs.walk.walk_assigns.Given as goal

abbrev pub invariant-loop-at : goal.invariant-loop-at
invariant-loop-at l = record {
  walked : Walked l.numbers (λ b. given_last (assigned (drop l.at l.assigns) b)) l.initial.walk l.walk;
  set : (before : List Bool) → AreSet l.initial.set.items before l.initial.walk.unset.items → AreSet l.set.items before l.walk.unset.items;
}
