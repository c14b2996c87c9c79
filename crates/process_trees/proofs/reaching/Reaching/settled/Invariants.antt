-- The summaries are those after as many rounds as there were turns.
use Rattle.rtl_ir.specs.Tree.{CaseView}
use Rattle.process_trees.specs.Reaching.{AreReaching}
use Rattle.process_trees.specs.Rounds.{AreAfter}
use Rattle.process_trees.proofs.reaching.Reaching.settled.Given as goal

abbrev pub invariant-loop-round : goal.invariant-loop-round
invariant-loop-round l = (root : CaseView) → AreReaching l.self root l.bits → AreAfter l.asked root l.bits l._round l.summaries.items
