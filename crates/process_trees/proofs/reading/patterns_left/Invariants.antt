-- What is left so far, with what is left of the patterns behind, is all that is left.
use Rattle.std.proofs.Common.{drop}
use Rattle.process_trees.proofs.PatternsLeft.{LeftSo}
use Rattle.process_trees.proofs.reading.patterns_left.Given as goal

abbrev pub invariant-loop-pattern : goal.invariant-loop-pattern
invariant-loop-pattern l = LeftSo l.signal l.fn.earlier.items l.patterns l.earlier.items (drop l.pattern-index l.patterns) l.left.items
