use Rattle.process_trees.proofs.PatternsLeft.{left_next}
use Rattle.process_trees.proofs.reading.patterns_left.Goals as goal

pub loop-pattern-preserved : goal.loop-pattern-preserved
loop-pattern-preserved c =
    left_next c.args.signal.now c.args.earlier.now.items c.args.patterns.now c.loop-pattern.pattern-index c.pattern-item.result c.loop-pattern-test.true c.pattern-item.is
    c.loop-pattern.earlier.items c.keep_pattern.new.earlier.items c.loop-pattern.left.items c.keep_pattern.new.left.items c.in_ok-keep_pattern.ensures.earlier c.in_ok-keep_pattern.ensures.left c.loop-pattern.invariant
