use Rattle.net_index.proofs.DriverReading.{read_next}
use Rattle.net_index.proofs.driver_rules.read_patterns.Goals as goal

pub loop-pattern-preserved : goal.loop-pattern-preserved
loop-pattern-preserved c =
    read_next c.args.signal.now c.args.earlier.now.items c.args.patterns.now c.loop-pattern.pattern-index c.pattern-item.result c.loop-pattern-test.true c.pattern-item.is
    c.loop-pattern.earlier.items c.read_pattern.new.earlier.items c.loop-pattern.left c.in_ok-left.left c.in_ok-left.ensures.earlier c.in_ok-left.ensures.value c.loop-pattern.invariant
