use Rattle.fsm_find.proofs.Noting.{noted_more}
use Rattle.fsm_find.proofs.whole_drivers.whole_drivers.Goals as goal

pub loop-at-preserved : goal.loop-at-preserved
loop-at-preserved c =
    noted_more c.args.part c.loop-at.drivers c.note.new.drivers c.args.cells.now c.loop-at.at c.index-cells-at.result c.loop-at-test.true c.loop-at.auto.at c.index-cells-at.is c.loop-at.invariant c.in_ok-note.ensures.ok
