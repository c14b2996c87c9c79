use Rattle.proc_sync.proofs.Counting.{cells_go}
use Rattle.proc_sync.proofs.counts.counts_of.Goals as goal

pub loop-at-preserved : goal.loop-at-preserved
loop-at-preserved c name =
    cells_go c.loop-at.counts c.put_cell.new.counts name c.args.cells.now c.loop-at.at c.index-cells-at.result c.loop-at-test.true c.loop-at.auto.at c.index-cells-at.is (c.loop-at.invariant name) (c.in_ok-put_cell.ensures.ok name)
