use Rattle.proc_reset.specs.Reads.{cell_signals}
use Rattle.proc_reset.proofs.Gathering.{flat_next}
use Rattle.proc_reset.proofs.signals.put_cells.Goals as goal

pub loop-cell-preserved : goal.loop-cell-preserved
loop-cell-preserved c = λ ports are.
    flat_next (cell_signals ports) c.args.cells.now c.loop-cell.cell-index c.cell-item.result c.loop-cell-test.true c.cell-item.is
    c.loop-cell.signals.items c.put_cell.new.signals.items _ (c.in_ok-put_cell.ensures.ok ports are) (c.loop-cell.invariant ports are)
