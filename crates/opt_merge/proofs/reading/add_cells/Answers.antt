use Rattle.std.proofs.Common.{subst}
use Rattle.opt_merge.specs.Reading.{ReadsCell}
use Rattle.opt_merge.proofs.Sofar.{cells_all, cells_next}
use Rattle.opt_merge.proofs.reading.add_cells.Goals as goal

pub loop-at-preserved : goal.loop-at-preserved
loop-at-preserved c = record {
  keeps = λ links are. c.add_cell.ensures.keeps links (c.loop-at.invariant.keeps links are);
  reads = λ links are.
      cells_next c.loop-at.readers c.add_cell.new.readers links c.args.cells.now c.loop-at.at c.index-cells-at.result c.in_ok-add_cell.ensures.more (c.loop-at.invariant.reads links are)
      (subst (ReadsCell c.add_cell.new.readers links c.loop-at.at) c.index-cells-at.is (c.in_ok-add_cell.ensures.reads links (c.loop-at.invariant.keeps links are)));
}

pub returns-clause-reads : goal.returns-clause-reads
returns-clause-reads c = λ links are.
    cells_all c.loop-at.readers links c.args.cells.now c.loop-at.at c.loop-at-test.false (c.loop-at.invariant.reads links are)
