use Rattle.std.proofs.Common.{rules}
use Rattle.flat_pass.specs.Flat.{put_cell}
use Rattle.flat_pass.specs.Grown.{built}
use Rattle.flat_pass.specs.Renames.{copying}
use Rattle.flat_pass.proofs.Puts.{put_over, cell_rises}
use Rattle.flat_pass.proofs.grown.Grown.put_cells.Goals as goal

pub returns-in_err-put_cell-clause-over : goal.returns-in_err-put_cell-clause-over
returns-in_err-put_cell-clause-over c = λ e.
    put_over (put_cell (copying c.args.renames.now)) c.args.cells.now c.loop-cell.cell-index c.cell-item.result c.loop-cell-test.true c.cell-item.is (cell_rises (copying c.args.renames.now)) (built c.loop-cell.self) _ c.loop-cell.invariant.left
    (search (rules, c.put_cell.ensures.over, e, c.from_residual.ensures))
