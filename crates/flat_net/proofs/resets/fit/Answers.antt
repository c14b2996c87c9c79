use Rattle.std.proofs.Common.{subst}
use Rattle.std.specs.List.{AllByRecursion}
use Rattle.std.proofs.lemmas.List.{take_all}
use Rattle.rtl_ir.specs.declared.cell.Cell.{Cell}
use Rattle.rtl_ir.specs.Flat.Process.{no_modules}
use Rattle.rtl_ir.specs.Types.{cell_type}
use Rattle.process_trees.specs.Fitting.{DoesFit}
use Rattle.flat_net.proofs.Fitting.{fits_next}
use Rattle.flat_net.proofs.resets.fit.Goals as goal

pub loop-cell-preserved : goal.loop-cell-preserved
loop-cell-preserved c = fits_next c.args.cells.now c.loop-cell.cell-index c.cell-item.result c.loop-cell-test.true c.cell-item.is c.loop-cell.invariant c.in_ok-fit_cell.ensures.fit

pub returns : goal.returns
returns c = record { fit = subst (AllByRecursion (λ (x : Cell). DoesFit x (cell_type no_modules x.kind_name))) (take_all _ c.args.cells.now c.loop-cell-test.false) c.loop-cell.invariant }
