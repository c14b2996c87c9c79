-- The cells so far fit.
use Rattle.std.proofs.Common.{take}
use Rattle.std.specs.List.{AllByRecursion}
use Rattle.rtl_ir.specs.declared.cell.Cell.{Cell}
use Rattle.rtl_ir.specs.Flat.Process.{no_modules}
use Rattle.rtl_ir.specs.Types.{cell_type}
use Rattle.process_trees.specs.Fitting.{DoesFit}
use Rattle.flat_net.proofs.resets.fit.Given as goal

abbrev pub invariant-loop-cell : goal.invariant-loop-cell
invariant-loop-cell l = AllByRecursion (λ (c : Cell). DoesFit c (cell_type no_modules c.kind_name)) (take l.cell-index l.cells)
