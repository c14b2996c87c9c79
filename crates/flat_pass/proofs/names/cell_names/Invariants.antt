-- The names so far.
use Rattle.std.proofs.Common.{◌≡◌, map, take}
use Rattle.rtl_ir.specs.declared.cell.Cell.{Cell}
use Rattle.flat_pass.specs.ByName.{names_now}
use Rattle.flat_pass.proofs.names.cell_names.Given as goal

abbrev pub invariant-loop-cell : goal.invariant-loop-cell
invariant-loop-cell l = names_now l.names.items ≡ map (λ (x : Cell). x.name) (take l.cell-index l.cells)
