-- The places so far and those of the cells that are left are those of all cells.
use Rattle.std.proofs.Common.{◌≡◌, List, ◌++◌, drop}
use Rattle.rtl_ir.specs.declared.module.Module.{Module}
use Rattle.rtl_ir.specs.Faults.Recursion.{instance_places}
use Rattle.design_edit.specs.Table.{ArePlaces}
use Rattle.rtl_check.proofs.recursion.instance_places.Given as goal

abbrev pub invariant-loop-cell : goal.invariant-loop-cell
invariant-loop-cell l = (modules : List Module) → ArePlaces l.places modules → l.found.items ++ instance_places modules (drop l.cell-index l.cells) ≡ instance_places modules l.cells
