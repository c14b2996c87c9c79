use Rattle.std.proofs.Common.{◌≡◌, ◌++◌, take}
use Rattle.std.specs.List.{flat_map}
use Rattle.rtl_write.specs.Text.{cell_text}
use Rattle.rtl_write.proofs.whole.put_cells.Given as goal

-- what was passed so far is written
abbrev pub invariant-loop-cell : goal.invariant-loop-cell
invariant-loop-cell l = l.out ≡ l.initial.out ++ flat_map (cell_text l.wires) (take l.cell-index l.cells)
