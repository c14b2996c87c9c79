-- The cells so far, and those that stay of the ones that are left, are all; behind the first ones no cell is one of a memory.
use Rattle.std.proofs.Common.{◌≡◌, ◌++◌, ◌&&◌, drop, false, not, filter}
use Rattle.rtl_ir.specs.Flat.Cell.{cell_kind}
use Rattle.rtl_ir.specs.WritePorts.{is_of_memory}
use Rattle.rtl_ir.specs.declared.cell.Cell.{Cell}
use Rattle.net_model.specs.Mem.Expand.{is_memory_kind}
use Rattle.net_model.specs.Within.{Each}
use Rattle.mem_map.proofs.without.other_cells.Given as goal

abbrev pub invariant-loop-cell : goal.invariant-loop-cell
invariant-loop-cell l = record {
  all : l.others.items ++ filter (λ (c : Cell). not (is_memory_kind (cell_kind c) && is_of_memory l.name c)) l.cell-iterator.rest.items ≡ filter (λ (c : Cell). not (is_memory_kind (cell_kind c) && is_of_memory l.name c)) l.fn.cells;
  rest : Each (λ (c : Cell). is_memory_kind (cell_kind c) ≡ false) (drop l.left l.cell-iterator.rest.items);
}
