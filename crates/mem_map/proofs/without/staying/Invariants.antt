-- How many of the cells so far stay.
use Rattle.std.proofs.Common.{◌≡◌, ◌≤◌, ◌&&◌, length, not, filter, take}
use Rattle.rtl_ir.specs.Flat.Cell.{cell_kind}
use Rattle.rtl_ir.specs.WritePorts.{is_of_memory}
use Rattle.rtl_ir.specs.declared.cell.Cell.{Cell}
use Rattle.net_model.specs.Mem.Expand.{is_memory_kind}
use Rattle.mem_map.proofs.without.staying.Given as goal

abbrev pub invariant-loop-cell : goal.invariant-loop-cell
invariant-loop-cell l = record {
  all : l.count ≡ length (filter (λ (c : Cell). not (is_memory_kind (cell_kind c) && is_of_memory l.name c)) (take l.cell-index l.cells));
  few : l.count ≤ l.cell-index;
}
