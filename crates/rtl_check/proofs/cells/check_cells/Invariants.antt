-- The cells so far have no fault, and those of memories are noted.
use Rattle.std.proofs.Common.{◌≡◌, [], take, drop}
use Rattle.rtl_ir.specs.Faults.Cells.{cell_faults}
use Rattle.rtl_ir.specs.Scope.{everything}
use Rattle.rtl_ir.specs.Types.{Ports}
use Rattle.net_index.specs.Types.{AreTypes}
use Rattle.memory_check.specs.Memories.{KnowsCells}
use Rattle.rtl_check.proofs.cells.check_cells.Given as goal

abbrev pub invariant-loop-cell : goal.invariant-loop-cell
invariant-loop-cell l = record {
  noted : (ports : Ports) → AreTypes l.types ports → KnowsCells l.memories l.body (take l.cell-index l.body.cells);
  faults :
      (ports : Ports) → AreTypes l.types ports
      → cell_faults everything ports l.body (take l.cell-index l.body.cells) (drop l.cell-index l.body.cells) ≡ cell_faults everything ports l.body [] l.body.cells;
}
