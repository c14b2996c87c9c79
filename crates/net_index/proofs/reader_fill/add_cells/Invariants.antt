-- The readers so far and those of the cells that are left are all.
use Rattle.std.proofs.Common.{drop}
use Rattle.rtl_ir.specs.Types.{Ports}
use Rattle.net_index.specs.Readers.{cell_readers, cell_reads}
use Rattle.net_index.specs.Types.{AreTypes}
use Rattle.net_index.proofs.ReaderAdds.{IsLeft}
use Rattle.net_index.proofs.reader_fill.add_cells.Given as goal

abbrev pub invariant-loop-place : goal.invariant-loop-place
invariant-loop-place l =
    (ports : Ports) → AreTypes l.types ports
    → IsLeft l.numbering l.fn.list.items (cell_readers (cell_reads ports 0 l.cells)) l.list.items (cell_readers (cell_reads ports l.place (drop l.place l.cells)))
