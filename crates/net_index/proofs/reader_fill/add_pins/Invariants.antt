-- The readers so far and those of the pins that are left are all.
use Rattle.std.proofs.Common.{drop}
use Rattle.rtl_ir.specs.Types.{CellType}
use Rattle.net_index.specs.Readers.{cell_readers, pin_reads}
use Rattle.net_index.specs.Types.{IsType}
use Rattle.net_index.proofs.ReaderAdds.{IsLeft}
use Rattle.net_index.proofs.reader_fill.add_pins.Given as goal

abbrev pub invariant-loop-place : goal.invariant-loop-place
invariant-loop-place l =
    (type : CellType) → IsType l.cell_type type
    → IsLeft l.numbering l.fn.list.items (cell_readers (pin_reads type l.cell 0 l.pins)) l.list.items (cell_readers (pin_reads type l.cell l.place (drop l.place l.pins)))
