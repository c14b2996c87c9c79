-- The readers so far and those of the places that are left are all.
use Rattle.std.proofs.Common.{drop}
use Rattle.net_index.specs.Readers.{cell_readers, places_read}
use Rattle.net_index.proofs.ReaderAdds.{IsLeft}
use Rattle.net_index.proofs.reader_fill.add_places.Given as goal

abbrev pub invariant-loop-place : goal.invariant-loop-place
invariant-loop-place l = IsLeft l.numbering l.fn.list.items (cell_readers (places_read l.cell l.pin 0 l.bits)) l.list.items (cell_readers (places_read l.cell l.pin l.place (drop l.place l.bits)))
