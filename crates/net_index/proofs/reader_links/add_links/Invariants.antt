-- The readers so far and those of the connections that are left are all, and the marks are those of the connections so far.
use Rattle.std.proofs.Common.{◌≡◌, drop, length}
use Rattle.net_index.specs.Numbering.{bit_count}
use Rattle.net_index.specs.ReaderLinks.{AreMarks}
use Rattle.net_index.specs.Readers.{link_readers}
use Rattle.net_index.proofs.ReaderAdds.{IsLeft}
use Rattle.net_index.proofs.reader_links.add_links.Given as goal

abbrev pub invariant-loop-place : goal.invariant-loop-place
invariant-loop-place l = record {
  sized : length l.marks.items ≡ bit_count l.numbering;
  marks : AreMarks l.place l.marks.items;
  left : IsLeft l.numbering l.fn.list.items (link_readers 0 l.links) l.list.items (link_readers l.place (drop l.place l.links));
}
