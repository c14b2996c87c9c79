-- The readers so far and what is left of the connection are all.
use Rattle.std.proofs.Common.{drop}
use Rattle.net_index.proofs.ReaderOnce.{IsLeftOf}
use Rattle.net_index.proofs.reader_links.add_link.Given as goal

abbrev pub invariant-loop-at : goal.invariant-loop-at
invariant-loop-at l = IsLeftOf l.numbering l.link l.right (drop l.at l.right) l.fn.list.items l.list.items l.marks
