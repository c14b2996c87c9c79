-- The followers from the index on are left to look at.
use Rattle.std.proofs.Common.{◌≡◌, drop}
use Rattle.process_check.specs.Search.{Visiting, followers, rows_of, work_left}
use Rattle.process_check.proofs.search.visit.Given as goal

abbrev pub invariant-loop-next : goal.invariant-loop-next
invariant-loop-next l = record {
  visiting : Visiting (rows_of l.graph) l.start l.search.seen.items l.search.waiting.items l.at (drop l.next-index (followers (rows_of l.graph) l.at));
  work : work_left l.search.seen.items l.search.waiting.items ≡ work_left l.fn.search.seen.items l.fn.search.waiting.items;
}
