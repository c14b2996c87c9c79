-- The search is between two places, and each place that it visits leaves less to do.
use Rattle.process_check.specs.Search.{Searching, rows_of, work_left}
use Rattle.process_check.proofs.search.leads_back.Given as goal

abbrev pub invariant-loop-at : goal.invariant-loop-at
invariant-loop-at l = Searching (rows_of l.graph) l.start l.search.seen.items l.search.waiting.items

abbrev pub decreases-loop-at : goal.decreases-loop-at
decreases-loop-at l = work_left l.search.seen.items l.search.waiting.items
