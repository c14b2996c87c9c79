use Rattle.std.proofs.Common.{length}
use Rattle.desk_core.proofs.Finding.{PutSoFar}
use Rattle.desk_core.proofs.results.put_beside.Given as goal

-- what is left to put, and what was put
abbrev pub invariant-loop-item : goal.invariant-loop-item
invariant-loop-item l = PutSoFar l.initial.items.items l.items.items l.found

abbrev pub decreases-loop-item : goal.decreases-loop-item
decreases-loop-item l = length l.items.items
