use Rattle.std.proofs.Common.{◌≡◌, ℕ, ◌+◌, vec_len}
use Rattle.work_crew.specs.Settle.{AllOwned, SameOwners, taken_by, tallies}
use Rattle.work_crew.proofs.settle.settle_rows.Given as goal

abbrev pub invariant-loop-row : goal.invariant-loop-row
invariant-loop-row l = record {
  same : SameOwners l.initial.owners.items l.owners.items;
  owned : AllOwned l.owners.items l.rows.items;
  taken : (k : ℕ) → taken_by k l.owners.items + tallies k l.rows.items ≡ taken_by k l.initial.owners.items + tallies k l.initial.rows.items;
}

abbrev pub decreases-loop-row : goal.decreases-loop-row
decreases-loop-row l = vec_len l.rows
