-- The counts are those of the cells from here on.
use Rattle.std.proofs.Common.{◌≡◌, ℕ, List, drop}
use Rattle.rtl_ir.specs.Flat.Access.{cell_accesses, next_number}
use Rattle.proc_sync.specs.Counts.{count_at}
use Rattle.proc_sync.proofs.counts.counts_of.Given as goal

abbrev pub invariant-loop-at : goal.invariant-loop-at
invariant-loop-at l = (name : List ℕ) → count_at l.counts name ≡ next_number (cell_accesses name (drop l.at l.cells))
