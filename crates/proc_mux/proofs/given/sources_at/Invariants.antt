-- The sources so far, and those of the bits that are left, are all.
use Rattle.std.proofs.Common.{◌≡◌, ◌++◌, drop, map}
use Rattle.proc_mux.specs.Rows.{row_at, source_at}
use Rattle.proc_mux.proofs.given.sources_at.Given as goal

abbrev pub invariant-loop-bit : goal.invariant-loop-bit
invariant-loop-bit l = l.value ++ map (λ b. source_at (row_at l.rows b) l.at) (drop l.bit-index l.run) ≡ map (λ b. source_at (row_at l.rows b) l.at) l.run
