-- No bit so far depends on itself.
use Rattle.std.proofs.Common.{◌≡◌, ◌<◌, ℕ, false, length}
use Rattle.rtl_ir.specs.Faults.Recursion.{leads_within}
use Rattle.process_check.specs.Search.{rows_of}
use Rattle.process_check.proofs.self_reading.reads_itself.Given as goal

abbrev pub invariant-loop-at : goal.invariant-loop-at
invariant-loop-at l = (k : ℕ) → k < l.at → leads_within (rows_of l.graph.items) (length l.bits) k k ≡ false
