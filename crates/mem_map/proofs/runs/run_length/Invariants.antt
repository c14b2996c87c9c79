-- The equal bits so far, and those from here on, are all.
use Rattle.std.proofs.Common.{◌≡◌, ◌+◌, drop}
use Rattle.net_model.specs.Mem.Expand.{run_length}
use Rattle.mem_map.proofs.runs.run_length.Given as goal

abbrev pub invariant-loop-bit : goal.invariant-loop-bit
invariant-loop-bit l = record {
  all : l.count + run_length l.fn.first (drop l.bit-index l.bits) ≡ run_length l.fn.first l.bits;
  here : l.count ≡ l.bit-index;
}
