-- The runs so far, and those of the bits from here on, are all.
use Rattle.std.proofs.Common.{◌≡◌, ◌++◌, ◌≤◌, ◌-◌, length, drop}
use Rattle.net_model.specs.Mem.Expand.{run_lengths}
use Rattle.mem_map.proofs.runs.run_lengths.Given as goal

abbrev pub invariant-loop-at : goal.invariant-loop-at
invariant-loop-at l = record {
  all : l.runs.items ++ run_lengths (length l.bits) (drop l.at l.bits) ≡ run_lengths (length l.bits) l.bits;
  within : l.at ≤ length l.bits;
}

abbrev pub decreases-loop-at : goal.decreases-loop-at
decreases-loop-at l = length l.bits - l.at
