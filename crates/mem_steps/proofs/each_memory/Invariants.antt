-- As much is left to do of the module so far as of all of it, and after the first cells none is one of a memory.
use Rattle.std.proofs.Common.{◌≡◌, drop, length}
use Rattle.net_model.specs.Mem.Expand.{memory_of}
use Rattle.net_model.specs.Within.{Each}
use Rattle.mem_steps.specs.Within.{are_within}
use Rattle.net_model.proofs.MemoryCells.{IsPlain}
use Rattle.mem_steps.proofs.each_memory.Given as goal

abbrev pub invariant-loop-alloc : goal.invariant-loop-alloc
invariant-loop-alloc l = record {
  end : memory_of l.after ≡ memory_of l.initial.after;
  within : are_within (length l.after.memories) l.after ≡ are_within (length l.initial.after.memories) l.initial.after;
  first : Each IsPlain (drop l.first l.after.cells);
}

abbrev pub decreases-loop-alloc : goal.decreases-loop-alloc
decreases-loop-alloc l = length l.after.memories
