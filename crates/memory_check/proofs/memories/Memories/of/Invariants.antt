-- The table has the memories from this one on.
use Rattle.std.proofs.Common.{ℕ, List, [], drop}
use Rattle.rtl_ir.specs.declared.module.Link.{Link}
use Rattle.rtl_ir.specs.Faults.MemoryCells.{store_named}
use Rattle.net_index.specs.Types.{at_name}
use Rattle.memory_check.specs.Memories.{Stands}
use Rattle.memory_check.specs.Ports.{HasCells}
use Rattle.memory_check.proofs.memories.Memories.of.Given as goal

abbrev pub invariant-loop-at : goal.invariant-loop-at
invariant-loop-at l = (links : List Link) (name : List ℕ) → Stands (λ entry s. HasCells links entry s []) (at_name l.stores name) (store_named (drop l.at l.memories) name)
