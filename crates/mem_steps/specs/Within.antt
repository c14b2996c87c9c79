-- The pass `memory` within the limits.
use Rattle.std.specs.Prelude.{ℕ, zero, suc, ◌&&◌, Bool, true, List, [], ◌∷◌, length, nat_le, Option, Some, None, if◌then◌else◌}
use Rattle.rtl_ir.specs.Build.{Building}
use Rattle.rtl_ir.specs.declared.module.Module.{Module}
use Rattle.rtl_ir.specs.declared.store.Store.{Store}
use Rattle.net_index.specs.Numbering.{bit_count, widths_of}
use Rattle.net_model.specs.Mem.Expand.{building_without, first_memory, memory_of, memory_step}
use Rattle.net_model.specs.Mem.Gather.{gathered}

-- a module that is added to is within the limits on cells, on bits of wires and on the numbers of fresh names
unfoldable pub is_within : Building → Bool
is_within b = nat_le (length b.body.cells) 1048576 && (nat_le (bit_count (widths_of b.body.wires)) 4194304 && nat_le b.next 1000000000)

-- the module after the first memory, where there is one, is
abbrev pub first_within : Module → List Store → Bool
first_within m [] = true
first_within m (s ∷ stores) = is_within (memory_step (gathered m 0 s) s (building_without 0 s m))

-- so it is for so many memories, one after another
abbrev pub are_within : ℕ → Module → Bool
are_within zero m = true
are_within (suc n) m = first_within m m.memories && are_within n (first_memory m m.memories)

-- the module after all its memories in order; None where one of them passes a limit
abbrev pub memory_within : Module → Option Module
memory_within m = if are_within (length m.memories) m then Some (memory_of m) else None
