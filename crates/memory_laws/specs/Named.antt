-- What is asked of the memories of a module.
use Rattle.std.specs.Prelude.{◌≤◌, ℕ, zero, suc, List, [], ◌∷◌}
use Rattle.rtl_ir.specs.Build.{building_of}
use Rattle.rtl_ir.specs.declared.module.Module.{Module}
use Rattle.rtl_ir.specs.declared.store.Store.{Store}
use Rattle.net_model.specs.Mem.Expand.{first_memory, memory_step}
use Rattle.net_model.specs.Mem.Gather.{gathered}

-- the fresh names that the first memory takes, where there is one, are numbers of up to nine digits
abbrev pub IsShort : Module → List Store → Type 0
IsShort m [] = Unit {0}
IsShort m (s ∷ stores) = (memory_step (gathered m 0 s) s (building_of m)).next ≤ 1000000000

-- so are those of so many memories, one after another
abbrev pub AreShort : ℕ → Module → Type 0
AreShort zero m = Unit {0}
AreShort (suc n) m = IsShort m m.memories × AreShort n (first_memory m m.memories)
