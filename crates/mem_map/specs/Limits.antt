-- The limits of an expansion.
use Rattle.std.specs.Prelude.{[], pos, slice_index_or}
use Rattle.rtl_ir.specs.Build.{Building}
use Rattle.rtl_ir.specs.declared.module.Module.{Module}
use Rattle.rtl_ir.specs.declared.plan.MemPlan.{MemPlan}
use Rattle.rtl_ir.specs.declared.store.Store.{Store}
use Rattle.net_index.specs.Builder.{PassesLimit}
use Rattle.net_model.specs.Mem.Expand.{building_without, memory_step}

-- a memory of no words
abbrev pub no_store : Store
no_store = record { name = []; width = 0; size = pos 0; offset = pos 0; attributes = [] }

-- the memory that a plan is of
abbrev pub planned_store : Module → MemPlan → Store
planned_store m plan = slice_index_or m.memories plan.store no_store

-- the module without the memory and its cells, with all that is added in their place
abbrev pub expanded : Module → MemPlan → Building
expanded m plan =
    memory_step plan (planned_store m plan) (building_without plan.store (planned_store m plan) m)

-- the module after the memory passes a limit
abbrev pub ExpandPassesLimit : Module → MemPlan → Type 0
ExpandPassesLimit m plan = PassesLimit (expanded m plan)
