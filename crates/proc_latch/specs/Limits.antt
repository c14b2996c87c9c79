-- The limits of the step.
use Rattle.rtl_ir.specs.Build.{Building, building_of}
use Rattle.rtl_ir.specs.declared.module.Module.{Module}
use Rattle.net_index.specs.Builder.{PassesLimit}
use Rattle.net_model.specs.Proc.Latch.{latches_step}

-- the module with all that is added, its processes as they were
abbrev pub latched : Module → Building
latched m = latches_step m.processes (building_of m)

-- with all that is added the module passes a limit
abbrev pub LatchPassesLimit : Module → Type 0
LatchPassesLimit m = PassesLimit (latched m)
