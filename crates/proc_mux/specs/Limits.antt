-- The limits of the step.
use Rattle.rtl_ir.specs.Build.{Building, building_of}
use Rattle.rtl_ir.specs.declared.module.Module.{Module}
use Rattle.net_index.specs.Builder.{PassesLimit}
use Rattle.net_model.specs.Proc.Mux.{processes_step}

-- the module with all that is added, its processes beside it
abbrev pub muxed : Module → Building
muxed m = processes_step (building_of m) m.processes

-- with all that is added the module passes a limit
abbrev pub MuxPassesLimit : Module → Type 0
MuxPassesLimit m = PassesLimit (muxed m)
