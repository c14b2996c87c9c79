-- The pass `proc`, and what a module has that it may be given.
use Rattle.std.specs.Prelude.{◌≡◌, Bool, ◌&&◌, List, [], ◌∷◌, Option, Some, None, if◌then◌else◌}
use Rattle.rtl_ir.specs.declared.module.Module.{Module}
use Rattle.rtl_ir.specs.declared.ports.PortTable.{PortTable}
use Rattle.rtl_ir.specs.declared.process.Process.{Process}
use Rattle.rtl_ir.specs.Build.{Building, building_of}
use Rattle.rtl_ir.specs.Scope.{with_processes}
use Rattle.rtl_ir.specs.Types.{Ports, table_ports}
use Rattle.net_model.specs.Proc.Steps.{proc_of}
use Rattle.net_model.specs.Proc.Latch.{latches_step, proc_latch_of}
use Rattle.net_model.specs.Proc.Mux.{processes_step}
use Rattle.net_model.specs.Proc.Reset.{proc_reset_of}
use Rattle.net_model.specs.Proc.Start.{proc_tree_of}
use Rattle.net_model.specs.Proc.Sync.{proc_sync_of, sync_step}
use Rattle.pass_laws.specs.Ready as passes
use Rattle.proc_laws.specs.Ready.{HasItsBits, IsReady}
use Rattle.proc_laws.specs.Step.{IsStep}
use Rattle.reset_laws.specs.Trees.{TreesHaveBits}
use Rattle.sync_laws.specs.Lines.{WritesHaveBits}
use Rattle.proc_steps.specs.Limits.{is_within}

-- a module may be given to `proc`, over the ports of a table: it has no fault, each storage bit and each tree bit is one that
-- its wire has, and the address and the word of each line that writes have bits
pub record MayBegin (table : PortTable) (m : Module) : Type 0 where
  pub ready : IsReady with_processes (table_ports table.modules) m
  pub placed : HasItsBits m
  pub trees : TreesHaveBits m
  pub writes : WritesHaveBits m

-- the module with its switches by the rules, its start values in the attributes of wires, and its resets as levels
abbrev pub leveled : Ports → Module → Module
leveled ports m = proc_reset_of ports (proc_tree_of m)

-- that module with its latches, and what is added for them
abbrev pub latched : Ports → Module → Module
latched ports m = proc_latch_of (leveled ports m)

abbrev pub latching : Ports → Module → Building
latching ports m = latches_step (leveled ports m).processes (building_of (leveled ports m))

-- that module with its flip-flops, and what is added for them
abbrev pub clocked : Ports → Module → Module
clocked ports m = proc_sync_of (latched ports m)

abbrev pub clocking : Ports → Module → Building
clocking ports m = sync_step (latched ports m) (building_of (latched ports m))

-- what is added for the multiplexers of that module
abbrev pub muxing : Ports → Module → Building
muxing ports m = processes_step (building_of (clocked ports m)) (clocked ports m).processes

-- no step passes a limit; each of them only adds cells, wires and names
abbrev pub are_within : Ports → Module → Bool
are_within ports m = is_within (latching ports m) && (is_within (clocking ports m) && is_within (muxing ports m))

-- what the steps make of a module in turn; None where one of them passes a limit
abbrev pub proc_result : Ports → Module → Option Module
proc_result ports m = if are_within ports m then Some (proc_of ports m) else None

-- `proc` of a module with these processes. A module without processes stays as it is
abbrev pub proc_within : Ports → Module → List Process → Option Module
proc_within ports m [] = Some m
proc_within ports m (p ∷ processes) = proc_result ports m

-- what `proc` promises
pub record Gives (table : PortTable) (m n : Module) : Type 0 where
  -- it is a step: no known output bit is lost, no bit gets a second driver, name, ports and instances stay
  pub step : IsStep table m n
  -- the answer may be given to each pass
  pub ready : passes.IsReady (table_ports table.modules) n
  -- the memories stay
  pub stores : n.memories ≡ m.memories
