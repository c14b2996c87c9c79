-- What a module has that a pass is given.
use Rattle.std.specs.Prelude.{◌≡◌, ◌≤◌, [], map}
use Rattle.rtl_sig.specs.declared.sig.WireBit.{WireBit}
use Rattle.rtl_ir.specs.Drivers.{drive_count, drives_of}
use Rattle.rtl_ir.specs.Faults.{module_faults}
use Rattle.rtl_ir.specs.Scope.{Scope, without_processes}
use Rattle.rtl_ir.specs.Types as types
use Rattle.rtl_ir.specs.declared.module.Module.{Module}
use Rattle.rtl_ir.specs.declared.wire.Wire.{Wire}
use Rattle.net_model.specs.Lists.{Distinct}
use Rattle.net_model.specs.Within.{IsWithin}

-- a module with no fault as far as it is taken, over the ports of these modules; no two wires of one name; each of its signals
-- names wires that it has; no bit, be it past the end of its wire, has two drivers
pub record IsReadyWithin (scope : Scope) (ports : types.Ports) (m : Module) : Type 0 where
  pub faultless : module_faults scope ports m ≡ []
  pub named : Distinct (map (λ (w : Wire). w.name) m.wires)
  pub within : IsWithin m
  pub once : (b : WireBit) → drive_count (drives_of ports m) b ≤ 1

-- a module that a pass may be given: with cells, instances and memories, and no process. Clocks of write ports are not compared:
-- a pass may close a loop of connections, or take one away, and a bit of a loop follows to itself
abbrev pub IsReady : types.Ports → Module → Type 0
IsReady ports m = IsReadyWithin without_processes ports m
