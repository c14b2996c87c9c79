-- The limits of the step.
use Rattle.std.specs.Prelude.{List, flat_map}
use Rattle.rtl_ir.specs.Build.{Building, building_of}
use Rattle.rtl_ir.specs.declared.module.Module.{Module}
use Rattle.rtl_ir.specs.declared.process.Process.{Process}
use Rattle.rtl_ir.specs.Rules.{acting_rules}
use Rattle.net_index.specs.Builder.{PassesLimit}
use Rattle.net_model.specs.Proc.Sync.{Numbered, in_turn, rules_step, sync_step, writes_step}

-- all flip-flops and latches of processes, and then all write ports, behind these lines
abbrev pub steps_of : Module → List Numbered → List Process → Building → Building
steps_of m done ps b =
    (writes_step m (flat_map (λ (p : Process). p.syncs) ps)
    (record { building = in_turn (λ (p : Process). rules_step (acting_rules p.syncs)) ps b; numbered = done })).building

-- the module with all that is added, its processes as they were
abbrev pub synced : Module → Building
synced m = sync_step m (building_of m)

-- with all that is added the module passes a limit
abbrev pub SyncPassesLimit : Module → Type 0
SyncPassesLimit m = PassesLimit (synced m)
