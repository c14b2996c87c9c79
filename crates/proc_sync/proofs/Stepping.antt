-- All that the step adds only grows.
use Rattle.std.proofs.Common.{List, []}
use Rattle.std.specs.Prelude.{flat_map}
use Rattle.rtl_ir.specs.Build.{Building, building_of}
use Rattle.rtl_ir.specs.Rules.{acting_rules}
use Rattle.rtl_ir.specs.declared.module.Module.{Module}
use Rattle.rtl_ir.specs.declared.process.Process.{Process}
use Rattle.net_index.specs.Builder.{PassesLimit}
use Rattle.net_model.specs.Proc.Sync.{Numbered, in_turn, rules_step}
use Rattle.proc_sync.specs.Limits.{steps_of, synced}
use Rattle.proc_sync.proofs.Exact.{processes_grow}
use Rattle.proc_sync.proofs.Following.{writes_grow}
use Rattle.proc_sync.proofs.Turning.{Grows, grows_more, over_later}

module _ (m : Module) (done : List Numbered) (ps : List Process) (b : Building) where
  abbrev first : Building
  first = in_turn (λ (p : Process). rules_step (acting_rules p.syncs)) ps b

  then : Grows first (steps_of m done ps b)
  then = writes_grow m (flat_map (λ (p : Process). p.syncs) ps) (record { building = first; numbered = done })

  pub first_over : PassesLimit first → PassesLimit (steps_of m done ps b)
  first_over over = over_later first (steps_of m done ps b) then over

  pub steps_grow : Grows b (steps_of m done ps b)
  steps_grow = grows_more b first (steps_of m done ps b) (processes_grow ps b) then

pub module_over : (m : Module) → PassesLimit (building_of m) → PassesLimit (synced m)
module_over m over = over_later (building_of m) (synced m) (steps_grow m [] m.processes (building_of m)) over
