-- `proc` does not look at the name of a module.
use Rattle.std.proofs.Common.{◌≡◌, ℕ, List, [], ◌∷◌, Bool, true, false, cond, Some, None, refl, ap, ◌∙◌}
use Rattle.std.specs.Prelude.{◌&&◌, option_map}
use Rattle.rtl_ir.specs.declared.module.Module.{Module}
use Rattle.rtl_ir.specs.declared.process.Process.{Process}
use Rattle.rtl_ir.specs.Build.{Building, building_of}
use Rattle.rtl_ir.specs.Types.{Ports}
use Rattle.net_model.specs.Proc.Steps.{proc_of}
use Rattle.net_model.specs.Proc.Latch.{latches_step, proc_latch_of}
use Rattle.net_model.specs.Proc.Mux.{processes_step, proc_mux_of}
use Rattle.net_model.specs.Proc.Start.{proc_tree_of}
use Rattle.net_model.specs.Proc.Sync.{proc_sync_of, sync_step}
use Rattle.proc_steps.specs.Limits.{is_within}
use Rattle.proc_steps.specs.Steps.{are_within, clocked, clocking, latched, latching, leveled, muxing, proc_within}
use Rattle.proc_steps.proofs.RenamingMux.{mux_renamed, processes_renamed, renamed, under}
use Rattle.proc_steps.proofs.RenamingLatch.{latch_of_renamed, latches_renamed}
use Rattle.proc_steps.proofs.RenamingReset.{reset_of_renamed}
use Rattle.proc_steps.proofs.RenamingSync.{sync_of_renamed, sync_renamed}

module _ (id : List ℕ) (ports : Ports) (m : Module) where
  leveled_renamed : leveled ports (under id m) ≡ under id (leveled ports m)
  leveled_renamed = reset_of_renamed id ports (proc_tree_of m)

  latched_renamed : latched ports (under id m) ≡ under id (latched ports m)
  latched_renamed = ap proc_latch_of leveled_renamed ∙ latch_of_renamed id (leveled ports m)

  clocked_renamed : clocked ports (under id m) ≡ under id (clocked ports m)
  clocked_renamed = ap proc_sync_of latched_renamed ∙ sync_of_renamed id (latched ports m)

  all_renamed : proc_of ports (under id m) ≡ under id (proc_of ports m)
  all_renamed = ap proc_mux_of clocked_renamed ∙ mux_renamed id (clocked ports m)

  within_kept : (b : Building) → is_within (renamed id b) ≡ is_within b
  unfolding is_within
  within_kept b = refl

  latching_kept : is_within (latching ports (under id m)) ≡ is_within (latching ports m)
  latching_kept =
      ap (λ (n : Module). is_within (latches_step n.processes (building_of n))) leveled_renamed
      ∙ ap is_within (latches_renamed id (leveled ports m).processes (building_of (leveled ports m)))
      ∙ within_kept (latching ports m)

  clocking_kept : is_within (clocking ports (under id m)) ≡ is_within (clocking ports m)
  clocking_kept =
      ap (λ (n : Module). is_within (sync_step n (building_of n))) latched_renamed
      ∙ ap is_within (sync_renamed id (latched ports m) (building_of (latched ports m)))
      ∙ within_kept (clocking ports m)

  muxing_kept : is_within (muxing ports (under id m)) ≡ is_within (muxing ports m)
  muxing_kept =
      ap (λ (n : Module). is_within (processes_step (building_of n) n.processes)) clocked_renamed
      ∙ ap is_within (processes_renamed id (clocked ports m).processes (building_of (clocked ports m)))
      ∙ within_kept (muxing ports m)

  limits_kept : are_within ports (under id m) ≡ are_within ports m
  limits_kept = λ i. latching_kept i && (clocking_kept i && muxing_kept i)

  pub proc_renamed : (ps : List Process) → proc_within ports (under id m) ps ≡ option_map (under id) (proc_within ports m ps)
  proc_renamed [] = refl
  proc_renamed (p ∷ ps) = (λ i. cond (limits_kept i) (Some (all_renamed i)) None) ∙ by (are_within ports m)
    where
      by : (t : Bool) → cond t (Some (under id (proc_of ports m))) None ≡ option_map (under id) (cond t (Some (proc_of ports m)) None)
      by true = refl
      by false = refl
