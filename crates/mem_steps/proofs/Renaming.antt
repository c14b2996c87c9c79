-- `memory` does not look at the name of a module.
use Rattle.std.proofs.Common.{◌≡◌, ℕ, zero, suc, Bool, true, false, cond, List, [], ◌∷◌, length, Some, None, refl, ap, ◌∙◌}
use Rattle.std.specs.Prelude.{◌&&◌, option_map}
use Rattle.rtl_ir.specs.Build.{Building, building_of}
use Rattle.rtl_ir.specs.declared.module.Module.{Module}
use Rattle.rtl_ir.specs.declared.plan.MemPlan.{MemPlan}
use Rattle.rtl_ir.specs.declared.store.Store.{Store}
use Rattle.net_model.specs.Mem.Expand.{building_without, expanded_memory, first_memory, memories_gone, memory_of, memory_step, without_memory}
use Rattle.net_model.specs.Mem.Gather.{gathered}
use Rattle.memory_laws.proofs.Commuting.{Commutes, step_after}
use Rattle.mem_steps.specs.Within.{are_within, first_within, is_within, memory_within}

module _ (id : List ℕ) where
  -- a module under the name, and what is built of one
  abbrev pub under : Module → Module
  under m = record m { id = id }

  abbrev renamed : Building → Building
  renamed b = record { body = under b.body; next = b.next }

  renamed_commutes : Commutes renamed
  renamed_commutes = record {
    wires = λ b. refl;
    fresh = λ width attributes b. refl;
    cell = λ kind plain params pins b. refl;
    link = λ left right b. refl;
  }

  step_renamed : (plan : MemPlan) (s : Store) (b : Building) → memory_step plan s (renamed b) ≡ renamed (memory_step plan s b)
  step_renamed plan s b = step_after renamed renamed_commutes plan s b

  one_renamed : (m : Module) (s : Store) → expanded_memory (under m) (gathered (under m) 0 s) s ≡ under (expanded_memory m (gathered m 0 s) s)
  one_renamed m s = ap (λ (b : Building). without_memory 0 s b.body) (step_renamed (gathered m 0 s) s (building_of m))

  first_renamed : (m : Module) (ss : List Store) → first_memory (under m) ss ≡ under (first_memory m ss)
  first_renamed m [] = refl
  first_renamed m (s ∷ ss) = one_renamed m s

  gone_renamed : (k : ℕ) (m : Module) → memories_gone k (under m) ≡ under (memories_gone k m)
  gone_renamed zero m = refl
  gone_renamed (suc k) m = ap (memories_gone k) (first_renamed m m.memories) ∙ gone_renamed k (first_memory m m.memories)

  limits_kept : (b : Building) → is_within (renamed b) ≡ is_within b
  unfolding is_within
  limits_kept b = refl

  first_kept : (m : Module) (ss : List Store) → first_within (under m) ss ≡ first_within m ss
  first_kept m [] = refl
  first_kept m (s ∷ ss) =
      ap is_within (step_renamed (gathered m 0 s) s (building_without 0 s m)) ∙ limits_kept (memory_step (gathered m 0 s) s (building_without 0 s m))

  all_kept : (k : ℕ) (m : Module) → are_within k (under m) ≡ are_within k m
  all_kept zero m = refl
  all_kept (suc k) m =
      λ i. first_kept m m.memories i && (ap (are_within k) (first_renamed m m.memories) ∙ all_kept k (first_memory m m.memories)) i

  pub memory_renamed : (m : Module) → memory_within (under m) ≡ option_map under (memory_within m)
  memory_renamed m =
      (λ i. cond (all_kept (length m.memories) m i) (Some (gone_renamed (length m.memories) m i)) None) ∙ by (are_within (length m.memories) m)
    where
      by : (t : Bool) → cond t (Some (under (memory_of m))) None ≡ option_map under (cond t (Some (memory_of m)) None)
      by true = refl
      by false = refl
