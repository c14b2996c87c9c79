-- After a memory became words the module has the same name, ports and instances, and no bit has a second driver.
use Rattle.std.proofs.Common.{◌≡◌, ◌≤◌, ℕ, [], Some, sym, ◌∙◌, ap, subst}
use Rattle.std.specs.Prelude.{slice_get}
use Rattle.rtl_ir.specs.Build.{building_of}
use Rattle.rtl_ir.specs.Flat.Cell as flat
use Rattle.rtl_ir.specs.Flat.Cell.{instances}
use Rattle.rtl_ir.specs.Ports.{ports_of}
use Rattle.rtl_ir.specs.Types as types
use Rattle.rtl_ir.specs.declared.module.Module.{Module}
use Rattle.rtl_ir.specs.declared.store.Store.{Store}
use Rattle.net_model.specs.Mem.Expand.{expanded_memory, memory_step}
use Rattle.net_model.specs.Mem.Gather.{gathered}
use Rattle.net_model.specs.Refine.{IsWellDriven}
use Rattle.net_model.specs.Within.{IsWithin}
use Rattle.pass_laws.specs.Ready.{IsReady}
use Rattle.pass_laws.specs.OwnNames.{HaveOwnNames}
use Rattle.memory_laws.proofs.Driven.{after_is, memory_driven, memory_instances, memory_ports}
use Rattle.memory_laws.proofs.Faultless.{none_there, others_apart}
use Rattle.memory_laws.proofs.MemoryThere.{before}

module _ (ports : types.Ports) (m : Module) (s : Store) (at : ℕ) (ready : IsReady ports m) (named : HaveOwnNames m) (there : slice_get m.memories at ≡ Some s) (few : (memory_step (gathered m at s) s (building_of m)).next ≤ 1000000000) where
  -- the module has no process
  same : before m s at ≡ m
  same = let none : m.processes ≡ [] = none_there ports m ready named in (λ i. record m { processes = sym none i })

  within : IsWithin (before m s at)
  within = subst IsWithin (sym same) ready.within

  few' : (memory_step (gathered (before m s at) at s) s (building_of (before m s at))).next ≤ 1000000000
  few' = subst (λ (k : Module). (memory_step (gathered k at s) s (building_of k)).next ≤ 1000000000) (sym same) few

  pub same_id : m.id ≡ (expanded_memory m (gathered m at s) s).id
  same_id =
      sym (ap (λ (k : Module). k.id) (after_is m s at there (others_apart m.memories at s named there) within few'))
      ∙ ap (λ (k : Module). (expanded_memory k (gathered k at s) s).id) same

  pub same_ports : ports_of m.wires ≡ ports_of (expanded_memory m (gathered m at s) s).wires
  same_ports =
      memory_ports m s at there (others_apart m.memories at s named there) within few'
      ∙ ap (λ (k : Module). ports_of (expanded_memory k (gathered k at s) s).wires) same

  pub same_instances : instances m.cells ≡ instances (expanded_memory m (gathered m at s) s).cells
  same_instances =
      memory_instances m s at there (others_apart m.memories at s named there) within few'
      ∙ ap (λ (k : Module). instances (expanded_memory k (gathered k at s) s).cells) same

  pub driven : (over : flat.Ports) → IsWellDriven over m → IsWellDriven over (expanded_memory m (gathered m at s) s)
  driven over h =
      subst (λ (k : Module). IsWellDriven over (expanded_memory k (gathered k at s) s)) same
      (memory_driven m s at there (others_apart m.memories at s named there) within few' over (subst (IsWellDriven over) (sym same) h))
