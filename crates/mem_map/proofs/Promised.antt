-- What is promised of a module in which a memory became words.
use Rattle.std.proofs.Common.{◌≡◌, ◌<◌, ◌≤◌, ◌++◌, length, Some, Result, sym, ◌∙◌, ap, subst}
use Rattle.std.specs.Prelude.{IfOk, OnOk, option_map, slice_get}
use Rattle.std.proofs.lemmas.List.{append-nil}
use Rattle.std.proofs.lemmas.Option.{slice_get-get_or}
use Rattle.rtl_ir.specs.Build.{building_of}
use Rattle.rtl_ir.specs.Flat.Cell.{Ports, instances}
use Rattle.rtl_ir.specs.Ports.{ports_of}
use Rattle.rtl_ir.specs.Types.{table_ports}
use Rattle.rtl_ir.specs.declared.module.Module.{Module}
use Rattle.rtl_ir.specs.declared.plan.MemPlan.{MemPlan}
use Rattle.rtl_ir.specs.declared.ports.PortTable.{PortTable}
use Rattle.rtl_ir.specs.declared.store.Store.{Store}
use Rattle.net_index.specs.Builder.{IsInLimits}
use Rattle.net_index.specs.declared.builder_fault.PassFault.{PassFault}
use Rattle.net_model.proofs.Grown.{ports_more}
use Rattle.net_model.proofs.Swapping.{instances-append}
use Rattle.net_model.specs.Mem.Expand.{expanded_memory, memory_step}
use Rattle.net_model.specs.Mem.Gather.{gathered}
use Rattle.net_model.specs.Refine.{IsWellDriven, RefinesIn}
use Rattle.pass_laws.specs.Pass.{IsPass, KeepsInterface, StaysDriven}
use Rattle.pass_laws.specs.Ready.{IsReady}
use Rattle.pass_laws.specs.OwnNames.{HaveOwnNames}
use Rattle.pass_laws.proofs.Promised.{answered_within}
use Rattle.memory_laws.proofs.Formed as formed
use Rattle.memory_laws.proofs.KeptRows.{instances_stay, no_instances}
use Rattle.memory_laws.proofs.MemoryBuilt.{memory_grows}
use Rattle.memory_laws.proofs.Readied.{still_named, still_ready}
use Rattle.memory_laws.proofs.Refined as refined
use Rattle.mem_map.specs.Gathered.{IsGathered}
use Rattle.mem_map.specs.Limits.{expanded, no_store, planned_store}
use Rattle.mem_map.proofs.Passing.{names_are}

-- where the plan is gathered from the module, and nothing passes a limit
module _ (table : PortTable) (m : Module) (plan : MemPlan) (inside : plan.store < length m.memories) (limits : IsInLimits (expanded m plan)) (is : IsGathered table m plan) where
  abbrev s : Store
  s = planned_store m plan

  there : slice_get m.memories plan.store ≡ Some s
  there = slice_get-get_or m.memories plan.store no_store inside

  gathers : gathered m plan.store s ≡ plan
  gathers =
      let same : Some plan ≡ Some (gathered m plan.store s) = is.from ∙ ap (option_map (gathered m plan.store)) there in
      cc

  -- fresh names are short
  few : (memory_step (gathered m plan.store s) s (building_of m)).next ≤ 1000000000
  few = subst (λ p. (memory_step p s (building_of m)).next ≤ 1000000000) (sym gathers) (subst (λ n. n ≤ 1000000000) (names_are m plan) limits.names)

  refines : RefinesIn m (expanded_memory m plan s) table
  refines = subst (λ p. RefinesIn m (expanded_memory m p s) table) gathers (refined.refines table m s plan.store is.ready is.named there)

  driven : (over : Ports) → IsWellDriven over m → IsWellDriven over (expanded_memory m plan s)
  driven over h =
      subst (λ p. IsWellDriven over (expanded_memory m p s)) gathers (formed.driven (table_ports table.modules) m s plan.store is.ready is.named there few over h)

  ready : IsReady (table_ports table.modules) (expanded_memory m plan s)
  ready =
      subst (λ p. IsReady (table_ports table.modules) (expanded_memory m p s)) gathers (still_ready (table_ports table.modules) m s plan.store is.ready is.named there few)

  named : HaveOwnNames (expanded_memory m plan s)
  named =
      subst (λ p. HaveOwnNames (expanded_memory m p s)) gathers (still_named (table_ports table.modules) m s plan.store is.ready is.named there few)

-- what is promised of a module after the memory; name, ports and instances stay, whatever the plan is
pub record Gives (m : Module) (plan : MemPlan) (n : Module) : Type 0 where
  pub kept : KeepsInterface m n
  pub pass : (table : PortTable) → IsGathered table m plan → IsPass table m n
  pub driven : (table : PortTable) → IsGathered table m plan → StaysDriven m n
  pub named : (table : PortTable) → IsGathered table m plan → HaveOwnNames n

module _ (m : Module) (plan : MemPlan) (inside : plan.store < length m.memories) where
  keeps : KeepsInterface m (expanded_memory m plan (planned_store m plan))
  keeps =
      let s : Store = planned_store m plan in
      let all = memory_grows plan s (building_of m) in
      record {
        id = sym (ap (λ (n : Module). n.id) all.body);
        ports = sym (ap (λ (n : Module). ports_of n.wires) all.body ∙ ports_more m.wires all.wires all.inner);
        instances =
            sym
            (instances_stay s.name (memory_step plan s (building_of m)).body.cells
            ∙ ap (λ (n : Module). instances n.cells) all.body
            ∙ instances-append m.cells all.cells
            ∙ ap (λ z. instances m.cells ++ z) (no_instances all.cells all.plain)
            ∙ append-nil (instances m.cells));
      }

  gives : IsInLimits (expanded m plan) → Gives m plan (expanded_memory m plan (planned_store m plan))
  gives limits = record {
    kept = keeps;
    pass = λ table is. record {
      refines = refines table m plan inside limits is;
      ready = λ h. ready table m plan inside limits is;
      driven = λ over agree. driven table m plan inside limits is over;
      id = keeps.id;
      ports = keeps.ports;
      instances = keeps.instances;
    };
    driven = λ table is. driven table m plan inside limits is;
    named = λ table is. named table m plan inside limits is;
  }

  -- of what is answered
  pub answer_gives : (r : Result Module PassFault) → IfOk r (λ after. after ≡ expanded_memory m plan (planned_store m plan)) → OnOk r (IsInLimits (expanded m plan)) → IfOk r (Gives m plan)
  answer_gives r is within = answered_within r (expanded_memory m plan (planned_store m plan)) is (IsInLimits (expanded m plan)) within (Gives m plan) gives
