-- A module without faults stays one with gates in the places of cells, whatever part of designs is taken.
use Rattle.std.proofs.Common.{◌≡◌, Bool, true, false, List, [], ◌∷◌, ◌++◌, Option, Some, None, inl, inr, refl, sym, ◌∙◌, ap, subst}
use Rattle.std.specs.Prelude.{flat_map, not, ◌&&◌}
use Rattle.std.specs.Option.{option_and_then, option_map_or}
use Rattle.cell_types.specs.declared.kind.CellKind.TheVariants as Cells
use Rattle.cell_types.specs.declared.kind.CellKind.{CellKind}
use Rattle.cell_types.specs.declared.memory.MemoryKind.{MemoryKind}
use Rattle.rtl_ir.specs.Build.{building_of}
use Rattle.rtl_ir.specs.Fault.{BadMemory, Fault, UnsupportedCell, fault_if, spot}
use Rattle.rtl_ir.specs.Faults.{module_faults}
use Rattle.rtl_ir.specs.Faults.Cells.{cell_faults, faults_by_type, is_memory_kind, memory_faults, misfit, output_faults, shape_fault}
use Rattle.rtl_ir.specs.Faults.MemoryCells.{is_bad_in, is_bad_memory_cell, store_named}
use Rattle.rtl_ir.specs.Faults.Processes.{process_faults}
use Rattle.rtl_ir.specs.Faults.Stores.{is_bad_store, store_faults}
use Rattle.rtl_ir.specs.Parameters.{memory_name}
use Rattle.rtl_ir.specs.Scope.{Scope, without_processes}
use Rattle.rtl_ir.specs.Types.{CellType, Instance, Library, Ports, Unknown, Unsupported, cell_type}
use Rattle.rtl_ir.specs.declared.cell.Cell.{Cell}
use Rattle.rtl_ir.specs.declared.module.Module.{Module}
use Rattle.rtl_ir.specs.declared.store.Store.{Store}
use Rattle.net_model.proofs.Members.{In-left, In-right}
use Rattle.net_model.proofs.Ranges.{each_both, each_more}
use Rattle.net_model.specs.Within.{Each}
use Rattle.pass_laws.proofs.Accesses.{accesses_outside, cells_sound, none_there}
use Rattle.pass_laws.proofs.Alone.{IsSound, is_false, others_by, outside_type, sound_by}
use Rattle.pass_laws.proofs.Faultless.{HasNoFaults, library_faults, no_faults, none_left, none_right}
use Rattle.pass_laws.proofs.Forming.{all_none}
use Rattle.pass_laws.specs.Ready.{IsReady}
use Rattle.pass_laws.specs.Replaces.{IsOutside}
use Rattle.pass_laws.specs.Stays.{StaysFaultless}
use Rattle.tech_map.specs.Techmap.{techmap_of}
use Rattle.tech_map.proofs.Forming.{swap_faultless, takable}
use Rattle.tech_map.proofs.Remembering.{all_replaced}
use Rattle.tech_map.proofs.Standing.{IsTakable, swapped, swapped_is}

-- where memories are taken and clocks are not compared, which processes are taken does not matter to a module without any
module _ (scope : Scope) (ports : Ports) (m : Module) (taken : scope.memories ≡ true) (clocks : scope.clocks ≡ false) where
  type_alike : (earlier : List Cell) (c : Cell) (type : CellType) → faults_by_type scope m earlier c type ≡ faults_by_type without_processes m earlier c type
  type_alike earlier c (Library kind) =
      λ i. fault_if (is_memory_kind kind && not (taken i)) (UnsupportedCell (spot m.id c.name))
      ++ shape_fault (spot m.id c.name) (misfit kind c)
      ++ output_faults (spot m.id c.name) (Library kind) c.pins
      ++ memory_faults (clocks i) m earlier c kind
  type_alike earlier c (Instance lines) = refl
  type_alike earlier c Unsupported = refl
  type_alike earlier c Unknown = refl

  cells_alike : (earlier cs : List Cell) → cell_faults scope ports m earlier cs ≡ cell_faults without_processes ports m earlier cs
  cells_alike earlier [] = refl
  cells_alike earlier (c ∷ cs) =
      λ i. type_alike earlier c (cell_type ports c.kind_name) i ++ cells_alike (earlier ++ c ∷ []) cs i

  stores_alike : (stores : List Store) → flat_map (store_faults scope m.id) stores ≡ flat_map (store_faults without_processes m.id) stores
  stores_alike [] = refl
  stores_alike (s ∷ stores) =
      λ i. (fault_if (not (taken i)) (UnsupportedCell (spot m.id s.name)) ++ fault_if (is_bad_store s) (BadMemory (spot m.id s.name))) ++ stores_alike stores i

  process_alike : m.processes ≡ [] → process_faults scope ports m [] m.processes ≡ process_faults without_processes ports m [] m.processes
  process_alike none = ap (process_faults scope ports m []) none ∙ sym (ap (process_faults without_processes ports m []) none)

-- the parts of the faults of a module in one part of designs, from those in another
module _ (scope known : Scope) (ports : Ports) (m : Module) (processes : m.processes ≡ []) (none : HasNoFaults known ports m) where
  none_with : flat_map (store_faults scope m.id) m.memories ≡ [] → cell_faults scope ports m [] m.cells ≡ [] → module_faults scope ports m ≡ []
  none_with stores cells =
      all_none none.wires stores cells (ap (process_faults scope ports m []) processes) none.links none.bits

-- a module without memories has no cells of any
module _ (scope : Scope) (ports : Ports) (m : Module) (memories : m.memories ≡ []) where
  unknown : (earlier : List Cell) (c : Cell) (kind : MemoryKind) → is_bad_memory_cell scope.clocks m earlier c kind ≡ true
  unknown earlier c kind =
      ap (λ z. option_map_or (is_bad_in scope.clocks m earlier c kind) (option_and_then (store_named z) (memory_name c.params)) true) memories
      ∙ by (memory_name c.params)
    where
      by : (o : Option (List _)) → option_map_or (is_bad_in scope.clocks m earlier c kind) (option_and_then (store_named []) o) true ≡ true
      by None = refl
      by (Some name) = refl

  outside_here : (earlier : List Cell) (c : Cell) → faults_by_type scope m earlier c (cell_type ports c.kind_name) ≡ [] → IsOutside c
  outside_here earlier c e kind own = by kind (sym (library_faults scope ports m earlier c kind own) ∙ e)
    where
      by : (kind : CellKind) → faults_by_type scope m earlier c (Library kind) ≡ [] → is_memory_kind kind ≡ false
      by (Cells.Word k) f = refl
      by (Cells.Gate k) f = refl
      by (Cells.Storage k) f = refl
      by (Cells.StorageGate k) f = refl
      by (Cells.Memory k) f =
          let bad : is_bad_memory_cell scope.clocks m earlier c k ≡ false = is_false (is_bad_memory_cell scope.clocks m earlier c k) (BadMemory (spot m.id c.name)) (none_right _ (memory_faults scope.clocks m earlier c (Cells.Memory k)) f) in
          let no : true ≡ false = sym (unknown earlier c k) ∙ bad in
          absurd (cc)

  cells_outside : (earlier cs : List Cell) → cell_faults scope ports m earlier cs ≡ [] → Each IsOutside cs
  cells_outside earlier [] e = λ d i. absurd i
  cells_outside earlier (c ∷ cs) e =
      let here : List Fault = faults_by_type scope m earlier c (cell_type ports c.kind_name) in
      let later : List Fault = cell_faults scope ports m (earlier ++ c ∷ []) cs in
      each_more IsOutside c cs (outside_here earlier c (none_left here later e)) (cells_outside (earlier ++ c ∷ []) cs (none_right here later e))

  sound_here : (earlier cs : List Cell) → cell_faults scope ports m earlier cs ≡ [] → Each (IsSound ports) cs
  sound_here earlier [] e = λ d i. absurd i
  sound_here earlier (c ∷ cs) e =
      let here : List Fault = faults_by_type scope m earlier c (cell_type ports c.kind_name) in
      let later : List Fault = cell_faults scope ports m (earlier ++ c ∷ []) cs in
      each_more (IsSound ports) c cs (sound_by scope m c earlier (cell_type ports c.kind_name) (none_left here later e)) (sound_here (earlier ++ c ∷ []) cs (none_right here later e))

  -- cells that are none of a memory, and have no faults but those of memories
  none_outside : (earlier cs : List Cell) → Each IsOutside cs → Each (IsSound ports) cs → cell_faults scope ports m earlier cs ≡ []
  none_outside earlier [] h k = refl
  none_outside earlier (c ∷ cs) h k =
      let here : faults_by_type scope m earlier c (cell_type ports c.kind_name) ≡ [] = others_by scope m c earlier (cell_type ports c.kind_name) (outside_type ports c (h c (inl refl))) (k c (inl refl)) in
      let later : cell_faults scope ports m (earlier ++ c ∷ []) cs ≡ [] = none_outside (earlier ++ c ∷ []) cs (λ x i. h x (inr i)) (λ x i. k x (inr i)) in
      λ i. here i ++ later i

-- where memories are not taken there are none
no_stores : (scope : Scope) (id : List _) (stores : List Store) → scope.memories ≡ false → flat_map (store_faults scope id) stores ≡ [] → stores ≡ []
no_stores scope id [] f e = refl
no_stores scope id (s ∷ stores) f e =
    let here : fault_if (not scope.memories) (UnsupportedCell (spot id s.name)) ≡ [] = none_left _ (fault_if (is_bad_store s) (BadMemory (spot id s.name))) (none_left (store_faults scope id s) (flat_map (store_faults scope id) stores) e) in
    let some : UnsupportedCell (spot id s.name) ∷ [] ≡ [] = sym (ap (λ t. fault_if (not t) (UnsupportedCell (spot id s.name))) f) ∙ here in
    absurd (cc)

-- cells outside of memories in the place of one leave all outside
outside_replaced : (pre : List Cell) (c : Cell) (post here : List Cell) → IsOutside c → Each IsOutside here → Each IsOutside (pre ++ c ∷ post) → Each IsOutside (pre ++ (here ++ post))
outside_replaced pre c post here o os h =
    each_both IsOutside pre (here ++ post) (λ d i. h d (In-left d pre (c ∷ post) i)) (each_both IsOutside here post os (λ d i. h d (In-right d pre (c ∷ post) (inr i))))

module _ (known : Ports) (m : Module) (ready : IsReady known m) where
  fine : IsTakable m
  fine = takable known m ready

  abbrev new : Module
  new = swapped m fine

  module _ (scope : Scope) (ports : Ports) (e : module_faults scope ports m ≡ []) where
    none : HasNoFaults scope ports m
    none = no_faults scope ports m e

    -- with the ports of whatever modules the module may be given to a pass, and so it may after it
    new_none : module_faults without_processes ports m ≡ [] → HasNoFaults without_processes ports new
    new_none f =
        no_faults without_processes ports new (swap_faultless ports m fine (no_faults without_processes ports m f))

    with_memories : scope.memories ≡ true → scope.clocks ≡ false → module_faults scope ports new ≡ []
    with_memories taken clocks =
        let before : module_faults without_processes ports m ≡ [] = none_with without_processes scope ports m fine.processes none (sym (stores_alike scope ports m taken clocks m.memories) ∙ none.stores) (sym (cells_alike scope ports m taken clocks [] m.cells) ∙ none.cells) in
        let after : HasNoFaults without_processes ports new = new_none before in
        none_with scope without_processes ports new fine.processes after (stores_alike scope ports new taken clocks m.memories ∙ after.stores) (cells_alike scope ports new taken clocks [] new.cells ∙ after.cells)

    no_memories : m.memories ≡ [] → module_faults scope ports new ≡ []
    no_memories memories =
        let outside : Each IsOutside m.cells = cells_outside scope ports m memories [] m.cells none.cells in
        let sound : Each (IsSound ports) m.cells = sound_here scope ports m memories [] m.cells none.cells in
        let no_stores_in : (any : Scope) → flat_map (store_faults any m.id) m.memories ≡ [] = λ any. ap (flat_map (store_faults any m.id)) memories in
        let after : HasNoFaults without_processes ports new = new_none (none_with without_processes scope ports m fine.processes none (no_stores_in without_processes) (none_there ports m [] m.cells sound (accesses_outside ports m [] m.cells outside))) in
        none_with scope without_processes ports new fine.processes after (no_stores_in scope)
        (none_outside scope ports new memories [] new.cells
        (all_replaced (Each IsOutside) outside_replaced [] m.cells (building_of m) fine.whole outside)
        (cells_sound ports new [] new.cells after.cells))

    stays : (scope.clocks ≡ true → m.memories ≡ []) → module_faults scope ports new ≡ []
    stays apart = by scope.memories scope.clocks refl refl
      where
        by : (t u : Bool) → scope.memories ≡ t → scope.clocks ≡ u → module_faults scope ports new ≡ []
        by true false f g = with_memories f g
        by true true f g = no_memories (apart g)
        by false u f g = no_memories (no_stores scope m.id m.memories f none.stores)

  -- so a module without faults stays one
  pub techmap_faultless : StaysFaultless m (techmap_of m)
  techmap_faultless scope ports apart e =
      subst (λ n. module_faults scope ports n ≡ []) (sym (swapped_is m fine)) (stays scope ports e apart)
