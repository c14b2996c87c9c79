-- A module without faults as far as it is taken has none where more is taken, and clocks are compared no more.
use Rattle.std.proofs.Common.{◌≡◌, Bool, true, false, List, [], ◌∷◌, ◌++◌, Option, Some, None, inl, inr, refl, sym, ◌∙◌, ap, subst}
use Rattle.std.specs.Prelude.{◌+◌, length, flat_map, map, nat_lt, not, ◌&&◌, ◌||◌, ◌==◌}
use Rattle.std.specs.List.{list_any}
use Rattle.std.specs.Option.{option_and_then, option_map_or}
use Rattle.std.proofs.lemmas.Bool.{or_parts}
use Rattle.cell_types.specs.declared.kind.CellKind.{CellKind}
use Rattle.cell_types.specs.declared.kind.CellKind.TheVariants as Cells
use Rattle.cell_types.specs.declared.memory.MemoryKind.{MemoryKind}
use Rattle.cell_types.specs.declared.memory.MemoryKind.TheVariants.{Memrd, MemrdV2, MemwrV2, Meminit, MeminitV2}
use Rattle.cell_types.specs.declared.param_name.ParamName.TheVariants.{Portid}
use Rattle.rtl_ir.specs.declared.cell.Cell.{Cell}
use Rattle.rtl_ir.specs.declared.module.Link.{Link}
use Rattle.rtl_ir.specs.declared.module.Module.{Module}
use Rattle.rtl_ir.specs.declared.process.Process.{Process}
use Rattle.rtl_ir.specs.declared.store.Store.{Store}
use Rattle.rtl_ir.specs.Fault.{Fault, BadMemory, BadPort, BadProcess, TooWide, UnsupportedCell, Width, fault_if, spot}
use Rattle.rtl_ir.specs.Faults.{module_faults}
use Rattle.rtl_ir.specs.Faults.Cells.{cell_faults, faults_by_type, is_memory_kind, memory_faults, misfit, output_faults, shape_fault}
use Rattle.rtl_ir.specs.Faults.MemoryCells.{is_bad_access, is_bad_in, is_bad_memory_cell, is_bad_write, is_clocked, is_unlike, number_at, store_named}
use Rattle.rtl_ir.specs.Faults.ProcessLimits.{gives_to_constant, has_uneven, is_too_wide}
use Rattle.rtl_ir.specs.Faults.Processes.{faults_of_process, has_bad_line, is_bad_line, is_bad_process, is_bad_write_in, process_faults}
use Rattle.rtl_ir.specs.Faults.Stores.{is_bad_store, store_faults}
use Rattle.rtl_ir.specs.Parameters.{memory_name}
use Rattle.rtl_ir.specs.Scope.{Scope, everything, with_processes, without_processes}
use Rattle.rtl_ir.specs.Types.{CellType, Instance, Library, Ports, Unknown, Unsupported, cell_type}
use Rattle.rtl_ir.specs.WritePorts.{EventLine, WritePort, cell_clocking, cell_ports, clashes, clockings_of, event_clocking, lines_of, next_port, write_lines}
use Rattle.net_model.specs.Lists.{In}
use Rattle.net_model.specs.Within.{Each}
use Rattle.pass_laws.proofs.Alone.{is_false}
use Rattle.pass_laws.proofs.Faultless.{HasNoFaults, no_faults, none_left, none_right}
use Rattle.proc_laws.specs.Ready.{IsReady}

-- what is told where something is not taken is not told where it is
taken_too : (s t : Bool) (f : Fault) → (s ≡ true → t ≡ true) → fault_if (not s) f ≡ [] → fault_if (not t) f ≡ []
taken_too true t f more e = ap (λ b. fault_if (not b) f) (more refl)
taken_too false t f more e = absurd (cc)

taken_too_of : (k s t : Bool) (f : Fault) → (s ≡ true → t ≡ true) → fault_if (k && not s) f ≡ [] → fault_if (k && not t) f ≡ []
taken_too_of true s t f more e = taken_too s t f more e
taken_too_of false s t f more e = refl

-- where clocks are compared no more, no fault is told for them
module _ (s t : Bool) (clocks : t ≡ true → s ≡ true) where
  told_no_more : (clash : Bool) → (s && clash) ≡ false → (t && clash) ≡ false
  told_no_more clash e = by t clocks
    where
      by : (u : Bool) → (u ≡ true → s ≡ true) → (u && clash) ≡ false
      by true f = ap (λ z. z && clash) (sym (f refl)) ∙ e
      by false f = refl

  write_good : (links : List Link) (earlier : List WritePort) (c : Cell) → is_bad_write s links earlier c ≡ false → is_bad_write t links earlier c ≡ false
  write_good links earlier c e =
      let clash : Bool = clashes (cell_clocking links c) (map (λ (p : WritePort). p.clocking) earlier) in
      let taken : Bool = list_any (λ (p : WritePort). p.number == number_at c Portid) earlier in
      let k = or_parts ((not (is_clocked c) || nat_lt 65535 (number_at c Portid)) || taken) (s && clash) e in
      λ i. k.0 i || told_no_more clash k.1 i

  access_good : (links : List Link) (earlier : List WritePort) (x : Store) (c : Cell) (kind : MemoryKind) → is_bad_access s links earlier x c kind ≡ false → is_bad_access t links earlier x c kind ≡ false
  access_good links earlier x c Memrd e = e
  access_good links earlier x c MemrdV2 e = e
  access_good links earlier x c MemwrV2 e = write_good links earlier c e
  access_good links earlier x c Meminit e = e
  access_good links earlier x c MeminitV2 e = e

  memory_good : (m : Module) (earlier : List Cell) (c : Cell) (kind : CellKind) → memory_faults s m earlier c kind ≡ [] → memory_faults t m earlier c kind ≡ []
  memory_good m earlier c (Cells.Memory kind) e =
      ap (λ z. fault_if z (BadMemory (spot m.id c.name)))
      (by (option_and_then (store_named m.memories) (memory_name c.params)) (is_false (is_bad_memory_cell s m earlier c kind) (BadMemory (spot m.id c.name)) e))
    where
      by : (o : Option Store) → option_map_or (is_bad_in s m earlier c kind) o true ≡ false → option_map_or (is_bad_in t m earlier c kind) o true ≡ false
      by None f = f
      by (Some x) f =
          let k = or_parts (is_unlike x c) (is_bad_access s m.links (cell_ports m.links x.name earlier) x c kind) f in
          λ i. k.0 i || access_good m.links (cell_ports m.links x.name earlier) x c kind k.1 i
  memory_good m earlier c (Cells.Word kind) e = refl
  memory_good m earlier c (Cells.Gate kind) e = refl
  memory_good m earlier c (Cells.Storage kind) e = refl
  memory_good m earlier c (Cells.StorageGate kind) e = refl

  line_good : (m : Module) (before : List EventLine) (l : EventLine) → is_bad_line s m before l ≡ false → is_bad_line t m before l ≡ false
  line_good m before l e = by (store_named m.memories l.line.memory) e
    where
      by : (o : Option Store) → option_map_or (is_bad_write_in s m before l) o true ≡ false → option_map_or (is_bad_write_in t m before l) o true ≡ false
      by None f = f
      by (Some x) f =
          let ports : List WritePort = cell_ports m.links x.name m.cells in
          let lines : List EventLine = lines_of x.name before in
          let clash : Bool = clashes (event_clocking m.links l.event) (clockings_of m.links ports lines) in
          let k = or_parts ((not (length l.line.value == x.width) || nat_lt 32 (length l.line.address)) || nat_lt 65535 (next_port ports + length lines)) (s && clash) f in
          λ i. k.0 i || told_no_more clash k.1 i

  lines_good : (m : Module) (before ls : List EventLine) → has_bad_line s m before ls ≡ false → has_bad_line t m before ls ≡ false
  lines_good m before [] e = e
  lines_good m before (l ∷ ls) e =
      let k = or_parts (is_bad_line s m before l) (has_bad_line s m (before ++ l ∷ []) ls) e in
      λ i. line_good m before l k.0 i || lines_good m (before ++ l ∷ []) ls k.1 i

-- what is taken in one scope is taken in the other, where clocks are compared no more
module _ (less more : Scope) (memories : less.memories ≡ true → more.memories ≡ true) (clocks : more.clocks ≡ true → less.clocks ≡ true) where
  stores_taken : (id : List _) (stores : List Store) → flat_map (store_faults less id) stores ≡ [] → flat_map (store_faults more id) stores ≡ []
  stores_taken id [] e = refl
  stores_taken id (s ∷ stores) e =
      let here : List Fault = fault_if (is_bad_store s) (BadMemory (spot id s.name)) in
      let one : fault_if (not less.memories) (UnsupportedCell (spot id s.name)) ++ here ≡ [] = none_left (store_faults less id s) (flat_map (store_faults less id) stores) e in
      let rest : flat_map (store_faults more id) stores ≡ [] = stores_taken id stores (none_right (store_faults less id s) (flat_map (store_faults less id) stores) e) in
      let told : fault_if (not more.memories) (UnsupportedCell (spot id s.name)) ≡ [] =
      taken_too less.memories more.memories (UnsupportedCell (spot id s.name)) memories (none_left (fault_if (not less.memories) (UnsupportedCell (spot id s.name))) here one) in
      λ i. (told i ++ none_right (fault_if (not less.memories) (UnsupportedCell (spot id s.name))) here one i) ++ rest i

  type_taken : (m : Module) (earlier : List Cell) (c : Cell) (type : CellType) → faults_by_type less m earlier c type ≡ [] → faults_by_type more m earlier c type ≡ []
  type_taken m earlier c (Library kind) e =
      let here = spot m.id c.name in
      let k : List Fault = fault_if (is_memory_kind kind && not less.memories) (UnsupportedCell here) in
      let s : List Fault = shape_fault here (misfit kind c) in
      let o : List Fault = output_faults here (Library kind) c.pins in
      let f : List Fault = memory_faults less.clocks m earlier c kind in
      let three : (k ++ s) ++ o ≡ [] = none_left ((k ++ s) ++ o) f e in
      let known : k ≡ [] = none_left k s (none_left (k ++ s) o three) in
      let good : memory_faults more.clocks m earlier c kind ≡ [] = memory_good less.clocks more.clocks clocks m earlier c kind (none_right ((k ++ s) ++ o) f e) in
      λ i.
      ((ap (λ z. (z ++ s) ++ o) (taken_too_of (is_memory_kind kind) less.memories more.memories (UnsupportedCell here) memories known ∙ sym known) ∙ three) i)
      ++ good i
  type_taken m earlier c (Instance ports) e = e
  type_taken m earlier c Unsupported e = e
  type_taken m earlier c Unknown e = e

  cells_taken : (ports : Ports) (m : Module) (earlier cs : List Cell) → cell_faults less ports m earlier cs ≡ [] → cell_faults more ports m earlier cs ≡ []
  cells_taken ports m earlier [] e = refl
  cells_taken ports m earlier (c ∷ cs) e =
      let own : List Fault = faults_by_type less m earlier c (cell_type ports c.kind_name) in
      let rest : List Fault = cell_faults less ports m (earlier ++ c ∷ []) cs in
      let here : faults_by_type more m earlier c (cell_type ports c.kind_name) ≡ [] = type_taken m earlier c (cell_type ports c.kind_name) (none_left own rest e) in
      let later : cell_faults more ports m (earlier ++ c ∷ []) cs ≡ [] = cells_taken ports m (earlier ++ c ∷ []) cs (none_right own rest e) in
      λ i. here i ++ later i

  process_taken : (ports : Ports) (m : Module) (earlier : List Process) (p : Process) → (less.processes p ≡ true → more.processes p ≡ true) → faults_of_process less ports m earlier p ≡ [] → faults_of_process more ports m earlier p ≡ []
  process_taken ports m earlier p taken e =
      let here = spot m.id p.name in
      let u : List Fault = fault_if (not (less.processes p)) (UnsupportedCell here) in
      let w : List Fault = fault_if (is_too_wide p) (TooWide here) in
      let v : List Fault = fault_if (has_uneven p) (Width here) in
      let g : List Fault = fault_if (gives_to_constant p) (BadPort here) in
      let b : List Fault = fault_if (is_bad_process ports m p) (BadProcess here) in
      let l : List Fault = fault_if (has_bad_line less.clocks m (flat_map write_lines earlier) (write_lines p)) (BadMemory here) in
      let five : (((u ++ w) ++ v) ++ g) ++ b ≡ [] = none_left ((((u ++ w) ++ v) ++ g) ++ b) l e in
      let known : u ≡ [] = none_left u w (none_left (u ++ w) v (none_left ((u ++ w) ++ v) g (none_left (((u ++ w) ++ v) ++ g) b five))) in
      let lines = lines_good less.clocks more.clocks clocks m (flat_map write_lines earlier) (write_lines p) (is_false _ (BadMemory here) (none_right ((((u ++ w) ++ v) ++ g) ++ b) l e)) in
      λ i.
      ((ap (λ z. (((z ++ w) ++ v) ++ g) ++ b) (taken_too (less.processes p) (more.processes p) (UnsupportedCell here) taken known ∙ sym known) ∙ five) i)
      ++ fault_if (lines i) (BadMemory here)

  processes_taken : (ports : Ports) (m : Module) (earlier ps : List Process) → Each (λ (p : Process). less.processes p ≡ true → more.processes p ≡ true) ps → process_faults less ports m earlier ps ≡ [] → process_faults more ports m earlier ps ≡ []
  processes_taken ports m earlier [] taken e = refl
  processes_taken ports m earlier (p ∷ ps) taken e =
      let own : List Fault = faults_of_process less ports m earlier p in
      let rest : List Fault = process_faults less ports m (earlier ++ p ∷ []) ps in
      let here : faults_of_process more ports m earlier p ≡ [] = process_taken ports m earlier p (taken p (inl refl)) (none_left own rest e) in
      let later : process_faults more ports m (earlier ++ p ∷ []) ps ≡ [] = processes_taken ports m (earlier ++ p ∷ []) ps (λ q j. taken q (inr j)) (none_right own rest e) in
      λ i. here i ++ later i

  faultless_taken : (ports : Ports) (m : Module) → Each (λ (p : Process). less.processes p ≡ true → more.processes p ≡ true) m.processes → module_faults less ports m ≡ [] → module_faults more ports m ≡ []
  faultless_taken ports m taken e =
      let none : HasNoFaults less ports m = no_faults less ports m e in
      λ i.
      ((((none.wires i ++ stores_taken m.id m.memories none.stores i) ++ cells_taken ports m [] m.cells none.cells i) ++ processes_taken ports m [] m.processes taken none.processes i) ++ none.links i)
      ++ none.bits i

-- what the check accepts
pub accepted_faultless : (ports : Ports) (m : Module) → module_faults everything ports m ≡ [] → module_faults with_processes ports m ≡ []
accepted_faultless ports m e = faultless_taken everything with_processes (λ f. refl) (λ f. refl) ports m (λ p i f. refl) e

-- what has no process
pub ready_without : (ports : Ports) (m : Module) → m.processes ≡ [] → IsReady with_processes ports m → IsReady without_processes ports m
ready_without ports m none ready = record {
  faultless = faultless_taken with_processes without_processes (λ f. refl) (λ f. f) ports m (λ p i. absurd (subst (In p) none i)) ready.faultless;
  named = ready.named;
  within = ready.within;
  once = ready.once;
}
