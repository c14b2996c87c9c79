-- What a module without faults has that the pass goes by: cells of its own memories, no process, and instances of known modules.
use Rattle.std.proofs.Common.{◌≡◌, ℕ, Bool, true, false, List, [], ◌++◌, Option, Some, None, refl, sym, ◌∙◌, ap}
use Rattle.std.specs.Prelude.{option_map}
use Rattle.std.specs.Option.{option_and_then, option_map_or}
use Rattle.std.specs.Str.{bytes_eq}
use Rattle.std.proofs.lemmas.Slice.Eq.{bytes_eq-Decides}
use Rattle.cell_types.specs.Kind.{kind_of}
use Rattle.cell_types.specs.Unsupported.{is_unsupported}
use Rattle.cell_types.specs.declared.kind.CellKind.{CellKind}
use Rattle.cell_types.specs.declared.kind.CellKind.TheVariants.{Memory}
use Rattle.cell_types.specs.declared.memory.MemoryKind.{MemoryKind}
use Rattle.rtl_ir.specs.declared.cell.Cell.{Cell}
use Rattle.rtl_ir.specs.declared.module.Module.{Module}
use Rattle.rtl_ir.specs.declared.ports.PortLine.{PortLine}
use Rattle.rtl_ir.specs.declared.store.Store.{Store}
use Rattle.rtl_ir.specs.Build.{building_of}
use Rattle.rtl_ir.specs.Fault.{BadMemory, Fault, Spot, fault_if, spot}
use Rattle.rtl_ir.specs.Faults.Cells.{faults_by_type, misfit, output_faults, shape_fault}
use Rattle.rtl_ir.specs.Faults.MemoryCells.{is_bad_in, is_bad_memory_cell, store_named}
use Rattle.rtl_ir.specs.Flat.Cell.{cell_kind, instances}
use Rattle.rtl_ir.specs.Flat.Place.{Frame}
use Rattle.rtl_ir.specs.Flat.Tree.{named}
use Rattle.rtl_ir.specs.Parameters.{memory_name}
use Rattle.rtl_ir.specs.Scope.{without_processes}
use Rattle.rtl_ir.specs.Types.{Library, Ports, cell_type, design_ports, module_named, port_lines, type_by}
use Rattle.net_model.specs.Lists.{In}
use Rattle.pass_laws.specs.Ready.{IsReady}
use Rattle.pass_laws.proofs.Alone.{is_false}
use Rattle.pass_laws.proofs.Faultless as faultless
use Rattle.pass_laws.proofs.Finding.{found_there}
use Rattle.flat_pass.specs.Flattened.{IsUnfolded, StandsOn}
use Rattle.flat_pass.proofs.Partners.{AreOf, instance_cell}
use Rattle.flat_pass.proofs.Fresh.{fresh_at_first}
use Rattle.flat_pass.proofs.Melted.{HasNames, IsPlain}
use Rattle.flat_pass.proofs.AllGoes.{AreFit, IsStep, named_find}

-- a cell of a memory names one that the module has
memory_found : (m : Module) (earlier : List Cell) (c : Cell) (kind : MemoryKind) → is_bad_memory_cell false m earlier c kind ≡ false → (s : Store) × In s m.memories × (memory_name c.params ≡ Some s.name)
memory_found m earlier c kind e = by (memory_name c.params) refl e
  where
    at : (name : List ℕ) → memory_name c.params ≡ Some name → (o : Option Store) → store_named m.memories name ≡ o → option_map_or (is_bad_in false m earlier c kind) o true ≡ false → (s : Store) × In s m.memories × (memory_name c.params ≡ Some s.name)
    at name q None f g = absurd (cc)
    at name q (Some s) f g =
        let k = found_there (λ (z : Store). bytes_eq z.name name) m.memories s f in
        (s, k.0, q ∙ ap Some (sym ((bytes_eq-Decides s.name name).0 k.1)))

    by : (o : Option (List ℕ)) → memory_name c.params ≡ o → option_map_or (is_bad_in false m earlier c kind) (option_and_then (store_named m.memories) o) true ≡ false → (s : Store) × In s m.memories × (memory_name c.params ≡ Some s.name)
    by None q g = absurd (cc)
    by (Some name) q g = at name q (store_named m.memories name) refl g

memory_fine : (m : Module) (earlier : List Cell) (c : Cell) (kind : MemoryKind) → faults_by_type without_processes m earlier c (Library (Memory kind)) ≡ [] → is_bad_memory_cell false m earlier c kind ≡ false
memory_fine m earlier c kind e =
    let here : Spot = spot m.id c.name in
    let shape : List Fault = shape_fault here (misfit (Memory kind) c) in
    let output : List Fault = output_faults here (Library (Memory kind)) c.pins in
    is_false (is_bad_memory_cell false m earlier c kind) (BadMemory here) (faultless.none_right (shape ++ output) (fault_if (is_bad_memory_cell false m earlier c kind) (BadMemory here)) e)

own_memories : (ports : Ports) (m : Module) → IsReady ports m → AreOf m.memories m.cells
own_memories ports m h c i kind e =
    let none = faultless.no_faults without_processes ports m h.faultless in
    let fine = faultless.all_fine without_processes ports m [] m.cells none.cells c i in
    memory_found m fine.0 c kind (memory_fine m fine.0 c kind (sym (faultless.library_faults without_processes ports m fine.0 c (Memory kind) e) ∙ fine.1))

pub plain_of : (ports : Ports) (m : Module) → IsReady ports m → IsPlain m
plain_of ports m h = record {
  within = h.within;
  processes = (faultless.plain ports m h.faultless).processes;
  cells = own_memories ports m h;
}

-- an instance is of a module that is known
type_known : (m : Module) (earlier : List Cell) (c : Cell) (ports : Ports) → cell_kind c ≡ None → faults_by_type without_processes m earlier c (cell_type ports c.kind_name) ≡ [] → (lines : List PortLine) × (ports c.kind_name ≡ Some lines)
unfolding cell_type cell_kind
type_known m earlier c ports none e =
    by (kind_of c.kind_name) (ports c.kind_name) (is_unsupported c.kind_name) none refl e
  where
    by : (k : Option CellKind) (o : Option (List PortLine)) (u : Bool) → k ≡ None → ports c.kind_name ≡ o → faults_by_type without_processes m earlier c (type_by k o u) ≡ [] → (lines : List PortLine) × (ports c.kind_name ≡ Some lines)
    by (Some kind) o u p q f = absurd (cc)
    by None (Some lines) u p q f = (lines, q)
    by None None true p q f = absurd (cc)
    by None None false p q f = absurd (cc)

pub instance_known : (below : List Module) (m : Module) → IsReady (design_ports below) m → (g : Frame) → In g (instances m.cells) → (k : Module) × (named below g.module_name ≡ Some k)
instance_known below m h g i =
    let c = instance_cell m.cells g i in
    let none = faultless.no_faults without_processes (design_ports below) m h.faultless in
    let fine = faultless.all_fine without_processes (design_ports below) m [] m.cells none.cells c.0 c.1 in
    let known = type_known m fine.0 c.0 (design_ports below) c.2 fine.1 in
    found c.0.kind_name (ap (λ (z : Frame). z.module_name) c.3) known.0 known.1
  where
    found : (id : List ℕ) → g.module_name ≡ id → (lines : List PortLine) → design_ports below id ≡ Some lines → (k : Module) × (named below g.module_name ≡ Some k)
    found id same lines e = by (module_named below id) refl e
      where
        by : (o : Option Module) → module_named below id ≡ o → option_map (λ (z : Module). port_lines z.wires) o ≡ Some lines → (k : Module) × (named below g.module_name ≡ Some k)
        by None q f = absurd (cc)
        by (Some k) q f = (k, ap (named below) same ∙ sym (named_find below id) ∙ q)

names_of : (below : List Module) (m : Module) → IsUnfolded below m → HasNames m
names_of below m h = record { wires = h.ready.named; memories = h.memories; instances = h.instances }

pub fit_of : (m : Module) (below : List Module) → StandsOn m below → AreFit below
fit_of m below h = record {
  plain = λ n i. plain_of (design_ports below) n (h.inner n i).ready;
  names = λ n i. names_of below n (h.inner n i);
  ready = λ n i. (h.inner n i).ready;
  covered = λ n i. instance_known below n (h.inner n i).ready;
}

pub step_of : (m : Module) (below : List Module) → StandsOn m below → IsStep below (building_of m)
step_of m below h = record {
  plain = plain_of (design_ports below) m h.own.ready;
  names = names_of below m h.own;
  ready = h.own.ready;
  fresh = fresh_at_first m;
  apart = h.apart;
  covered = instance_known below m h.own.ready;
}
