-- In the cold run of an accepted design no module has a fault, where it is a netlist.
use Rattle.std.proofs.Common.{◌≡◌, ◌⊎◌, ⊎_elim, ℕ, Bool, true, false, cond, List, [], ◌∷◌, ◌++◌, Option, Some, None, inl, inr, refl, sym, ◌∙◌, ap, subst}
use Rattle.std.specs.Prelude.{flat_map, map, not, ◌&&◌, ◌||◌}
use Rattle.std.specs.List.{list_any}
use Rattle.std.specs.Option.{option_map}
use Rattle.std.specs.Str.{bytes_eq}
use Rattle.cell_types.specs.Kind.{kind_of}
use Rattle.cell_types.specs.Unsupported.{is_unsupported}
use Rattle.cell_types.specs.declared.kind.CellKind.{CellKind}
use Rattle.cell_types.specs.declared.kind.CellKind.TheVariants as kinds
use Rattle.rtl_ir.specs.Drivers.{drives_of}
use Rattle.rtl_ir.specs.Faults.{check_faults, faults_within, module_faults}
use Rattle.rtl_ir.specs.Faults.Bits.{bits_faults}
use Rattle.rtl_ir.specs.Faults.Cells.{cell_faults, faults_by_type}
use Rattle.rtl_ir.specs.Faults.Links.{link_faults}
use Rattle.rtl_ir.specs.Faults.Processes.{process_faults}
use Rattle.rtl_ir.specs.Faults.Stores.{store_faults}
use Rattle.rtl_ir.specs.Faults.Wires.{wire_faults}
use Rattle.rtl_ir.specs.Flat.Cell.{cell_kind, instance_of, instances, listed}
use Rattle.rtl_ir.specs.Flat.Place.{Frame, frame}
use Rattle.rtl_ir.specs.Flat.Tree.{named}
use Rattle.rtl_ir.specs.Ports.{instantiates, is_library_cell, ports_of}
use Rattle.rtl_ir.specs.Scope.{everything, without_processes}
use Rattle.rtl_ir.specs.Types.{Library, Ports, cell_type, design_ports, port_lines, port_named, table_ports, type_by}
use Rattle.rtl_ir.specs.declared.cell.Cell.{Cell}
use Rattle.rtl_ir.specs.declared.module.Design.{Design}
use Rattle.rtl_ir.specs.declared.module.Module.{Module}
use Rattle.rtl_ir.specs.declared.ports.PortLine.{PortLine}
use Rattle.rtl_ir.specs.declared.wire.Wire.{Wire}
use Rattle.net_model.specs.Lists.{Distinct, In}
use Rattle.pass_laws.specs.Ready.{IsReady}
use Rattle.pass_laws.proofs.Faultless.{plain}
use Rattle.tech_map.specs.Gates.{HasGatesAlone, is_gate_or_instance}
use Rattle.script_core.specs.declared.outcome.Outcome.TheVariants.{Done}
use Rattle.script_core.specs.declared.word.Word.{Word}
use Rattle.script_core.specs.Cold.{IsNetlist, cold, outcome_of}
use Rattle.script_core.specs.Fold.{StartsWithProc}
use Rattle.script_core.specs.Reached.{table_of}
use Rattle.script_core.specs.Mapping.{maps_all}
use Rattle.script_core.proofs.Faultless.{Alike, AreAlike, SamePorts, SameType, named_is, over_others, same_lines}
use Rattle.script_core.proofs.Refining.{IsMade, outcome_gates, outcome_made}
use Rattle.script_core.proofs.Tables.{instantiated, same_name, table_instance}
use Rattle.script_core.proofs.Under.{instance_there, kind_is}
use Rattle.rtl_readable.specs.Readable.{IsReadable}
use Rattle.readable_runs.proofs.Recursion.{cold_unrecursive}

-- ---- a cell that is an instance

-- a name of no kind of the library stands among the types of cells as it does among those of instances
named_among : (id : List ℕ) (cells : List Cell) → kind_of id ≡ None → list_any (λ (c : Cell). bytes_eq id c.kind_name) cells ≡ list_any (λ (f : Frame). bytes_eq id f.module_name) (instances cells)
unfolding cell_kind
named_among id [] none = refl
named_among id (c ∷ cs) none = by (kind_of c.kind_name) refl (bytes_eq id c.kind_name) refl (named_among id cs none)
  where
    by : (k : Option CellKind) → kind_of c.kind_name ≡ k → (t : Bool) → bytes_eq id c.kind_name ≡ t
        → list_any (λ (d : Cell). bytes_eq id d.kind_name) cs ≡ list_any (λ (f : Frame). bytes_eq id f.module_name) (instances cs)
        → (t || list_any (λ (d : Cell). bytes_eq id d.kind_name) cs) ≡ list_any (λ (f : Frame). bytes_eq id f.module_name) (listed (instance_of c k) ++ instances cs)
    by (Some kind) e true same later =
        let no : None ≡ Some kind = sym none ∙ ap kind_of (same_name id c.kind_name same) ∙ e in
        absurd cc
    by (Some kind) e false same later = later
    by None e t same later = λ j. sym same j || later j

-- modules with the same instances instantiate the same
instantiated_by : (cells others : List Cell) → instances cells ≡ instances others → (c : Cell) → In c others → kind_of c.kind_name ≡ None → instantiates cells c.kind_name ≡ true
instantiated_by cells others same c i none =
    ap (λ (t : Bool). not (is_library_cell c.kind_name) && t)
    (named_among c.kind_name cells none
    ∙ ap (list_any (λ (f : Frame). bytes_eq c.kind_name f.module_name)) same
    ∙ sym (named_among c.kind_name others none))
    ∙ instantiated c others i none

-- ---- gates alone

-- with no process and no memory cell it is all the same whether these are taken
gates_cell : (P : Ports) (m : Module) (earlier : List Cell) (c : Cell) → is_gate_or_instance (cell_kind c) ≡ true
    → faults_by_type everything m earlier c (cell_type P c.kind_name) ≡ faults_by_type without_processes m earlier c (cell_type P c.kind_name)
unfolding cell_kind cell_type
gates_cell P m earlier c h = by (kind_of c.kind_name) h
  where
    outside : (o : Option (List PortLine)) (u : Bool) → faults_by_type everything m earlier c (type_by None o u) ≡ faults_by_type without_processes m earlier c (type_by None o u)
    outside (Some ports) u = refl
    outside None true = refl
    outside None false = refl

    by : (k : Option CellKind) → is_gate_or_instance k ≡ true
        → faults_by_type everything m earlier c (type_by k (P c.kind_name) (is_unsupported c.kind_name)) ≡ faults_by_type without_processes m earlier c (type_by k (P c.kind_name) (is_unsupported c.kind_name))
    by None g = outside (P c.kind_name) (is_unsupported c.kind_name)
    by (Some (kinds.Gate gate)) g = refl
    by (Some (kinds.StorageGate gate)) g = refl
    by (Some (kinds.Word kind)) g = absurd cc
    by (Some (kinds.Storage kind)) g = absurd cc
    by (Some (kinds.Memory kind)) g = absurd cc

gates_cells : (P : Ports) (m : Module) (earlier cells : List Cell) → ((c : Cell) → In c cells → is_gate_or_instance (cell_kind c) ≡ true)
    → cell_faults everything P m earlier cells ≡ cell_faults without_processes P m earlier cells
gates_cells P m earlier [] h = refl
gates_cells P m earlier (c ∷ cs) h =
    λ j. gates_cell P m earlier c (h c (inl refl)) j ++ gates_cells P m (earlier ++ c ∷ []) cs (λ d i. h d (inr i)) j

gates_module : (P : Ports) (m : Module) → HasGatesAlone m → m.processes ≡ [] → module_faults everything P m ≡ module_faults without_processes P m
gates_module P m gates none =
    λ j. wire_faults m.id [] m.wires
    ++ flat_map (store_faults without_processes m.id) m.memories
    ++ gates_cells P m [] m.cells gates j
    ++ processes j
    ++ link_faults m.id 1 m.links
    ++ bits_faults m.id (drives_of P m) 0 m.wires
  where
    processes : process_faults everything P m [] m.processes ≡ process_faults without_processes P m [] m.processes
    processes = ap (process_faults everything P m []) none ∙ sym (ap (process_faults without_processes P m []) none)

gates_faultless : (P : Ports) (m : Module) → HasGatesAlone m → module_faults without_processes P m ≡ [] → module_faults everything P m ≡ []
gates_faultless P m gates e = gates_module P m gates (plain P m e).processes ∙ e

-- ---- modules that are built

-- a module that a script made of a module of a design
record IsBuilt (all : Bool) (modules : List Module) (n : Module) : Type 0 where
  before : Module
  ready : IsReady (table_ports (table_of modules before).modules) n
  instances : (instances before.cells ≡ instances n.cells) ⊎ (instances n.cells ≡ [])
  gates : all ≡ true → HasGatesAlone n

-- no module, or two with the same ports, of which the second has no two wires of one name
abbrev AreFoundAlike : Option Module → Option Module → Type 0
AreFoundAlike None None = Unit {0}
AreFoundAlike (Some b) (Some c) = (ports_of b.wires ≡ ports_of c.wires) × Distinct (map (λ (w : Wire). w.name) c.wires)
AreFoundAlike None (Some c) = ⊥
AreFoundAlike (Some b) None = ⊥

-- modules that a script made of others
record AreBuilt (all : Bool) (modules bs cs : List Module) : Type 0 where
  each : (n : Module) → In n cs → IsBuilt all modules n
  found : (name : List ℕ) → AreFoundAlike (named bs name) (named cs name)

module _ (all : Bool) (modules others : List Module) (found : (name : List ℕ) → AreFoundAlike (named modules name) (named others name)) (n : Module) (built : IsBuilt all modules n) where
  alike_ports : (o p : Option Module) (u : Bool) → AreFoundAlike o p → Alike (type_by None (option_map (λ (b : Module). ports_of b.wires) o) u) (type_by None (option_map (λ (c : Module). port_lines c.wires) p) u)
  alike_ports None None u h = SameType (type_by None None u)
  alike_ports (Some b) (Some c) u h =
      SamePorts (ports_of b.wires) (port_lines c.wires) (λ name. ap (λ (lines : List PortLine). port_named lines name) h.0 ∙ sym (same_lines c.wires h.1 name))
  alike_ports None (Some c) u h = absurd h
  alike_ports (Some b) None u h = absurd h

  alike_cells : AreAlike (table_ports (table_of modules built.before).modules) (design_ports others) n.cells
  unfolding cell_type
  alike_cells c i = by (kind_of c.kind_name) refl
    where
      P : Option (List PortLine)
      P = table_ports (table_of modules built.before).modules c.kind_name

      Q : Option (List PortLine)
      Q = design_ports others c.kind_name

      by : (k : Option CellKind) → kind_of c.kind_name ≡ k → Alike (type_by k P (is_unsupported c.kind_name)) (type_by k Q (is_unsupported c.kind_name))
      by (Some kind) e = SameType (Library kind)
      by None e =
          let same : instances built.before.cells ≡ instances n.cells = ⊎_elim (λ k. k) (λ none. absurd (subst (In (frame c.name c.kind_name)) none (instance_there n.cells c i (kind_is c ∙ e)))) built.instances in
          let here = table_instance modules built.before c.kind_name (instantiated_by built.before.cells n.cells same c i e) in
          let there : Q ≡ option_map (λ (m : Module). port_lines m.wires) (named others c.kind_name) = ap (option_map (λ (m : Module). port_lines m.wires)) (named_is others c.kind_name) in
          subst (λ (x : Option (List PortLine)). Alike (type_by None x (is_unsupported c.kind_name)) (type_by None Q (is_unsupported c.kind_name))) (sym here)
          (subst (λ (y : Option (List PortLine)). Alike (type_by None (option_map (λ (m : Module). ports_of m.wires) (named modules c.kind_name)) (is_unsupported c.kind_name)) (type_by None y (is_unsupported c.kind_name))) (sym there)
          (alike_ports (named modules c.kind_name) (named others c.kind_name) (is_unsupported c.kind_name) (found c.kind_name)))

  built_faultless : module_faults without_processes (design_ports others) n ≡ []
  built_faultless =
      over_others without_processes (table_ports (table_of modules built.before).modules) (design_ports others) n n.id alike_cells built.ready.faultless

  built_accepted : all ≡ true → module_faults everything (design_ports others) n ≡ []
  built_accepted is = gates_faultless (design_ports others) n (built.gates is) built_faultless

-- ---- cold runs

all_none : {A B : Type 0} (f : A → List B) (xs : List A) → ((x : A) → In x xs → f x ≡ []) → flat_map f xs ≡ []
all_none f [] h = refl
all_none f (x ∷ xs) h = λ j. h x (inl refl) j ++ all_none f xs (λ y i. h y (inr i)) j

module _ (d : Design) (readable : IsReadable d) (none : check_faults d.modules ≡ []) (script : List Word) (stage : StartsWithProc script) where
  module _ (m : Module) (i : In m d.modules) (n : Module) (e : outcome_of script d.modules m ≡ Done n) where
    made : IsMade d m n
    made = outcome_made d readable none script stage m i n e

    built : IsBuilt (maps_all script) d.modules n
    built = record {
      before = m;
      ready = made.next.ready;
      instances = made.instances;
      gates = λ all. outcome_gates d readable none script stage all m i n e;
    }

  each_built : (bs cs : List Module) → ((b : Module) → In b bs → In b d.modules) → map (outcome_of script d.modules) bs ≡ map Done cs → AreBuilt (maps_all script) d.modules bs cs
  each_built [] [] h e = record { each = λ n i. absurd i; found = λ name. tt }
  each_built [] (c ∷ cs) h e = absurd cc
  each_built (b ∷ bs) [] h e = absurd cc
  each_built (b ∷ bs) (c ∷ cs) h e =
      let first : outcome_of script d.modules b ≡ Done c = cc in
      let rest : map (outcome_of script d.modules) bs ≡ map Done cs = cc in
      let later = each_built bs cs (λ x i. h x (inr i)) rest in
      let here = h b (inl refl) in
      let own = built b here c first in
      let same = made b here c first in
      record {
        each = λ n i. ⊎_elim (λ same. subst (IsBuilt (maps_all script) d.modules) (sym same) own) (λ j. later.each n j) i;
        found = λ name.
            subst (λ (id : List ℕ). AreFoundAlike (cond (bytes_eq id name) (Some b) (named bs name)) (named (c ∷ cs) name)) (sym same.id)
            (elim (bytes_eq c.id name) as (λ t. AreFoundAlike (cond t (Some b) (named bs name)) (cond t (Some c) (named cs name))) [ true ↦ (same.ports, own.ready.named) | false ↦ later.found name ]);
      }

  module _ (n : Design) (e : IsNetlist (cold script d) n) where
    all : AreBuilt (maps_all script) d.modules d.modules n.modules
    all = each_built d.modules n.modules (λ b i. i) e

    pub cold_faultless : faults_within without_processes n.modules ≡ []
    cold_faultless =
        λ j. all_none (module_faults without_processes (design_ports n.modules)) n.modules
        (λ m i. built_faultless (maps_all script) d.modules n.modules all.found m (all.each m i)) j
        ++ cold_unrecursive d readable none script stage n e j

    pub cold_accepted : maps_all script ≡ true → check_faults n.modules ≡ []
    cold_accepted maps =
        λ j. all_none (module_faults everything (design_ports n.modules)) n.modules
        (λ m i. built_accepted (maps_all script) d.modules n.modules all.found m (all.each m i) maps) j
        ++ cold_unrecursive d readable none script stage n e j
