-- The faults of a module over ports that give the types of its cells the same meaning.
use Rattle.std.proofs.Common.{◌≡◌, ℕ, ◌+◌, List, [], ◌∷◌, ◌++◌, inl, inr, refl, ap}
use Rattle.rtl_ir.specs.declared.cell.Cell.{Cell}
use Rattle.rtl_ir.specs.declared.module.Module.{Module}
use Rattle.rtl_ir.specs.declared.process.Process.{Process}
use Rattle.rtl_ir.specs.Drivers.{cell_drives, link_drives, pin_drives, port_drives, rule_drives, tree_drives}
use Rattle.rtl_ir.specs.EventTests.{combinational_kind}
use Rattle.rtl_ir.specs.Fault.{TooWide, Width, BadPort, BadProcess, BadMemory, UnsupportedCell, fault_if, spot}
use Rattle.rtl_ir.specs.Faults.{module_faults}
use Rattle.rtl_ir.specs.Faults.Bits.{bits_faults}
use Rattle.rtl_ir.specs.Faults.Cells.{cell_faults, faults_by_type}
use Rattle.rtl_ir.specs.Faults.Links.{link_faults}
use Rattle.rtl_ir.specs.Faults.ProcessLimits.{gives_to_constant, has_uneven, is_too_wide}
use Rattle.rtl_ir.specs.Faults.Processes.{faults_of_process, has_bad_line, is_bad_process, process_faults}
use Rattle.rtl_ir.specs.Faults.Stores.{store_faults}
use Rattle.rtl_ir.specs.Faults.Wires.{wire_faults}
use Rattle.rtl_ir.specs.Scope.{Scope}
use Rattle.rtl_ir.specs.Types.{Ports, cell_type, type_by}
use Rattle.rtl_ir.specs.WritePorts.{write_lines}
use Rattle.std.specs.Prelude.{flat_map, not}
use Rattle.cell_types.specs.Kind.{kind_of}
use Rattle.cell_types.specs.Unsupported.{is_unsupported}
use Rattle.net_model.specs.Lists.{In}
use Rattle.rtl_check.proofs.Testing.{bad_same}

-- the types of these cells have the same ports over both
abbrev pub SeeAlike : Ports → Ports → List Cell → Type 0
SeeAlike P Q cells = (c : Cell) → In c cells → P c.kind_name ≡ Q c.kind_name

type_same : (P Q : Ports) (name : List ℕ) → P name ≡ Q name → cell_type P name ≡ cell_type Q name
unfolding cell_type
type_same P Q name e = ap (λ lines. type_by (kind_of name) lines (is_unsupported name)) e

module _ (P Q : Ports) where
  cells_same : (scope : Scope) (m : Module) (earlier cells : List Cell) → SeeAlike P Q cells → cell_faults scope P m earlier cells ≡ cell_faults scope Q m earlier cells
  cells_same scope m earlier [] h = refl
  cells_same scope m earlier (c ∷ cs) h =
      (λ i. faults_by_type scope m earlier c (type_same P Q c.kind_name (h c (inl refl)) i) ++ cells_same scope m (earlier ++ c ∷ []) cs (λ d j. h d (inr j)) i)

  drives_same : (cell : ℕ) (cells : List Cell) → SeeAlike P Q cells → cell_drives P cell cells ≡ cell_drives Q cell cells
  drives_same cell [] h = refl
  drives_same cell (c ∷ cs) h =
      (λ i. pin_drives (type_same P Q c.kind_name (h c (inl refl)) i) cell 0 c.pins ++ drives_same (cell + 1) cs (λ d j. h d (inr j)) i)

  process_same : (scope : Scope) (m : Module) → ((p : Process) → is_bad_process P m p ≡ is_bad_process Q m p) → (earlier ps : List Process) → process_faults scope P m earlier ps ≡ process_faults scope Q m earlier ps
  process_same scope m same earlier [] = refl
  process_same scope m same earlier (p ∷ ps) = (λ i. one i ++ process_same scope m same (earlier ++ p ∷ []) ps i)
    where
      one : faults_of_process scope P m earlier p ≡ faults_of_process scope Q m earlier p
      one = λ i.
          fault_if (not (scope.processes p)) (UnsupportedCell (spot m.id p.name))
          ++ fault_if (is_too_wide p) (TooWide (spot m.id p.name))
          ++ fault_if (has_uneven p) (Width (spot m.id p.name))
          ++ fault_if (gives_to_constant p) (BadPort (spot m.id p.name))
          ++ fault_if (same p i) (BadProcess (spot m.id p.name))
          ++ fault_if (has_bad_line scope.clocks m (flat_map write_lines earlier) (write_lines p)) (BadMemory (spot m.id p.name))

  -- the faults of a module are the same over both
  pub same_faults : (scope : Scope) (m : Module) → SeeAlike P Q m.cells → module_faults scope P m ≡ module_faults scope Q m
  same_faults scope m h =
      let drives = drives_same 0 m.cells h in
      let bad = bad_same P Q m (λ c i. ap combinational_kind (type_same P Q c.kind_name (h c i))) drives in
      (λ i. wire_faults m.id [] m.wires
      ++ flat_map (store_faults scope m.id) m.memories
      ++ cells_same scope m [] m.cells h i
      ++ process_same scope m bad [] m.processes i
      ++ link_faults m.id 1 m.links
      ++ bits_faults m.id (port_drives 0 m.wires ++ drives i ++ link_drives m.links ++ tree_drives 0 m.processes ++ rule_drives 0 m.processes) 0 m.wires)
