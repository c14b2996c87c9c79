-- A module without faults where processes are not taken: it has none, and each cell of the library has its shape.
use Rattle.std.proofs.Common.{◌≡◌, Bool, true, false, if◌then◌else◌, List, [], ◌∷◌, ◌++◌, Some, None, inl, inr, refl, sym, ◌∙◌, ap, subst}
use Rattle.std.specs.Prelude.{flat_map, not, ◌&&◌}
use Rattle.cell_types.specs.Fault.{has_other_width, is_bad, is_wide}
use Rattle.cell_types.specs.Unsupported.{is_unsupported}
use Rattle.cell_types.specs.declared.fault.CellFault.TheVariants.{Bad, Wide, Width}
use Rattle.cell_types.specs.declared.kind.CellKind.{CellKind}
use Rattle.rtl_ir.specs.Drivers.{drives_of}
use Rattle.rtl_ir.specs.Fault.{Fault, Spot, UnsupportedCell, fault_if, spot}
use Rattle.rtl_ir.specs.Faults.{module_faults}
use Rattle.rtl_ir.specs.Faults.Bits.{bits_faults}
use Rattle.rtl_ir.specs.Faults.Cells.{cell_faults, faults_by_type, is_memory_kind, memory_faults, misfit, output_faults, pin_widths, shape_fault}
use Rattle.rtl_ir.specs.Faults.Links.{link_faults}
use Rattle.rtl_ir.specs.Faults.Processes.{process_faults}
use Rattle.rtl_ir.specs.Faults.Stores.{store_faults}
use Rattle.rtl_ir.specs.Faults.Wires.{wire_faults}
use Rattle.rtl_ir.specs.Flat.Cell.{cell_kind}
use Rattle.rtl_ir.specs.Parameters.{given_params}
use Rattle.rtl_ir.specs.Scope.{Scope, without_processes}
use Rattle.rtl_ir.specs.Types.{Library, Ports, cell_type, type_by}
use Rattle.rtl_ir.specs.declared.cell.Cell.{Cell}
use Rattle.rtl_ir.specs.declared.module.Module.{Module}
use Rattle.rtl_ir.specs.declared.process.Process.{Process}
use Rattle.net_model.specs.Lists.{In}

pub none_left : {A : Type 0} (xs ys : List A) → xs ++ ys ≡ [] → xs ≡ []
none_left [] ys e = refl
none_left (x ∷ xs) ys e = absurd (cc)

pub none_right : {A : Type 0} (xs ys : List A) → xs ++ ys ≡ [] → ys ≡ []
none_right [] ys e = e
none_right (x ∷ xs) ys e = absurd (cc)

-- the type of a cell of the library
pub type_is : (ports : Ports) (c : Cell) (kind : CellKind) → cell_kind c ≡ Some kind → cell_type ports c.kind_name ≡ Library kind
unfolding cell_type cell_kind
type_is ports c kind e = ap (λ k. type_by k (ports c.kind_name) (is_unsupported c.kind_name)) e

-- each cell of the library among these has the parameters and pins of its kind
abbrev pub AreFit : List Cell → Type 0
AreFit cs = (c : Cell) → In c cs → (kind : CellKind) → cell_kind c ≡ Some kind → misfit kind c ≡ None

-- no fault of the shape is told, so there is none
pub fits : (here : Spot) (c : Cell) (kind : CellKind) → shape_fault here (misfit kind c) ≡ [] → misfit kind c ≡ None
unfolding misfit
fits here c kind e =
    by (is_bad kind (given_params c.params) (pin_widths c.pins)) (is_wide kind (given_params c.params)) (has_other_width kind (given_params c.params) (pin_widths c.pins)) e
  where
    by : (a b d : Bool) → shape_fault here (if a then Some Bad else if b then Some Wide else if d then Some Width else None) ≡ [] → (if a then Some Bad else if b then Some Wide else if d then Some Width else None) ≡ None
    by true b d f = absurd (cc)
    by false true d f = absurd (cc)
    by false false true f = absurd (cc)
    by false false false f = refl

-- the faults of a cell of the library
pub library_faults : (scope : Scope) (ports : Ports) (m : Module) (earlier : List Cell) (c : Cell) (kind : CellKind) → cell_kind c ≡ Some kind → faults_by_type scope m earlier c (cell_type ports c.kind_name) ≡ faults_by_type scope m earlier c (Library kind)
library_faults scope ports m earlier c kind own = ap (faults_by_type scope m earlier c) (type_is ports c kind own)

-- a cell without faults, behind some cells of its module
abbrev pub IsFine : Scope → Ports → Module → Cell → Type 0
IsFine scope ports m c = (earlier : List Cell) × (faults_by_type scope m earlier c (cell_type ports c.kind_name) ≡ [])

pub all_fine : (scope : Scope) (ports : Ports) (m : Module) (earlier cs : List Cell) → cell_faults scope ports m earlier cs ≡ [] → (c : Cell) → In c cs → IsFine scope ports m c
all_fine scope ports m earlier [] e c i = absurd i
all_fine scope ports m earlier (d ∷ ds) e c (inl here) =
    subst (IsFine scope ports m) (sym here) (earlier, none_left (faults_by_type scope m earlier d (cell_type ports d.kind_name)) (cell_faults scope ports m (earlier ++ d ∷ []) ds) e)
all_fine scope ports m earlier (d ∷ ds) e c (inr later) =
    all_fine scope ports m (earlier ++ d ∷ []) ds (none_right (faults_by_type scope m earlier d (cell_type ports d.kind_name)) (cell_faults scope ports m (earlier ++ d ∷ []) ds) e) c later

-- the parts of the faults of a cell of the library
pub record HasNoCellFaults (scope : Scope) (m : Module) (earlier : List Cell) (c : Cell) (kind : CellKind) : Type 0 where
  pub known : fault_if (is_memory_kind kind && not scope.memories) (UnsupportedCell (spot m.id c.name)) ≡ []
  pub shape : shape_fault (spot m.id c.name) (misfit kind c) ≡ []
  pub output : output_faults (spot m.id c.name) (Library kind) c.pins ≡ []

pub no_cell_faults : (scope : Scope) (ports : Ports) (m : Module) (earlier : List Cell) (c : Cell) (kind : CellKind) → cell_kind c ≡ Some kind → faults_by_type scope m earlier c (cell_type ports c.kind_name) ≡ [] → HasNoCellFaults scope m earlier c kind
no_cell_faults scope ports m earlier c kind own e =
    let here : Spot = spot m.id c.name in
    let k : List Fault = fault_if (is_memory_kind kind && not scope.memories) (UnsupportedCell here) in
    let s : List Fault = shape_fault here (misfit kind c) in
    let o : List Fault = output_faults here (Library kind) c.pins in
    let all : ((k ++ s) ++ o) ++ memory_faults scope.clocks m earlier c kind ≡ [] = sym (library_faults scope ports m earlier c kind own) ∙ e in
    let three : (k ++ s) ++ o ≡ [] = none_left ((k ++ s) ++ o) (memory_faults scope.clocks m earlier c kind) all in
    let two : k ++ s ≡ [] = none_left (k ++ s) o three in
    record { known = none_left k s two; shape = none_right k s two; output = none_right (k ++ s) o three }

-- the parts of the faults of a module
pub record HasNoFaults (scope : Scope) (ports : Ports) (m : Module) : Type 0 where
  pub wires : wire_faults m.id [] m.wires ≡ []
  pub stores : flat_map (store_faults scope m.id) m.memories ≡ []
  pub cells : cell_faults scope ports m [] m.cells ≡ []
  pub processes : process_faults scope ports m [] m.processes ≡ []
  pub links : link_faults m.id 1 m.links ≡ []
  pub bits : bits_faults m.id (drives_of ports m) 0 m.wires ≡ []

pub no_faults : (scope : Scope) (ports : Ports) (m : Module) → module_faults scope ports m ≡ [] → HasNoFaults scope ports m
no_faults scope ports m e =
    let w : List Fault = wire_faults m.id [] m.wires in
    let s : List Fault = flat_map (store_faults scope m.id) m.memories in
    let c : List Fault = cell_faults scope ports m [] m.cells in
    let p : List Fault = process_faults scope ports m [] m.processes in
    let l : List Fault = link_faults m.id 1 m.links in
    let b : List Fault = bits_faults m.id (drives_of ports m) 0 m.wires in
    let el : (((w ++ s) ++ c) ++ p) ++ l ≡ [] = none_left ((((w ++ s) ++ c) ++ p) ++ l) b e in
    let ep : ((w ++ s) ++ c) ++ p ≡ [] = none_left (((w ++ s) ++ c) ++ p) l el in
    let ec : (w ++ s) ++ c ≡ [] = none_left ((w ++ s) ++ c) p ep in
    let es : w ++ s ≡ [] = none_left (w ++ s) c ec in
    record {
      wires = none_left w s es;
      stores = none_right w s es;
      cells = none_right (w ++ s) c ec;
      processes = none_right ((w ++ s) ++ c) p ep;
      links = none_right (((w ++ s) ++ c) ++ p) l el;
      bits = none_right ((((w ++ s) ++ c) ++ p) ++ l) b e;
    }

no_processes : (ports : Ports) (m : Module) (earlier processes : List Process) → process_faults without_processes ports m earlier processes ≡ [] → processes ≡ []
no_processes ports m earlier [] e = refl
no_processes ports m earlier (p ∷ processes) e = absurd (cc)

-- what a module without faults has where processes are not taken
pub record IsPlain (m : Module) : Type 0 where
  pub processes : m.processes ≡ []
  pub cells : AreFit m.cells

pub plain : (ports : Ports) (m : Module) → module_faults without_processes ports m ≡ [] → IsPlain m
plain ports m e =
    let none = no_faults without_processes ports m e in
    record {
      processes = no_processes ports m [] m.processes none.processes;
      cells = λ c i kind own. let fine = all_fine without_processes ports m [] m.cells none.cells c i in
          fits (spot m.id c.name) c kind (no_cell_faults without_processes ports m fine.0 c kind own fine.1).shape;
    }
