-- The cells of a module without faults fit.
use Rattle.std.proofs.Common.{◌≡◌, Bool, true, false, List, [], ◌∷◌, ◌++◌, Option, Some, None, refl}
use Rattle.std.specs.Prelude.{not, ◌&&◌}
use Rattle.cell_types.specs.declared.fault.CellFault.{CellFault}
use Rattle.cell_types.specs.declared.fault.CellFault.TheVariants as fault
use Rattle.cell_types.specs.declared.given.Param.{Param}
use Rattle.cell_types.specs.declared.given.PinWidth.{PinWidth}
use Rattle.cell_types.specs.declared.kind.CellKind.{CellKind}
use Rattle.cell_types.specs.Fault.{fault_of, has_other_width, is_bad, is_wide}
use Rattle.rtl_ir.specs.declared.cell.Cell.{Cell}
use Rattle.rtl_ir.specs.declared.module.Module.{Module}
use Rattle.rtl_ir.specs.Fault.{Spot, UnsupportedCell, fault_if, spot}
use Rattle.rtl_ir.specs.Faults.Cells.{cell_faults, faults_by_type, is_memory_kind, memory_faults, misfit, output_faults, pin_widths, shape_fault}
use Rattle.rtl_ir.specs.Parameters.{given_params}
use Rattle.rtl_ir.specs.Scope.{Scope}
use Rattle.rtl_ir.specs.Types.{Ports, CellType, Library, Instance, Unsupported, Unknown, cell_type}
use Rattle.std.specs.List.{AllByRecursion}
use Rattle.process_trees.specs.Fitting.{DoCellsFit, DoesFit}

nothing_before : {A : Type 0} (xs ys : List A) → xs ++ ys ≡ [] → xs ≡ []
nothing_before [] ys h = refl
nothing_before (x ∷ xs) ys h = absurd (cc)

nothing_behind : {A : Type 0} (xs ys : List A) → xs ++ ys ≡ [] → ys ≡ []
nothing_behind [] ys h = h
nothing_behind (x ∷ xs) ys h = absurd (cc)

-- a fault is no want of memory
no_memory : (kind : CellKind) (params : List Param) (pins : List PinWidth) → fault_of kind params pins ≡ Some fault.Memory → ⊥
no_memory kind params pins e = by (is_bad kind params pins) (is_wide kind params) (has_other_width kind params pins) refl refl refl
  where
    by : (bad wide other : Bool) → is_bad kind params pins ≡ bad → is_wide kind params ≡ wide → has_other_width kind params pins ≡ other → ⊥
    by true wide other b w o = absurd (let memory : fault_of kind params pins ≡ Some fault.Memory = e in cc)
    by false true other b w o = absurd (let memory : fault_of kind params pins ≡ Some fault.Memory = e in cc)
    by false false true b w o = absurd (let memory : fault_of kind params pins ≡ Some fault.Memory = e in cc)
    by false false false b w o = absurd (let memory : fault_of kind params pins ≡ Some fault.Memory = e in cc)

no_misfit : (here : Spot) (o : Option CellFault) → (o ≡ Some fault.Memory → ⊥) → shape_fault here o ≡ [] → o ≡ None
no_misfit here None m h = refl
no_misfit here (Some fault.Bad) m h = absurd (cc)
no_misfit here (Some fault.Wide) m h = absurd (cc)
no_misfit here (Some fault.Width) m h = absurd (cc)
no_misfit here (Some fault.Memory) m h = absurd (m refl)

type_fits : (scope : Scope) (m : Module) (earlier : List Cell) (c : Cell) (type : CellType) → faults_by_type scope m earlier c type ≡ [] → DoesFit c type
unfolding misfit
type_fits scope m earlier c (Library kind) h =
    let here = spot m.id c.name in
    let supported = fault_if (is_memory_kind kind && not scope.memories) (UnsupportedCell here) in
    let shaped = shape_fault here (misfit kind c) in
    let outputs = output_faults here (Library kind) c.pins in
    let three = nothing_before (supported ++ shaped ++ outputs) (memory_faults scope.clocks m earlier c kind) h in
    let two = nothing_before (supported ++ shaped) outputs three in
    no_misfit here (misfit kind c) (no_memory kind (given_params c.params) (pin_widths c.pins)) (nothing_behind supported shaped two)
type_fits scope m earlier c (Instance ports) h = tt
type_fits scope m earlier c Unsupported h = tt
type_fits scope m earlier c Unknown h = tt

-- cells without faults fit
pub cells_fit : (scope : Scope) (ports : Ports) (m : Module) (earlier cells : List Cell) → cell_faults scope ports m earlier cells ≡ [] → AllByRecursion (λ (c : Cell). DoesFit c (cell_type ports c.kind_name)) cells
cells_fit scope ports m earlier [] h = tt
cells_fit scope ports m earlier (c ∷ cells) h =
    let own = faults_by_type scope m earlier c (cell_type ports c.kind_name) in
    let rest = cell_faults scope ports m (earlier ++ c ∷ []) cells in
    (type_fits scope m earlier c (cell_type ports c.kind_name) (nothing_before own rest h), cells_fit scope ports m (earlier ++ c ∷ []) cells (nothing_behind own rest h))

-- the cells of a module without faults of cells fit
pub faultless_cells : (scope : Scope) (ports : Ports) (m : Module) → cell_faults scope ports m [] m.cells ≡ [] → DoCellsFit ports m
faultless_cells scope ports m h = cells_fit scope ports m [] m.cells h
