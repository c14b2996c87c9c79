-- The first fault of a cell of the library.
use Rattle.std.proofs.Common.{◌≡◌, ℕ, true, false, ◌&&◌, List, [], ◌++◌, Result, Ok, Err, refl, sym, ◌∙◌, ap, subst}
use Rattle.std.specs.Prelude.{Some}
use Rattle.cell_types.specs.declared.kind.CellKind.{CellKind}
use Rattle.cell_types.specs.declared.kind.CellKind.TheVariants as Cells
use Rattle.cell_types.specs.declared.memory.MemoryKind.{MemoryKind}
use Rattle.rtl_ir.specs.declared.cell.Cell.{Cell}
use Rattle.rtl_ir.specs.declared.module.Module.{Module}
use Rattle.rtl_ir.specs.Fault as rtl
use Rattle.rtl_ir.specs.Fault.{fault_if, spot}
use Rattle.rtl_ir.specs.Faults.Cells.{faults_by_type, is_memory_kind, memory_faults, misfit, output_faults, shape_fault}
use Rattle.rtl_ir.specs.Faults.MemoryCells.{is_bad_memory_cell}
use Rattle.rtl_ir.specs.Scope.{everything}
use Rattle.rtl_ir.specs.Types.{Library}
use Rattle.rtl_ir.specs.WritePorts.{is_write_kind}
use Rattle.rtl_check.specs.declared.fault.CheckFault.{CheckFault}
use Rattle.rtl_check.specs.declared.fault.CheckFault.TheVariants as check
use Rattle.rtl_check.specs.declared.fault.Spot.{Spot}
use Rattle.rtl_check.specs.Finds.{Finds, IsFirst}
use Rattle.rtl_check.specs.Words.{spot_of}
use Rattle.rtl_check.proofs.Firsts.{first_before, first_behind, none_in}

supported : (kind : CellKind) (f : rtl.Fault) → fault_if (is_memory_kind kind && false) f ≡ []
supported (Cells.Word kind) f = refl
supported (Cells.Gate kind) f = refl
supported (Cells.Storage kind) f = refl
supported (Cells.StorageGate gate) f = refl
supported (Cells.Memory kind) f = refl

module _ (m : Module) (id : List ℕ) (is : m.id ≡ id) (earlier : List Cell) (c : Cell) (kind : CellKind) where
  shaped : List rtl.Fault
  shaped = shape_fault (spot id c.name) (misfit kind c)

  outputs : List rtl.Fault
  outputs = output_faults (spot id c.name) (Library kind) c.pins

  stored : List rtl.Fault
  stored = memory_faults true m earlier c kind

  all_is : faults_by_type everything m earlier c (Library kind) ≡ shaped ++ outputs ++ stored
  unfolding shaped outputs stored
  all_is = λ i.
      supported kind (rtl.UnsupportedCell (spot m.id c.name)) i
      ++ shape_fault (spot (is i) c.name) (misfit kind c)
      ++ output_faults (spot (is i) c.name) (Library kind) c.pins
      ++ memory_faults true m earlier c kind

  -- a fault of its shape
  pub library_shape : (f : CheckFault) → IsFirst f (shape_fault (spot id c.name) (misfit kind c)) → IsFirst f (faults_by_type everything m earlier c (Library kind))
  unfolding shaped
  library_shape f h = subst (IsFirst f) (sym all_is) (first_before f (shaped ++ outputs) stored (first_before f shaped outputs h))

  -- a constant at an output
  pub library_output : (f : CheckFault) → shape_fault (spot id c.name) (misfit kind c) ≡ [] → IsFirst f (output_faults (spot id c.name) (Library kind) c.pins) → IsFirst f (faults_by_type everything m earlier c (Library kind))
  unfolding shaped outputs
  library_output f none h = subst (IsFirst f) (sym all_is) (first_before f (shaped ++ outputs) stored (first_behind f shaped outputs none h))

  -- no fault
  pub library_none : shape_fault (spot id c.name) (misfit kind c) ≡ [] → output_faults (spot id c.name) (Library kind) c.pins ≡ [] → memory_faults true m earlier c kind ≡ [] → faults_by_type everything m earlier c (Library kind) ≡ []
  unfolding shaped outputs stored
  library_none fits free h = all_is ∙ none_in (shaped ++ outputs) stored (none_in shaped outputs fits free) h

  -- what is found of it as a cell of a memory
  pub library_rest : {A : Type 0} (r : Result A CheckFault) → shape_fault (spot id c.name) (misfit kind c) ≡ [] → output_faults (spot id c.name) (Library kind) c.pins ≡ [] → Finds r (memory_faults true m earlier c kind)
      → Finds r (faults_by_type everything m earlier c (Library kind))
  unfolding shaped outputs stored
  library_rest (Ok done) fits free h = library_none fits free h
  library_rest (Err f) fits free h = subst (IsFirst f) (sym all_is) (first_behind f (shaped ++ outputs) stored (none_in shaped outputs fits free) h)

-- a cell that is none of a memory has no fault as one
pub no_memory_fault : (m : Module) (earlier : List Cell) (c : Cell) (kind : CellKind) → is_memory_kind kind ≡ false → memory_faults true m earlier c kind ≡ []
no_memory_fault m earlier c (Cells.Word kind) e = refl
no_memory_fault m earlier c (Cells.Gate kind) e = refl
no_memory_fault m earlier c (Cells.Storage kind) e = refl
no_memory_fault m earlier c (Cells.StorageGate gate) e = refl
no_memory_fault m earlier c (Cells.Memory kind) e = absurd (cc)

-- a cell of a memory that is a fault
pub memory_bad : (m : Module) (id : List ℕ) → m.id ≡ id → (earlier : List Cell) (c : Cell) (kind : MemoryKind) → is_bad_memory_cell true m earlier c kind ≡ true → (s : Spot) → s ≡ spot_of (spot id c.name)
    → IsFirst (check.BadMemory s) (memory_faults true m earlier c (Cells.Memory kind))
memory_bad m id is earlier c kind bad s e = rw (bad, is) (ap (λ x. Some (check.BadMemory x)) (sym e))

-- a cell of a memory that is none
pub memory_good : (m : Module) (earlier : List Cell) (c : Cell) (kind : MemoryKind) → is_bad_memory_cell true m earlier c kind ≡ false → memory_faults true m earlier c (Cells.Memory kind) ≡ []
memory_good m earlier c kind good = rw good refl

-- a kind that is none of a memory
pub not_memory : (kind : CellKind) → ((k : MemoryKind) → kind ≡ Cells.Memory k → ⊥) → is_memory_kind kind ≡ false
not_memory (Cells.Word kind) n = refl
not_memory (Cells.Gate kind) n = refl
not_memory (Cells.Storage kind) n = refl
not_memory (Cells.StorageGate gate) n = refl
not_memory (Cells.Memory kind) n = absurd (n kind refl)

pub not_write : (kind : CellKind) → is_memory_kind kind ≡ false → is_write_kind (Some kind) ≡ false
not_write (Cells.Word kind) n = refl
not_write (Cells.Gate kind) n = refl
not_write (Cells.Storage kind) n = refl
not_write (Cells.StorageGate gate) n = refl
not_write (Cells.Memory kind) n = absurd (cc)
