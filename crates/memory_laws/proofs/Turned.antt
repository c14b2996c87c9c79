-- What is promised of a module all of whose memories became words: nothing of memories is left.
use Rattle.std.proofs.Common.{◌≡◌, ℕ, true, false, List, [], ◌++◌, length, Option, Some, None, refl, ap, sym, ◌∙◌, arith}
use Rattle.std.specs.Option.{option_and_then, option_map_or}
use Rattle.cell_types.specs.declared.kind.CellKind.{CellKind}
use Rattle.cell_types.specs.declared.kind.CellKind.TheVariants.{Word, Gate, Storage, StorageGate, Memory}
use Rattle.cell_types.specs.declared.memory.MemoryKind.{MemoryKind}
use Rattle.rtl_ir.specs.Fault.{BadMemory, Fault, spot}
use Rattle.rtl_ir.specs.Faults.Cells.{memory_faults, misfit, output_faults, shape_fault}
use Rattle.rtl_ir.specs.Faults.MemoryCells.{is_bad_in, is_bad_memory_cell, store_named}
use Rattle.rtl_ir.specs.Flat.Cell as flat
use Rattle.rtl_ir.specs.Flat.Cell.{cell_kind}
use Rattle.rtl_ir.specs.Flat.Tree as tree
use Rattle.rtl_ir.specs.Parameters.{memory_name}
use Rattle.rtl_ir.specs.Scope.{without_processes}
use Rattle.rtl_ir.specs.Types as types
use Rattle.rtl_ir.specs.Types.{Library}
use Rattle.rtl_ir.specs.declared.cell.Cell.{Cell}
use Rattle.rtl_ir.specs.declared.module.Module.{Module}
use Rattle.rtl_ir.specs.declared.ports.PortTable.{PortTable}
use Rattle.net_model.specs.Lists.{In}
use Rattle.net_model.specs.Mem.Expand.{is_memory_kind, memory_of}
use Rattle.net_model.specs.Refine.{RefinesIn}
use Rattle.net_model.specs.Within.{Each}
use Rattle.pass_laws.specs.Ready.{IsReady}
use Rattle.pass_laws.proofs.Faultless.{all_fine, library_faults, no_faults, none_right}
use Rattle.memory_laws.specs.Named.{AreShort}
use Rattle.pass_laws.specs.OwnNames.{HaveOwnNames}
use Rattle.memory_laws.proofs.Faultless.{no_fault, none_there}
use Rattle.memory_laws.proofs.InTurn.{IsExpanded, all_expanded, all_gone}

-- in a module without faults each cell of a memory names a memory
module _ (ports : types.Ports) (m : Module) (ready : IsReady ports m) (none : m.memories ≡ []) where
  named_none : (c : Cell) (kind : MemoryKind) → In c m.cells → cell_kind c ≡ Some (Memory kind) → ⊥
  named_none c kind i own =
      let fine = all_fine without_processes ports m [] m.cells (no_faults without_processes ports m ready.faultless).cells c i in
      let shape : List Fault = shape_fault (spot m.id c.name) (misfit (Memory kind) c) in
      let output : List Fault = output_faults (spot m.id c.name) (Library (Memory kind)) c.pins in
      let all : (shape ++ output) ++ memory_faults false m fine.0 c (Memory kind) ≡ [] = sym (library_faults without_processes ports m fine.0 c (Memory kind) own) ∙ fine.1 in
      let good : is_bad_memory_cell false m fine.0 c kind ≡ false = no_fault (is_bad_memory_cell false m fine.0 c kind) (BadMemory (spot m.id c.name)) (none_right (shape ++ output) (memory_faults false m fine.0 c (Memory kind)) all) in
      let bad : is_bad_memory_cell false m fine.0 c kind ≡ true = ap (λ ss. option_map_or (is_bad_in false m fine.0 c kind) (option_and_then (store_named ss) (memory_name c.params)) true) none ∙ nothing fine.0 c kind (memory_name c.params) in
      let differ : true ≡ false = sym bad ∙ good in
      absurd (cc)
    where
      nothing : (earlier : List Cell) (c : Cell) (kind : MemoryKind) (o : Option (List ℕ)) → option_map_or (is_bad_in false m earlier c kind) (option_and_then (store_named []) o) true ≡ true
      nothing earlier c kind None = refl
      nothing earlier c kind (Some q) = refl

  pub no_memory_cell : Each (λ (c : Cell). is_memory_kind (cell_kind c) ≡ false) m.cells
  no_memory_cell c i = by (cell_kind c) refl
    where
      by : (o : Option CellKind) → cell_kind c ≡ o → is_memory_kind o ≡ false
      by (Some (Memory kind)) own = absurd (named_none c kind i own)
      by (Some (Word kind)) own = refl
      by (Some (Gate kind)) own = refl
      by (Some (Storage kind)) own = refl
      by (Some (StorageGate kind)) own = refl
      by None own = refl

module _ (ports : types.Ports) (m : Module) (ready : IsReady ports m) (named : HaveOwnNames m) (short : AreShort (length m.memories) m) where
  pub expanded : (over : flat.Ports) → IsExpanded ports over m (memory_of m)
  expanded over = all_expanded ports over (length m.memories) m ready named short

  pub no_memory : (memory_of m).memories ≡ []
  no_memory = all_gone ports (λ n. []) (length m.memories) m ready named short (omega arith)

  pub no_process : (memory_of m).processes ≡ []
  no_process =
      let is : IsExpanded ports (λ n. []) m (memory_of m) = expanded (λ n. []) in
      none_there ports (memory_of m) is.ready is.named

  pub no_cell : Each (λ (c : Cell). is_memory_kind (cell_kind c) ≡ false) (memory_of m).cells
  no_cell = no_memory_cell ports (memory_of m) (expanded (λ n. [])).ready no_memory

pub refines : (table : PortTable) (m : Module) → IsReady (types.table_ports table.modules) m → HaveOwnNames m → AreShort (length m.memories) m → RefinesIn m (memory_of m) table
refines table m ready named short = (expanded (types.table_ports table.modules) m ready named short (tree.table_ports table)).refines
