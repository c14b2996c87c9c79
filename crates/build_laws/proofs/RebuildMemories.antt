-- Where clocks are not compared, the faults of cells of memories, and of lines that write them, do not depend on connections.
use Rattle.std.proofs.Common.{◌≡◌, ℕ, true, false, List, [], ◌∷◌, refl, ◌∙◌, ap}
use Rattle.std.specs.Prelude.{map, filter, not, nat_lt, Option, Some, None, ◌&&◌, ◌||◌, ◌==◌}
use Rattle.std.specs.List.{list_any}
use Rattle.std.specs.Option.{option_and_then, option_map_or}
use Rattle.cell_types.specs.declared.memory.MemoryKind.{MemoryKind}
use Rattle.cell_types.specs.declared.memory.MemoryKind.TheVariants.{Memrd, MemrdV2, MemwrV2, Meminit, MeminitV2}
use Rattle.cell_types.specs.declared.param_name.ParamName.TheVariants.{Portid}
use Rattle.rtl_ir.specs.declared.cell.Cell.{Cell}
use Rattle.rtl_ir.specs.declared.module.Link.{Link}
use Rattle.rtl_ir.specs.declared.module.Module.{Module}
use Rattle.rtl_ir.specs.declared.store.Store.{Store}
use Rattle.rtl_ir.specs.Faults.MemoryCells.{is_bad_access, is_bad_in, is_bad_memory_cell, is_clocked, is_unlike, number_at, store_named}
use Rattle.rtl_ir.specs.Parameters.{memory_name}
use Rattle.rtl_ir.specs.WritePorts.{WritePort, cell_port, cell_ports, is_of_memory, is_write_cell}

module _ (links links' : List Link) where
  numbers_same : (n : ℕ) (ds : List Cell) → list_any (λ (q : WritePort). q.number == n) (map (cell_port links) ds) ≡ list_any (λ (q : WritePort). q.number == n) (map (cell_port links') ds)
  numbers_same n [] = refl
  numbers_same n (d ∷ ds) = ap (λ z. (number_at d Portid == n) || z) (numbers_same n ds)

  access_same : (name : List ℕ) (earlier : List Cell) (s : Store) (c : Cell) (kind : MemoryKind) → is_bad_access false links (cell_ports links name earlier) s c kind ≡ is_bad_access false links' (cell_ports links' name earlier) s c kind
  access_same name earlier s c Memrd = refl
  access_same name earlier s c MemrdV2 = refl
  access_same name earlier s c MemwrV2 =
      ap (λ z. ((not (is_clocked c) || nat_lt 65535 (number_at c Portid)) || z) || false)
      (numbers_same (number_at c Portid) (filter (λ (d : Cell). is_write_cell d.kind_name && is_of_memory name d) earlier))
  access_same name earlier s c Meminit = refl
  access_same name earlier s c MeminitV2 = refl

-- so a cell of a memory has the same faults in each module with the same memories
pub memory_alike : (m n : Module) → m.memories ≡ n.memories → (earlier : List Cell) (c : Cell) (kind : MemoryKind) → is_bad_memory_cell false m earlier c kind ≡ is_bad_memory_cell false n earlier c kind
memory_alike m n same earlier c kind =
    ap (λ z. option_map_or (is_bad_in false m earlier c kind) (option_and_then (store_named z) (memory_name c.params)) true) same
    ∙ by (option_and_then (store_named n.memories) (memory_name c.params))
  where
    by : (o : Option Store) → option_map_or (is_bad_in false m earlier c kind) o true ≡ option_map_or (is_bad_in false n earlier c kind) o true
    by None = refl
    by (Some s) = ap (λ z. is_unlike s c || z) (access_same m.links n.links s.name earlier s c kind)
