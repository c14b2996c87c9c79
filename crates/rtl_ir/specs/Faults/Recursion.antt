-- Modules that instantiate themselves.
use Rattle.std.specs.Prelude.{ℕ, zero, suc, ◌==◌, Bool, false, ◌||◌, List, length, map, slice_get, slice_index_or, [], flat_map, filter_map, position, Option, None, option_map, unwrap_or, if◌then◌else◌}
use Rattle.std.specs.List.{list_any, range_with_len}
use Rattle.std.specs.Str.{bytes_eq}
use Rattle.rtl_ir.specs.declared.cell.Cell.{Cell}
use Rattle.rtl_ir.specs.declared.module.Module.{Module}
use Rattle.rtl_ir.specs.Fault.{Fault, Recursion, fault_if}
use Rattle.rtl_ir.specs.Ports.{is_library_cell}

-- the name of the module at a place
abbrev pub id_at : List Module → ℕ → List ℕ
id_at modules at = unwrap_or (option_map (λ (m : Module). m.id) (slice_get modules at)) []

-- the place of the module of this name, the first where there are several
abbrev pub place_named : List Module → List ℕ → Option ℕ
place_named modules id = position (λ (m : Module). bytes_eq m.id id) modules

-- the place of the module that a cell of this type is an instance of; a cell of the library is none
abbrev pub instance_place : List Module → List ℕ → Option ℕ
instance_place modules type = if is_library_cell type then None else place_named modules type

-- the places of the modules that these cells are instances of
abbrev pub instance_places : List Module → List Cell → List ℕ
instance_places modules cells = filter_map (λ (c : Cell). instance_place modules c.kind_name) cells

-- for each module the places of those that it has instances of
abbrev pub instance_graph : List Module → List (List ℕ)
instance_graph modules = map (λ (m : Module). instance_places modules m.cells) modules

-- a chain of at most so many steps leads from one place of a graph to another
abbrev pub leads_within : List (List ℕ) → ℕ → ℕ → ℕ → Bool
leads_within graph zero i j = false
leads_within graph (suc n) i j = list_any (λ k. (k == j) || leads_within graph n k j) (slice_index_or graph i [])

-- the module at a place instantiates itself through some chain; the shortest is no longer than there are modules
abbrev pub is_recursive : List Module → ℕ → Bool
is_recursive modules at = leads_within (instance_graph modules) (length modules) at at

-- the faults of the modules that instantiate themselves, in order
abbrev pub recursion_faults : List Module → List Fault
recursion_faults modules =
    flat_map (λ at. fault_if (is_recursive modules at) (Recursion (id_at modules at))) (range_with_len 0 (length modules))
