-- A generated design has no fault: its modules have none whatever their names and the other modules are, and none of them
-- stands in itself, since each of its cells is one of the library.
use Rattle.std.proofs.Common.{◌≡◌, ℕ, zero, suc, ◌+◌, false, List, [], ◌∷◌, ◌++◌, length, refl, ap}
use Rattle.std.specs.Prelude.{flat_map, map, slice_index_or, ◌||◌, ◌==◌, codes}
use Rattle.std.specs.Fmt.{decimal}
use Rattle.std.specs.List.{list_any, range_with_len}
use Rattle.rtl_ir.specs.Constants.{low_bits}
use Rattle.rtl_ir.specs.Fault.{Recursion, fault_if}
use Rattle.rtl_ir.specs.Faults.{check_faults, module_faults}
use Rattle.rtl_ir.specs.Faults.Cells.{misfit}
use Rattle.rtl_ir.specs.Faults.Recursion.{id_at, instance_graph, instance_places, leads_within, recursion_faults}
use Rattle.rtl_ir.specs.Ports.{is_library_cell}
use Rattle.rtl_ir.specs.Scope.{everything}
use Rattle.rtl_ir.specs.Types.{Ports, cell_type, design_ports}
use Rattle.rtl_ir.specs.declared.module.Module.{Module}
use Rattle.generated_design.specs.Generate.{generated, generated_module, registered_sum}
use Rattle.generated_design.proofs.Eight.{by_remainder}

-- a module over words of one bit more than this has no fault
abbrev IsFaultless : ℕ → Type 0
IsFaultless above = (ports : Ports) (id : List ℕ) → module_faults everything ports (registered_sum id (above + 1)) ≡ []

one : IsFaultless 0
unfolding cell_type misfit low_bits
one ports id = refl

two : IsFaultless 1
unfolding cell_type misfit low_bits
two ports id = refl

three : IsFaultless 2
unfolding cell_type misfit low_bits
three ports id = refl

four : IsFaultless 3
unfolding cell_type misfit low_bits
four ports id = refl

five : IsFaultless 4
unfolding cell_type misfit low_bits
five ports id = refl

six : IsFaultless 5
unfolding cell_type misfit low_bits
six ports id = refl

seven : IsFaultless 6
unfolding cell_type misfit low_bits
seven ports id = refl

eight : IsFaultless 7
unfolding cell_type misfit low_bits
eight ports id = refl

none_of_module : (ports : Ports) (n : ℕ) → module_faults everything ports (generated_module n) ≡ []
none_of_module ports n = by_remainder IsFaultless one two three four five six seven eight n ports (codes "\\g" ++ decimal n)

none_of_modules : (ports : Ports) (ns : List ℕ) → flat_map (module_faults everything ports) (map generated_module ns) ≡ []
none_of_modules ports [] = refl
none_of_modules ports (n ∷ ns) = λ j. none_of_module ports n j ++ none_of_modules ports ns j

-- no cell is an instance
no_place : (modules : List Module) (n : ℕ) → instance_places modules (generated_module n).cells ≡ []
unfolding is_library_cell
no_place modules n = refl

no_step : (modules : List Module) (ns : List ℕ) (i : ℕ) → slice_index_or (map (λ (m : Module). instance_places modules m.cells) (map generated_module ns)) i [] ≡ []
no_step modules [] i = refl
no_step modules (n ∷ ns) zero = no_place modules n
no_step modules (n ∷ ns) (suc i) = no_step modules ns i

no_way : (graph : List (List ℕ)) → ((i : ℕ) → slice_index_or graph i [] ≡ []) → (n i j : ℕ) → leads_within graph n i j ≡ false
no_way graph none zero i j = refl
no_way graph none (suc n) i j = ap (list_any (λ k. (k == j) || leads_within graph n k j)) (none i)

none_at : (modules : List Module) → ((i : ℕ) → slice_index_or (instance_graph modules) i [] ≡ []) → (places : List ℕ)
    → flat_map (λ at. fault_if (leads_within (instance_graph modules) (length modules) at at) (Recursion (id_at modules at))) places ≡ []
none_at modules none [] = refl
none_at modules none (at ∷ places) =
    λ j. fault_if (no_way (instance_graph modules) none (length modules) at at j) (Recursion (id_at modules at)) ++ none_at modules none places j

none_recursive : (ns : List ℕ) → recursion_faults (map generated_module ns) ≡ []
none_recursive ns =
    none_at (map generated_module ns) (no_step (map generated_module ns) ns) (range_with_len 0 (length (map generated_module ns)))

pub no_fault : (count : ℕ) → check_faults (generated count).modules ≡ []
no_fault count =
    let numbers = range_with_len 0 count in
    λ j. none_of_modules (design_ports (map generated_module numbers)) numbers j ++ none_recursive numbers j
