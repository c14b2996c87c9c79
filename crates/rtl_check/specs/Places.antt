-- The places of the modules that cells are instances of, and the faults of recursion from a place on.
use Rattle.std.specs.Prelude.{ℕ, List, [], ◌∷◌, ◌++◌, Option, Some, None, flat_map}
use Rattle.std.specs.List.{range_with_len}
use Rattle.rtl_ir.specs.declared.module.Module.{Module}
use Rattle.rtl_ir.specs.Fault.{Fault, Recursion, fault_if}
use Rattle.rtl_ir.specs.Faults.Recursion.{is_recursive, id_at}

-- the faults of so many modules from a place on that instantiate themselves
abbrev pub faults_from : List Module → ℕ → ℕ → List Fault
faults_from modules at count = flat_map (λ k. fault_if (is_recursive modules k) (Recursion (id_at modules k))) (range_with_len at count)

-- some places, and then one that may be there
abbrev pub with_place : List ℕ → Option ℕ → List ℕ
with_place places None = places
with_place places (Some place) = places ++ place ∷ []
