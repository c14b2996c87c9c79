-- the cells of the library
use Rattle.std.specs.Prelude.{ℕ, List, Option, Some, None}
use Rattle.std.specs.Option.{option_map}
use Rattle.cell_types.specs.declared.kind.CellKind.{CellKind}
use Rattle.cell_types.specs.declared.kind.CellKind.TheVariants.{Word, Gate, Storage, StorageGate, Memory}
use Rattle.cell_types.specs.Word.{word_of}
use Rattle.cell_types.specs.Gate.{gate_of}
use Rattle.cell_types.specs.Storage.{storage_of}
use Rattle.cell_types.specs.Letters.{storage_gate_of}
use Rattle.cell_types.specs.Memory.{memory_of}

-- the first of two that is there
infixr 20 ◌or_else◌
abbrev pub ◌or_else◌ : {A : Type 0} → Option A → Option A → Option A
None or_else other = other
(Some x) or_else other = Some x

-- the cell of this name
abbrev pub kind_of : List ℕ → Option CellKind
kind_of name =
    option_map StorageGate (storage_gate_of name)
    or_else option_map Gate (gate_of name)
    or_else option_map Word (word_of name)
    or_else option_map Storage (storage_of name)
    or_else option_map Memory (memory_of name)
