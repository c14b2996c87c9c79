-- cells of a memory
use Rattle.std.specs.Prelude.{ℕ, List, [], ◌∷◌, Option, codes}
use Rattle.cell_types.specs.declared.memory.MemoryKind.{MemoryKind}
use Rattle.cell_types.specs.declared.memory.MemoryKind.TheVariants.{Memrd, MemrdV2, MemwrV2, Meminit, MeminitV2}
use Rattle.cell_types.specs.Names.{named}

-- the memory cells with their names
abbrev pub memories : List (List ℕ × MemoryKind)
memories =
    ((codes "$memrd", Memrd)
    ∷ (codes "$memrd_v2", MemrdV2)
    ∷ (codes "$memwr_v2", MemwrV2)
    ∷ (codes "$meminit", Meminit)
    ∷ (codes "$meminit_v2", MeminitV2)
    ∷ [])

-- the memory cell of this name
abbrev pub memory_of : List ℕ → Option MemoryKind
memory_of name = named memories name
