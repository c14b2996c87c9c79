-- storage cells on words
use Rattle.std.specs.Prelude.{ℕ, List, [], ◌∷◌, Option, codes}
use Rattle.cell_types.specs.declared.storage.StorageKind.{StorageKind}
use Rattle.cell_types.specs.declared.storage.StorageKind.TheVariants.{Ff, Dff, Dffe, Sdff, Sdffe, Sdffce, Adff, Adffe, Aldff, Aldffe, Dffsr, Dffsre, Dlatch, Adlatch, Dlatchsr, Sr}
use Rattle.cell_types.specs.Names.{named}

-- the storage cells with their names
abbrev pub storages : List (List ℕ × StorageKind)
storages =
    ((codes "$ff", Ff)
    ∷ (codes "$dff", Dff)
    ∷ (codes "$dffe", Dffe)
    ∷ (codes "$sdff", Sdff)
    ∷ (codes "$sdffe", Sdffe)
    ∷ (codes "$sdffce", Sdffce)
    ∷ (codes "$adff", Adff)
    ∷ (codes "$adffe", Adffe)
    ∷ (codes "$aldff", Aldff)
    ∷ (codes "$aldffe", Aldffe)
    ∷ (codes "$dffsr", Dffsr)
    ∷ (codes "$dffsre", Dffsre)
    ∷ (codes "$dlatch", Dlatch)
    ∷ (codes "$adlatch", Adlatch)
    ∷ (codes "$dlatchsr", Dlatchsr)
    ∷ (codes "$sr", Sr)
    ∷ [])

-- the storage cell of this name
abbrev pub storage_of : List ℕ → Option StorageKind
storage_of name = named storages name
