-- Which paths and bits have a number, and how they get more.
use Rattle.std.specs.Prelude.{◌≡◌, ℕ, List, [], ◌∷◌, Some, slice_get}
use Rattle.rtl_ir.specs.Flat.Place.{Path, Place}

-- the paths and the bits that have a number, each in order of the numbers
pub record Known : Type 0 where
  pub paths : List Path
  pub places : List Place

-- the empty path alone
abbrev pub nothing : Known
nothing = record { paths = [] ∷ []; places = [] }

-- what stands in a list at a number stands there in the other one too
abbrev pub Keeps : {A : Type 0} → List A → List A → Type 0
Keeps {A} old new = (number : ℕ) (x : A) → slice_get old number ≡ Some x → slice_get new number ≡ Some x

-- what has a number keeps it
pub record Extends (old new : Known) : Type 0 where
  pub paths : Keeps old.paths new.paths
  pub places : Keeps old.places new.places
