-- The cells at some places.
use Rattle.std.specs.Prelude.{◌≡◌, ◌==◌, ℕ, suc, List, [], ◌∷◌, Some, if◌then◌else◌, map, slice_get}
use Rattle.rtl_ir.specs.declared.cell.Cell.{Cell}
use Rattle.opt_merge.specs.State.{IsRising}

-- the cells at these places, where the first of the cells is at a place and the places rise
abbrev pub picked : ℕ → List Cell → List ℕ → List Cell
picked at [] places = []
picked at (c ∷ cells) [] = []
picked at (c ∷ cells) (p ∷ places) =
    if p == at then c ∷ picked (suc at) cells places else picked (suc at) cells (p ∷ places)

-- these are the cells at these places, which rise
pub record AreThese (cells : List Cell) (places : List ℕ) (these : List Cell) : Type 0 where
  pub there : map (slice_get cells) places ≡ map Some these
  pub rising : IsRising places
