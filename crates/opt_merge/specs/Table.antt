-- The places of rows of numbers.
use Rattle.std.specs.Prelude.{◌≡◌, ℕ, min, List, Option, Some, None, if◌then◌else◌}
use Rattle.std.specs.HashMap.{get_by}
use Rattle.std.specs.Global.{Vec}
use Rattle.std.specs.Str.{bytes_eq}
use Rattle.opt_merge.specs.declared.table.Table.{Table}

-- the place that a row has
abbrev pub at_row : Table → List ℕ → Option ℕ
at_row table row = get_by (λ (k : Vec ℕ). bytes_eq row k.items) table.places

-- the lesser of a place and one that may be there
abbrev pub least : ℕ → Option ℕ → Option ℕ
least at None = Some at
least at (Some first) = Some (min first at)

-- a row has a place, or the place before it that it had; all other rows have what they had
pub record PutsRow (old new : Table) (row : List ℕ) (at : ℕ) : Type 0 where
  pub all : (r : List ℕ) → at_row new r ≡ (if bytes_eq row r then least at (at_row old r) else at_row old r)
