-- What may come in the place of a module's cells and connections, so that a text can still give the module.
use Rattle.std.specs.Prelude.{ℕ, ◌+◌, ◌≤◌, List, [], ◌∷◌, length, map, if◌then◌else◌}
use Rattle.std.specs.List.{All}
use Rattle.std.specs.Str.{bytes_eq}
use Rattle.rtl_ir.specs.declared.cell.Cell.{Cell}
use Rattle.rtl_ir.specs.declared.module.Link.{Link}
use Rattle.rtl_ir.specs.declared.module.Module.{Module}
use Rattle.rtl_readable.specs.Readable.{IsCell, IsLink}

-- how often a name is among these
abbrev pub times : List ℕ → List (List ℕ) → ℕ
times name [] = 0
times name (x ∷ names) = (if bytes_eq name x then 1 else 0) + times name names

-- no name is more often among these than among those
abbrev pub NoMore : List (List ℕ) → List (List ℕ) → Type 0
NoMore names those = (name : List ℕ) → times name names ≤ times name those

-- the names of cells
abbrev pub cell_names : List Cell → List (List ℕ)
cell_names cells = map (λ (c : Cell). c.name) cells

-- a module with other cells and connections
abbrev pub recelled : List Cell → List Link → Module → Module
recelled cells links m = record m { cells = cells; links = links }

-- cells and connections over the wires of a module, of which no cell has a further name and there are no more cells
pub record MayStand (m : Module) (new : List Cell) (more : List Link) : Type 0 where
  pub cells : All (IsCell m.wires) new
  pub names : NoMore (cell_names new) (cell_names m.cells)
  pub count : length new ≤ length m.cells
  pub links : All (IsLink m.wires) more
