-- The modules that are still to be added, the next one last.
use Rattle.std.specs.Prelude.{◌≡◌, ◌<◌, ℕ, suc, List, [], ◌∷◌, ◌++◌, length}
use Rattle.std.specs.List.{AllByRecursion}
use Rattle.rtl_ir.specs.declared.cell.Cell.{Cell}
use Rattle.rtl_ir.specs.declared.module.Design.{Design}
use Rattle.rtl_ir.specs.Flat.Cell.{instances}
use Rattle.rtl_ir.specs.Flat.Driver.{Driven}
use Rattle.rtl_ir.specs.Flat.Place.{Path}
use Rattle.rtl_ir.specs.Flat.Tree.{design_ports, in_tree, in_instances}
use Rattle.flat_net.specs.declared.tree.Visit.{Visit}
use Rattle.flat_net.specs.Keys.{path_at}
use Rattle.rtl_ir.specs.Flat.Rows.{rows_of}

-- the rows of a module with its instances
abbrev pub visit_rows : Design → List Path → Visit → List Driven
visit_rows d paths v = in_tree d (rows_of (design_ports d)) (suc v.below) (path_at paths v.path) v.body.now

-- the rows of all that are to be added, those of the last one first
abbrev pub pending : Design → List Path → List Visit → List Driven
pending d paths [] = []
pending d paths (v ∷ visits) = pending d paths visits ++ visit_rows d paths v

-- their paths have numbers
abbrev pub ArePathed : List Path → List Visit → Type 0
ArePathed paths visits = AllByRecursion (λ (v : Visit). v.path < length paths) visits

-- behind the modules that were to be added stand the instances among the cells of a module at this path, the first one
-- last, where so many levels are left
pub record Opens (d : Design) (paths : List Path) (old new : List Visit) (below : ℕ) (p : Path) (cells : List Cell) : Type 0 where
  pub added : List Visit
  pub put : new ≡ old ++ added
  pub rows : pending d paths added ≡ in_instances d (in_tree d (rows_of (design_ports d)) below) p (instances cells)
  pub pathed : ArePathed paths added
