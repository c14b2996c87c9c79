-- A sweep over the cells of a module, each as the module stands when its turn comes.
use Rattle.std.specs.Prelude.{List, [], ◌∷◌, ◌++◌, Option}
use Rattle.rtl_ir.specs.declared.cell.Cell.{Cell}
use Rattle.rtl_ir.specs.declared.module.Link.{Link}
use Rattle.rtl_ir.specs.declared.module.Module.{Module}
use Rattle.opt_expr.specs.Sweep.{Progress, Visit, with_swept}

-- what comes of a cell between those that are done and the rest, over the connections so far
abbrev pub Visiting : Type 0
Visiting = List (Option Cell) → List Cell → List Link → Cell → Visit

-- the cells of the rest, one after another
abbrev pub swept_by : Visiting → List (Option Cell) → List Cell → List Link → Progress
swept_by visit done [] links = record { cells = done; links = links }
swept_by visit done (c ∷ rest) links =
    swept_by visit
    (done ++ (visit done rest links c).cell ∷ [])
    rest
    (links ++ (visit done rest links c).links)

-- the whole sweep
abbrev pub swept_of : Visiting → Module → Module
swept_of visit m = with_swept m (swept_by visit [] m.cells m.links)
