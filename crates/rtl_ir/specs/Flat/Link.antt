-- The rows of connections.
use Rattle.std.specs.Prelude.{List, [], ◌∷◌, ◌++◌}
use Rattle.rtl_ir.specs.declared.module.Link.{Link}
use Rattle.rtl_ir.specs.declared.wire.Wire.{Wire}
use Rattle.rtl_ir.specs.Flat.Driver.{Driven, Joined}
use Rattle.rtl_ir.specs.Flat.Place.{Path}
use Rattle.rtl_ir.specs.Flat.Point.{Point, Constant, At, points}

-- the right drives the left, bit by bit, as far as both go
abbrev pub joins : List Point → List Point → List Driven
joins [] rights = []
joins (l ∷ lefts) [] = []
joins (At q ∷ lefts) (r ∷ rights) = record { place = q; driver = Joined r } ∷ joins lefts rights
joins (Constant b ∷ lefts) (r ∷ rights) = joins lefts rights

-- the rows of the connections of a module with these wires at this path
abbrev pub link_rows : Path → List Wire → List Link → List Driven
link_rows p wires [] = []
link_rows p wires (link ∷ links) =
    joins (points p wires link.left) (points p wires link.right) ++ link_rows p wires links
