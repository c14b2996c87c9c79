-- Numbers that all stand for something.
use Rattle.std.specs.Prelude.{◌≡◌, ◌<◌, ℕ, List, length, map}
use Rattle.std.specs.List.{AllByRecursion}
use Rattle.rtl_ir.specs.Flat.Driver.{Driven, StorePoints}
use Rattle.rtl_ir.specs.Flat.Place.{Place}
use Rattle.rtl_ir.specs.Flat.Point as rtl
use Rattle.flat_net.specs.declared.net.Part.{Part}
use Rattle.flat_net.specs.declared.net.Point.{Point}
use Rattle.flat_net.specs.declared.net.StorePins.{StorePins}
use Rattle.flat_net.specs.Parts.{parts_rows}
use Rattle.flat_net.specs.Points.{pins_of, place_at, point_of, points_of}
use Rattle.flat_net.specs.Within.{IsPointWithin, ArePointsWithin, ArePinsWithin, ArePartsWithin}

-- what is read is this constant or numbered bit
pub record IsPoint (ps : List Place) (point : Point) (it : rtl.Point) : Type 0 where
  pub is : point_of ps point ≡ it
  pub within : IsPointWithin (length ps) point

-- the same of several
pub record ArePoints (ps : List Place) (points : List Point) (they : List rtl.Point) : Type 0 where
  pub are : points_of ps points ≡ they
  pub within : ArePointsWithin (length ps) points

-- the pins read this
pub record ArePins (ps : List Place) (pins : StorePins) (they : StorePoints) : Type 0 where
  pub are : pins_of ps pins ≡ they
  pub within : ArePinsWithin (length ps) pins

-- the parts are these rows of numbered bits
pub record AreParts (ps : List Place) (parts : List Part) (rows : List Driven) : Type 0 where
  pub are : parts_rows ps parts ≡ rows
  pub within : ArePartsWithin (length ps) parts

-- the numbers are those of these bits
pub record AreNumbers (ps : List Place) (numbers : List ℕ) (they : List Place) : Type 0 where
  pub are : map (place_at ps) numbers ≡ they
  pub within : AllByRecursion (λ number. number < length ps) numbers
