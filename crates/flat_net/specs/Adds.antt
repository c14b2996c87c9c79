-- What a netlist that is being built gets.
use Rattle.std.specs.Prelude.{◌≡◌, ◌<◌, ℕ, List, ◌++◌, map}
use Rattle.std.specs.List.{AllByRecursion}
use Rattle.rtl_ir.specs.Flat.Driver.{Driven}
use Rattle.rtl_ir.specs.Flat.Link.{joins}
use Rattle.rtl_ir.specs.Flat.Place.{Place}
use Rattle.rtl_ir.specs.Flat.Tree.{given_rows, places}
use Rattle.flat_net.specs.declared.builder.Builder.{Builder}
use Rattle.flat_net.specs.declared.net.Part.{Part}
use Rattle.flat_net.specs.declared.net.Point.{Point}
use Rattle.flat_net.specs.Known.{Extends}
use Rattle.flat_net.specs.Parts.{parts_rows}
use Rattle.flat_net.specs.Points.{place_at, points_of}
use Rattle.flat_net.specs.Reads.{AreParts}
use Rattle.flat_net.specs.Within.{ArePointsWithin, ArePartsWithin}

-- behind the rows of its parts it gets these, and what has a number keeps it
pub record Adds (old new : Builder) (rows : List Driven) : Type 0 where
  pub numbers : Extends old.places new.places
  pub parts : (before : List Driven) → AreParts old.places.places old.parts.items before
      → AreParts new.places.places new.parts.items (before ++ rows)

-- behind the parts stand those by which the right drives the left, bit by bit, as far as both go
pub record Joins (old new : List Part) (left right : List Point) : Type 0 where
  pub rows : (ps : List Place) → parts_rows ps new ≡ parts_rows ps old ++ joins (points_of ps left) (points_of ps right)
  pub within : (count : ℕ) → ArePointsWithin count left → ArePointsWithin count right → ArePartsWithin count old → ArePartsWithin count new

-- behind the parts stand those by which the input vector drives the bits of these numbers
pub record Gives (old new : List Part) (numbers : List ℕ) : Type 0 where
  pub rows : (ps : List Place) → parts_rows ps new ≡ parts_rows ps old ++ given_rows (map (place_at ps) numbers) 0
  pub within : (count : ℕ) → AllByRecursion (λ number. number < count) numbers → ArePartsWithin count old → ArePartsWithin count new

-- behind the numbers stand those among these points
pub record PutsNumbers (old new : List ℕ) (points : List Point) : Type 0 where
  pub rows : (ps : List Place) → map (place_at ps) new ≡ map (place_at ps) old ++ places (points_of ps points)
  pub within : (count : ℕ) → ArePointsWithin count points → AllByRecursion (λ number. number < count) old → AllByRecursion (λ number. number < count) new
