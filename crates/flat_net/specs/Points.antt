-- What numbers stand for, over the list of the numbered bits: the bit of number n is the n-th.
use Rattle.std.specs.Prelude.{◌≡◌, ◌<◌, ℕ, List, [], length, map, slice_index_or}
use Rattle.rtl_ir.specs.Flat.Driver.{StorePoints}
use Rattle.rtl_ir.specs.Flat.Place.{Place, wire_place}
use Rattle.rtl_ir.specs.Flat.Point as rtl
use Rattle.flat_net.specs.declared.net.Point.{Point}
use Rattle.flat_net.specs.declared.net.Point.TheVariants.{Constant, At}
use Rattle.flat_net.specs.declared.net.StorePins.{StorePins}

-- the bit of a number; behind the last number it is that of no wire
abbrev pub place_at : List Place → ℕ → Place
place_at ps number = slice_index_or ps number (wire_place [] [] 0)

-- no bit has two numbers
abbrev pub AreApart : List Place → Type 0
AreApart ps = (i j : ℕ) → i < length ps → j < length ps → place_at ps i ≡ place_at ps j → i ≡ j

-- what is read, as a constant or a bit
abbrev pub point_of : List Place → Point → rtl.Point
point_of ps (Constant b) = rtl.Constant b
point_of ps (At number) = rtl.At (place_at ps number)

-- the same of several
abbrev pub points_of : List Place → List Point → List rtl.Point
points_of ps points = map (point_of ps) points

-- what a bit of a storage cell reads, as constants and bits
abbrev pub pins_of : List Place → StorePins → StorePoints
pins_of ps pins = record {
  clk = point_of ps pins.clk;
  en = point_of ps pins.en;
  arst = point_of ps pins.arst;
  srst = point_of ps pins.srst;
  aload = point_of ps pins.aload;
  ad = point_of ps pins.ad;
  set = point_of ps pins.set;
  clr = point_of ps pins.clr;
  d = point_of ps pins.d;
}
