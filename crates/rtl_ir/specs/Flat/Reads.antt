-- The bits that a driver reads.
use Rattle.std.specs.Prelude.{List, [], ◌∷◌, ◌++◌, flat_map}
use Rattle.rtl_ir.specs.Flat.Driver.{StorePoints, PortPoints, Driver, Nothing, Given, Joined, Worked, Stored, Decided, Held, Raced, Remembered, Fetched}
use Rattle.rtl_ir.specs.Flat.Pick.{pick_points}
use Rattle.rtl_ir.specs.Flat.Place.{Place}
use Rattle.rtl_ir.specs.Flat.Point.{Point, At}
use Rattle.rtl_ir.specs.Flat.Tree.{places}

-- what a storage bit reads, in a list
abbrev pub store_list : StorePoints → List Point
store_list s = s.clk ∷ s.en ∷ s.arst ∷ s.srst ∷ s.aload ∷ s.ad ∷ s.set ∷ s.clr ∷ s.d ∷ []

-- what a bit of a word reads of a write port
abbrev pub port_list : PortPoints → List Point
port_list port = port.enable ∷ port.new ∷ port.address

-- the points that a driver reads
abbrev pub read_points : Driver → List Point
read_points Nothing = []
read_points (Given at) = []
read_points (Joined from) = from ∷ []
read_points (Worked shape inputs at) = flat_map (λ word. word) inputs
read_points (Stored start shape at pins own) = At own ∷ store_list pins
read_points (Decided tree) = pick_points tree
read_points (Held start value tree own) = At own ∷ value ∷ pick_points tree
read_points (Raced start clock clock_level reset reset_level tree own) = At own ∷ clock ∷ reset ∷ pick_points tree
read_points (Remembered start clock level address ports own) = At own ∷ clock ∷ flat_map port_list ports
read_points (Fetched address first words) = address ++ words

-- the bits that a driver reads
abbrev pub reads : Driver → List Place
reads d = places (read_points d)
