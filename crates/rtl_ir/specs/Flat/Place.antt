-- The bits of a flat netlist: where they stand.
use Rattle.std.specs.Prelude.{◌≡◌, ℕ, Bool, false, ◌&&◌, List, nat_eq}
use Rattle.std.specs.Cmp.Lexicographic.{pointwise}
use Rattle.std.specs.Str.{bytes_eq}

-- an instance: its name, and the name of its module
pub record Frame : Type 0 where
  pub name : List ℕ
  pub module_name : List ℕ

-- the instance of this name, of the module of this name
abbrev pub frame : List ℕ → List ℕ → Frame
frame name id = record { name = name; module_name = id }

-- the instances that a bit stands in, the innermost first; the last one is the module that is run, with an empty name
abbrev pub Path : Type 0
Path = List Frame

-- what a bit is in its module: a bit of a wire, or a bit of the word of a memory at an address
pub data Spot : Type 0 where
  OfWire : (name : List ℕ) (at : ℕ) → Spot
  OfWord : (name : List ℕ) (address : ℕ) (at : ℕ) → Spot

-- a bit of the flat netlist
pub record Place : Type 0 where
  pub path : Path
  pub spot : Spot

-- a bit of a wire
abbrev pub wire_place : Path → List ℕ → ℕ → Place
wire_place p name at = record { path = p; spot = OfWire name at }

-- a bit of the word at an address
abbrev pub word_place : Path → List ℕ → ℕ → ℕ → Place
word_place p name address at = record { path = p; spot = OfWord name address at }

-- the spot is a bit of the wire of this name
abbrev pub IsOf : List ℕ → Spot → Type 0
IsOf name spot = (at : ℕ) × (spot ≡ OfWire name at)

-- whether two instances are the same
abbrev pub frame_same : Frame → Frame → Bool
frame_same a b = bytes_eq a.name b.name && bytes_eq a.module_name b.module_name

-- whether two spots are the same
abbrev pub spot_same : Spot → Spot → Bool
spot_same (OfWire a i) (OfWire b j) = bytes_eq a b && nat_eq i j
spot_same (OfWord a x i) (OfWord b y j) = bytes_eq a b && (nat_eq x y && nat_eq i j)
spot_same (OfWire a i) (OfWord b y j) = false
spot_same (OfWord a x i) (OfWire b j) = false

-- whether two bits are the same
abbrev pub place_same : Place → Place → Bool
place_same a b = pointwise frame_same a.path b.path && spot_same a.spot b.spot
