-- What the keys of paths and bits stand for.
use Rattle.std.specs.Prelude.{◌<◌, ℕ, suc, List, [], ◌∷◌, ◌++◌, length, map, slice_index_or, Bool, ◌&&◌, nat_eq, Option, Some, None}
use Rattle.std.specs.List.{AllByRecursion, IsDistinct}
use Rattle.rtl_sig.specs.Names.{AreDistinct}
use Rattle.rtl_ir.specs.Flat.Place.{Path, Place, Spot, OfWire, OfWord, frame}
use Rattle.flat_net.specs.declared.places.FrameKey.{FrameKey}
use Rattle.flat_net.specs.declared.places.SpotKey.{SpotKey}
use Rattle.flat_net.specs.Known.{Known}

-- the name of a number
abbrev pub name_at : List (List ℕ) → ℕ → List ℕ
name_at names number = slice_index_or names number []

-- the path of a number
abbrev pub path_at : List Path → ℕ → Path
path_at paths number = slice_index_or paths number []

-- the path of a key, over the paths before it
abbrev pub path_of : List (List ℕ) → List Path → FrameKey → Path
path_of names paths k = frame (name_at names k.name) (name_at names k.module_name) ∷ path_at paths k.around

-- the paths of keys behind these paths, each over those before it
abbrev pub paths_from : List (List ℕ) → List Path → List FrameKey → List Path
paths_from names paths [] = paths
paths_from names paths (k ∷ keys) = paths_from names (paths ++ path_of names paths k ∷ []) keys

-- the paths of keys, behind the empty one
abbrev pub paths_of : List (List ℕ) → List FrameKey → List Path
paths_of names keys = paths_from names ([] ∷ []) keys

-- a bit of the wire of a name, or of the word at an address
abbrev pub spot_of : List ℕ → Option ℕ → ℕ → Spot
spot_of name None at = OfWire name at
spot_of name (Some address) at = OfWord name address at

-- the bit of a key
abbrev pub place_of : List (List ℕ) → List Path → SpotKey → Place
place_of names paths k = record { path = path_at paths k.path; spot = spot_of (name_at names k.name) k.address k.at }

-- what keys stand for
abbrev pub known_of : List (List ℕ) → List FrameKey → List SpotKey → Known
known_of names frames spots = record {
  paths = paths_of names frames;
  places = map (place_of names (paths_of names frames)) spots;
}

-- the numbers in the keys of paths are those of so many names, and of the paths before each
abbrev pub AreFrames : ℕ → ℕ → List FrameKey → Type 0
AreFrames names paths [] = Unit {0}
AreFrames names paths (k ∷ keys) =
    ((k.around < paths) × (k.name < names) × (k.module_name < names)) × AreFrames names (suc paths) keys

-- the numbers in the keys of bits are those of so many names and paths
abbrev pub AreSpots : ℕ → ℕ → List SpotKey → Type 0
AreSpots names paths keys = AllByRecursion (λ (k : SpotKey). (k.path < paths) × (k.name < names)) keys

-- whether two keys of paths are the same
abbrev pub frame_eq : FrameKey → FrameKey → Bool
frame_eq a b = nat_eq a.around b.around && (nat_eq a.name b.name && nat_eq a.module_name b.module_name)

-- no name and no key of a path stands twice, and the numbers in keys are those of these names and of paths among the keys
pub record Fits (names : List (List ℕ)) (paths : List FrameKey) (bits : List SpotKey) : Type 0 where
  pub names_apart : AreDistinct names
  pub frames_apart : IsDistinct frame_eq paths
  pub frames : AreFrames (length names) 1 paths
  pub spots : AreSpots (length names) (suc (length paths)) bits
