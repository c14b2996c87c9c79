-- What parts read in the step that settles.
use Rattle.std.specs.Prelude.{◌≡◌, ◌<◌, ◌||◌, ℕ, nat_eq, Bool, true, false, List, [], ◌∷◌, ◌++◌, flat_map, length, map, Some, slice_get, slice_index_or}
use Rattle.std.specs.Global.{Vec}
use Rattle.cell_types.specs.declared.kind.CellKind.{CellKind}
use Rattle.cell_types.specs.declared.storage.StorageKind.{StorageKind}
use Rattle.cell_types.specs.declared.storage.StorageKind.TheVariants.{Ff, Dff, Dffe, Sdff, Sdffe, Sdffce, Adff, Adffe, Aldff, Aldffe, Dffsr, Dffsre, Dlatch, Adlatch, Dlatchsr, Sr}
use Rattle.cell_gate.specs.Store.{storage_kind}
use Rattle.flat_net.specs.declared.choices.Assign.{Assign}
use Rattle.flat_net.specs.declared.leaves.Held.{Held}
use Rattle.flat_net.specs.declared.leaves.HeldBit.{HeldBit}
use Rattle.flat_net.specs.declared.memory.Fetched.{Fetched}
use Rattle.flat_net.specs.declared.memory.ReadPort.{ReadPort}
use Rattle.flat_net.specs.declared.net.Logic.{Logic}
use Rattle.flat_net.specs.declared.net.Part.{Part}
use Rattle.flat_net.specs.declared.net.Part.TheVariants as part
use Rattle.flat_net.specs.declared.net.Point.{Point}
use Rattle.flat_net.specs.declared.net.Point.TheVariants.{At}
use Rattle.flat_net.specs.declared.net.StoreBit.{StoreBit}
use Rattle.flat_net.specs.Choices.{Choices, NoChoice, OneChoice, Branches, NoBranch, OneBranch, BranchView, ChoiceView}
use Rattle.net_model.specs.Lists.{In}
use Rattle.sim_eval.specs.declared.readers.Readers.{Readers}

-- a kind of storage reads its data in the step that settles
abbrev pub is_open : StorageKind → Bool
is_open Ff = false
is_open Dff = false
is_open Dffe = false
is_open Sdff = false
is_open Sdffe = false
is_open Sdffce = false
is_open Adff = false
is_open Adffe = false
is_open Aldff = false
is_open Aldffe = false
is_open Dffsr = false
is_open Dffsre = false
is_open Dlatch = true
is_open Adlatch = true
is_open Dlatchsr = true
is_open Sr = false

-- a cell is a latch
abbrev pub is_latch : CellKind → Bool
is_latch kind = is_open (storage_kind kind)

-- bits of these numbers
abbrev pub points_at : List ℕ → List Point
points_at numbers = map (λ number. At number) numbers

-- the inputs of a combinational cell
abbrev pub logic_points : Logic → List Point
logic_points c = c.a ++ (c.b ++ c.s)

-- the pins that a bit of a storage cell reads, of a latch or of any other one
abbrev pub store_points : Bool → StoreBit → List Point
store_points true b = b.pins.en ∷ b.pins.d ∷ b.pins.arst ∷ b.pins.set ∷ b.pins.clr ∷ []
store_points false b = b.pins.clk ∷ b.pins.arst ∷ b.pins.aload ∷ b.pins.ad ∷ b.pins.set ∷ b.pins.clr ∷ []

-- what assigns read
abbrev pub assigns_points : List Assign → List Point
assigns_points assigns = map (λ (a : Assign). a.from) assigns

-- all points of these words
abbrev pub words_points : List (List Point) → List Point
words_points words = flat_map (λ (w : List Point). w) words

abbrev mutual
  -- what choices read
  pub choices_points : Choices → List Point
  choices_points NoChoice = []
  choices_points (OneChoice signal test branches rest) = (signal ++ branches_points branches) ++ choices_points rest

  -- what the branches of a choice read
  pub branches_points : Branches → List Point
  branches_points NoBranch = []
  branches_points (OneBranch patterns assigns choices rest) =
      (words_points patterns ++ (assigns_points assigns ++ choices_points choices)) ++ branches_points rest

-- what a branch reads
abbrev pub branch_points : BranchView → List Point
branch_points b = words_points b.patterns ++ (assigns_points b.assigns ++ choices_points b.choices)

-- what a choice reads
abbrev pub choice_points : ChoiceView → List Point
choice_points c = c.signal ++ branches_points c.branches

-- the sources of bits
abbrev pub sources_points : List HeldBit → List Point
sources_points bits = map (λ (b : HeldBit). b.source.from) bits

-- what bits that may hold read
abbrev pub held_points : Held → List Point
held_points h = branch_points h.tree.root ++ sources_points h.bits

-- the addresses of read ports
abbrev pub addresses_points : List ReadPort → List Point
addresses_points ports = flat_map (λ (r : ReadPort). r.address) ports

-- what the read ports of a memory read
abbrev pub fetched_points : Fetched → List Point
fetched_points f = addresses_points f.ports ++ flat_map points_at f.columns

-- what a part reads in the step that settles
abbrev pub present_points : Part → List Point
present_points (part.Given o) = []
present_points (part.Joined j) = j.from ∷ []
present_points (part.Logic c) = logic_points c.value
present_points (part.Storage c) = flat_map (store_points (is_latch c.value.shape.kind)) c.value.bits
present_points (part.Tree t) = branch_points t.value.root
present_points (part.Held h) = held_points h.value
present_points (part.Raced r) = r.value.clock ∷ r.value.reset ∷ []
present_points (part.Remembered w) = w.value.clock ∷ []
present_points (part.Fetched f) = fetched_points f.value

-- the places at a number, none past the end
abbrev pub places_at : List (Vec ℕ) → ℕ → List ℕ
places_at lists number = slice_index_or (map (λ (places : Vec ℕ). places.items) lists) number []

-- the places of the parts that read the bit of a number
abbrev pub readers_at : Readers → ℕ → List ℕ
readers_at readers number = places_at readers.lists.items number

-- what read a bit still reads it, and the part at a place reads these points
pub record AddsReads (old new : Readers) (place : ℕ) (points : List Point) : Type 0 where
  pub same : length new.lists.items ≡ length old.lists.items
  pub keeps : (n at : ℕ) → In at (readers_at old n) → In at (readers_at new n)
  pub reads : (n : ℕ) → n < length old.lists.items → In (At n) points → In place (readers_at new n)

-- a place is one of these
abbrev pub is_among : ℕ → List ℕ → Bool
is_among at [] = false
is_among at (place ∷ places) = nat_eq at place || is_among at places

-- each of these parts is among the readers of what it reads, of so many bits
pub record AreRead (readers : Readers) (parts : List Part) (count : ℕ) : Type 0 where
  pub size : length readers.lists.items ≡ count
  pub reads :
      (at : ℕ) (p : Part) → slice_get parts at ≡ Some p → (n : ℕ) → n < count → In (At n) (present_points p) →
      is_among at (readers_at readers n) ≡ true
