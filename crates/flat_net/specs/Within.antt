-- Parts whose numbers are all below a count.
use Rattle.std.specs.Prelude.{◌<◌, ℕ, List, Option, Some, None}
use Rattle.std.specs.List.{AllByRecursion}
use Rattle.flat_net.specs.declared.choices.Assign.{Assign}
use Rattle.flat_net.specs.declared.choices.Tree.{Tree}
use Rattle.flat_net.specs.declared.leaves.Held.{Held}
use Rattle.flat_net.specs.declared.leaves.HeldBit.{HeldBit}
use Rattle.flat_net.specs.declared.leaves.Raced.{Raced}
use Rattle.flat_net.specs.declared.leaves.Source.{Source}
use Rattle.flat_net.specs.declared.memory.Fetched.{Fetched}
use Rattle.flat_net.specs.declared.memory.ReadPort.{ReadPort}
use Rattle.flat_net.specs.declared.memory.Remembered.{Remembered}
use Rattle.flat_net.specs.declared.memory.WordBit.{WordBit}
use Rattle.flat_net.specs.declared.memory.WritePort.{WritePort}
use Rattle.flat_net.specs.declared.net.Logic.{Logic}
use Rattle.flat_net.specs.declared.net.Output.{Output}
use Rattle.flat_net.specs.declared.net.Part.{Part}
use Rattle.flat_net.specs.declared.net.Part.TheVariants as part
use Rattle.flat_net.specs.declared.net.Point.{Point}
use Rattle.flat_net.specs.declared.net.Point.TheVariants.{Constant, At}
use Rattle.flat_net.specs.declared.net.StoreBit.{StoreBit}
use Rattle.flat_net.specs.declared.net.StorePins.{StorePins}
use Rattle.flat_net.specs.Choices.{Choices, NoChoice, OneChoice, Branches, NoBranch, OneBranch, BranchView}

-- the number of what is read is below the count; a constant has none
abbrev pub IsPointWithin : ℕ → Point → Type 0
IsPointWithin count (Constant b) = Unit {0}
IsPointWithin count (At number) = number < count

-- the same of several
abbrev pub ArePointsWithin : ℕ → List Point → Type 0
ArePointsWithin count points = AllByRecursion (IsPointWithin count) points

-- the numbers of what a bit of a storage cell reads are below the count
pub record ArePinsWithin (count : ℕ) (pins : StorePins) : Type 0 where
  pub clk : IsPointWithin count pins.clk
  pub en : IsPointWithin count pins.en
  pub arst : IsPointWithin count pins.arst
  pub srst : IsPointWithin count pins.srst
  pub aload : IsPointWithin count pins.aload
  pub ad : IsPointWithin count pins.ad
  pub set : IsPointWithin count pins.set
  pub clr : IsPointWithin count pins.clr
  pub d : IsPointWithin count pins.d

-- the numbers of a bit of a storage cell are below the count
abbrev pub IsStoreWithin : ℕ → StoreBit → Type 0
IsStoreWithin count b = (b.number < count) × ArePinsWithin count b.pins

-- the numbers of a combinational cell are below the count
pub record IsLogicWithin (count : ℕ) (c : Logic) : Type 0 where
  pub a : ArePointsWithin count c.a
  pub b : ArePointsWithin count c.b
  pub s : ArePointsWithin count c.s
  pub outputs : AllByRecursion (λ (o : Output). o.number < count) c.outputs

-- the place of a tree bit, where there is one, is within the tree's width
abbrev pub IsPlaceWithin : ℕ → Option ℕ → Type 0
IsPlaceWithin width None = Unit {0}
IsPlaceWithin width (Some at) = at < width

-- the number of what an assign reads is below the count, and its place within the tree's width
abbrev pub IsAssignWithin : ℕ → ℕ → Assign → Type 0
IsAssignWithin count width a = IsPointWithin count a.from × IsPlaceWithin width a.tree

-- the same of a source
abbrev pub IsSourceWithin : ℕ → ℕ → Source → Type 0
IsSourceWithin count width s = IsPointWithin count s.from × IsPlaceWithin width s.tree

abbrev mutual
  -- the numbers in choices are below the count, and places within the tree's width
  pub AreChoicesWithin : ℕ → ℕ → Choices → Type 0
  AreChoicesWithin count width NoChoice = Unit {0}
  AreChoicesWithin count width (OneChoice signal test branches rest) =
      ArePointsWithin count signal × AreBranchesWithin count width branches × AreChoicesWithin count width rest

  -- the same of branches
  pub AreBranchesWithin : ℕ → ℕ → Branches → Type 0
  AreBranchesWithin count width NoBranch = Unit {0}
  AreBranchesWithin count width (OneBranch patterns assigns choices rest) =
      AllByRecursion (ArePointsWithin count) patterns × AllByRecursion (IsAssignWithin count width) assigns
      × AreChoicesWithin count width choices × AreBranchesWithin count width rest

-- what a branch does reads numbers below the count, and tree bits within the tree's width
pub record IsBranchWithin (count width : ℕ) (b : BranchView) : Type 0 where
  pub assigns : AllByRecursion (IsAssignWithin count width) b.assigns
  pub choices : AreChoicesWithin count width b.choices

-- a bit of a tree has its number below the count, and its place within the tree's width
abbrev pub IsOutputWithin : ℕ → ℕ → Output → Type 0
IsOutputWithin count width o = (o.number < count) × (o.at < width)

-- the numbers of a tree are below the count, and its bits within its width
pub record IsTreeWithin (count : ℕ) (t : Tree) : Type 0 where
  pub root : IsBranchWithin count t.width t.root
  pub outputs : AllByRecursion (IsOutputWithin count t.width) t.outputs

-- the numbers of a bit that a rule updates are below the count, and its place within the tree's width
abbrev pub IsHeldBitWithin : ℕ → ℕ → HeldBit → Type 0
IsHeldBitWithin count width b = (b.number < count) × IsSourceWithin count width b.source

-- the numbers of bits that may hold are below the count
pub record IsHeldWithin (count : ℕ) (h : Held) : Type 0 where
  pub tree : IsTreeWithin count h.tree
  pub bits : AllByRecursion (IsHeldBitWithin count h.tree.width) h.bits

-- the same of the bits of a process with two edges
pub record IsRacedWithin (count : ℕ) (r : Raced) : Type 0 where
  pub tree : IsTreeWithin count r.tree
  pub clock : IsPointWithin count r.clock
  pub reset : IsPointWithin count r.reset
  pub bits : AllByRecursion (IsHeldBitWithin count r.tree.width) r.bits

-- the numbers of a write port are below the count
pub record IsWritePortWithin (count : ℕ) (w : WritePort) : Type 0 where
  pub address : ArePointsWithin count w.address
  pub enable : ArePointsWithin count w.enable
  pub word : ArePointsWithin count w.word

-- the numbers of the words of a memory are below the count
pub record IsRememberedWithin (count : ℕ) (w : Remembered) : Type 0 where
  pub clock : IsPointWithin count w.clock
  pub ports : AllByRecursion (IsWritePortWithin count) w.ports
  pub bits : AllByRecursion (λ (b : WordBit). b.number < count) w.bits

-- the numbers of a read port are below the count
pub record IsReadPortWithin (count : ℕ) (r : ReadPort) : Type 0 where
  pub address : ArePointsWithin count r.address
  pub outputs : AllByRecursion (λ (o : Output). o.number < count) r.outputs

-- the numbers of the read ports of a memory are below the count
pub record IsFetchedWithin (count : ℕ) (f : Fetched) : Type 0 where
  pub columns : AllByRecursion (AllByRecursion (λ number. number < count)) f.columns
  pub ports : AllByRecursion (IsReadPortWithin count) f.ports

-- the numbers of a part are below the count
abbrev pub IsPartWithin : ℕ → Part → Type 0
IsPartWithin count (part.Given o) = o.number < count
IsPartWithin count (part.Joined j) = (j.to < count) × IsPointWithin count j.from
IsPartWithin count (part.Logic c) = IsLogicWithin count c.value
IsPartWithin count (part.Storage c) = AllByRecursion (IsStoreWithin count) c.value.bits
IsPartWithin count (part.Tree t) = IsTreeWithin count t.value
IsPartWithin count (part.Held h) = IsHeldWithin count h.value
IsPartWithin count (part.Raced r) = IsRacedWithin count r.value
IsPartWithin count (part.Remembered w) = IsRememberedWithin count w.value
IsPartWithin count (part.Fetched f) = IsFetchedWithin count f.value

-- the same of several parts
abbrev pub ArePartsWithin : ℕ → List Part → Type 0
ArePartsWithin count parts = AllByRecursion (IsPartWithin count) parts
