-- How a walk back through a tree changes what was found.
use Rattle.std.specs.Prelude.{◌≡◌, ℕ, ◌==◌, ◌<◌, Bool, true, false, not, ◌&&◌, List, [], ◌∷◌, ◌++◌, length, map, slice_index_or, slice_set, Option, Some, None, Vec}
use Rattle.std.specs.List.{list_any}
use Rattle.std.specs.declared.alloc.Global.{Global}
use Rattle.rtl_sig.specs.declared.sig.SigBit.{SigBit}
use Rattle.rtl_sig.specs.declared.sig.WireBit.{WireBit}
use Rattle.process_trees.specs.declared.walk.Walk.{Walk}
use Rattle.process_trees.specs.Numbers.{AreNumbers, ByBit, number_in}
use Rattle.process_trees.specs.Reach.{Reach, if_kept}

-- a value of before may be left of the bit of this number
abbrev pub unset_at : List Bool → ℕ → Bool
unset_at unset k = slice_index_or unset k false

-- the rows of a table
abbrev pub rows_of : List (Vec SigBit Global) → List (List SigBit)
rows_of rows = map (λ (v : Vec SigBit Global). v.items) rows

-- what was found for the bit of this number
abbrev pub sources_at : List (Vec SigBit Global) → ℕ → List SigBit
sources_at rows k = slice_index_or (rows_of rows) k []

-- a number is among these
abbrev pub is_among : ℕ → List ℕ → Bool
is_among k numbers = list_any (λ n. k == n) numbers

-- a number is among these, where there are some; else the bit has a value of before left
abbrev pub unset_among : Option (Vec ℕ Global) → List Bool → ℕ → Bool
unset_among None before k = unset_at before k
unset_among (Some numbers) before k = is_among k numbers.items

-- the bits of these numbers, marked
abbrev pub marked : List Bool → List ℕ → Bool → List Bool
marked unset [] value = unset
marked unset (n ∷ numbers) value = marked (slice_set unset n value) numbers value

-- these are the numbers of the bits of which a value of before was left, and is not
pub record AreSet (numbers : List ℕ) (old new : List Bool) : Type 0 where
  pub was : (k : ℕ) → is_among k numbers ≡ true → unset_at old k ≡ true
  pub is : (k : ℕ) → unset_at new k ≡ (unset_at old k && not (is_among k numbers))

-- what a part of a tree may give the bit of this number last was found, before which there was more of the tree
pub record Gains (reach : Reach) (old new : Walk) (k : ℕ) : Type 0 where
  pub sources : sources_at new.sources.items k ≡ sources_at old.sources.items k ++ if_kept (unset_at old.unset.items k) reach.sources
  pub unset : unset_at new.unset.items k ≡ (unset_at old.unset.items k && reach.keeps)

-- there is room for so many bits
pub record HasRoom (count : ℕ) (walk : Walk) : Type 0 where
  pub sources : length walk.sources.items ≡ count
  pub unset : length walk.unset.items ≡ count

-- a part of a tree was walked, which may give each bit this last
pub record Walked (numbers : ByBit ℕ) (reach : WireBit → Reach) (old new : Walk) : Type 0 where
  pub size : length new.unset.items ≡ length old.unset.items
  pub room : (count : ℕ) → HasRoom count old → HasRoom count new
  pub gains : (bits : List WireBit) → AreNumbers numbers bits → HasRoom (length bits) old → (b : WireBit) (k : ℕ) → number_in bits b ≡ Some k → Gains (reach b) old new k

-- a source was found for the bit of this number, where a value of before was left
pub record Gives (at : ℕ) (source : SigBit) (old new : Walk) : Type 0 where
  pub size : length new.unset.items ≡ length old.unset.items
  pub room : (count : ℕ) → HasRoom count old → HasRoom count new
  pub here : (count : ℕ) → HasRoom count old → at < count → Gains (record { sources = source ∷ []; keeps = false }) old new at
  pub others : (k : ℕ) → (k ≡ at → ⊥) → (sources_at new.sources.items k ≡ sources_at old.sources.items k) × (unset_at new.unset.items k ≡ unset_at old.unset.items k)
