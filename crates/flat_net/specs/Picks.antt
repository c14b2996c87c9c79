-- What tree bits are, by the trees of decisions in numbers, over the list of the numbered bits.
use Rattle.std.specs.Prelude.{ℕ, zero, suc, nat_eq, Bool, List, [], ◌∷◌, map, Option, if◌then◌else◌}
use Rattle.std.specs.Option.{option_map_or}
use Rattle.rtl_bits.specs.declared.bit.Bit.TheVariants.{X}
use Rattle.rtl_ir.specs.Flat.Driver.{Driven, Decided}
use Rattle.rtl_ir.specs.Flat.Pick.{Pick, Is, where_of}
use Rattle.rtl_ir.specs.Flat.Place.{Place}
use Rattle.rtl_ir.specs.Flat.Point as rtl
use Rattle.flat_net.specs.declared.choices.Assign.{Assign}
use Rattle.flat_net.specs.declared.leaves.Source.{Source}
use Rattle.flat_net.specs.declared.net.Output.{Output}
use Rattle.flat_net.specs.Choices.{Choices, NoChoice, OneChoice, Branches, NoBranch, OneBranch, BranchView}
use Rattle.flat_net.specs.Points.{place_at, point_of, points_of}

-- what an assign reads
abbrev pub source_of : Assign → Source
source_of a = record { from = a.from; tree = a.tree }

-- what assigns make of an earlier value of the tree bit at a place, where this is what a source comes to: the last assign
-- of it counts
abbrev pub assigned_pick : (Source → Pick) → ℕ → List Assign → Pick → Pick
assigned_pick leaf at [] earlier = earlier
assigned_pick leaf at (a ∷ assigns) earlier =
    assigned_pick leaf at assigns (if nat_eq a.at at then leaf (source_of a) else earlier)

module _ (ps : List Place) (leaf : Source → Pick) (at : ℕ) where
  abbrev mutual
    -- what choices make of an earlier value: each in order acts on it
    pub choices_pick : Choices → Pick → Pick
    choices_pick NoChoice earlier = earlier
    choices_pick (OneChoice signal test branches rest) earlier =
        choices_pick rest (branches_pick test (points_of ps signal) branches earlier earlier)

    -- what the branches of a choice of a signal, or by a test of a reset, make of an earlier value, where this is the
    -- value that no branch takes; a branch without patterns takes all
    pub branches_pick : Option Bool → List rtl.Point → Branches → Pick → Pick → Pick
    branches_pick test signal NoBranch earlier last = last
    branches_pick test signal (OneBranch [] assigns choices rest) earlier last =
        choices_pick choices (assigned_pick leaf at assigns earlier)
    branches_pick test signal (OneBranch (p ∷ patterns) assigns choices rest) earlier last =
        where_of test signal (map (points_of ps) (p ∷ patterns)) (choices_pick choices (assigned_pick leaf at assigns earlier))
        (branches_pick test signal rest earlier last)

  -- what a branch makes of an earlier value
  abbrev pub branch_pick : BranchView → Pick → Pick
  branch_pick b earlier = choices_pick b.choices (assigned_pick leaf at b.assigns earlier)

-- a source as it stands
abbrev pub leaf_pick : List Place → Source → Pick
leaf_pick ps s = Is (point_of ps s.from)

-- the tree bit at a place, by the root of the tree, where this is what a source comes to
abbrev pub root_pick : List Place → (Source → Pick) → BranchView → ℕ → Pick
root_pick ps leaf root at = branch_pick ps leaf at root (Is (rtl.Constant X))

-- the tree bit at a place, by the root of the tree
abbrev pub tree_pick : List Place → BranchView → ℕ → Pick
tree_pick ps root at = root_pick ps (leaf_pick ps) root at

-- a source expanded through the tree bits of this root, so many times one in another
abbrev pub expanded_pick : List Place → BranchView → ℕ → Source → Pick
expanded_pick ps root zero s = leaf_pick ps s
expanded_pick ps root (suc n) s =
    option_map_or (root_pick ps (expanded_pick ps root n) root) s.tree (leaf_pick ps s)

-- a tree bit
abbrev pub tree_row : List Place → BranchView → Output → Driven
tree_row ps root o = record { place = place_at ps o.number; driver = Decided (tree_pick ps root o.at) }
