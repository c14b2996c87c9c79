-- What values come to that lead through tree bits to their leaves.
use Rattle.std.specs.Prelude.{ℕ, ◌≡◌, ◌<◌, List, Some}
use Rattle.rtl_bits.specs.declared.bit.Bit.{Bit}
use Rattle.rtl_bits.specs.declared.bit.Bit.TheVariants.{X}
use Rattle.rtl_ir.specs.Flat.Place.{Place}
use Rattle.rtl_ir.specs.Flat.Point as flat
use Rattle.flat_net.specs.declared.leaves.Source.{Source}
use Rattle.flat_net.specs.declared.net.Point.TheVariants.{Constant}
use Rattle.flat_net.specs.Choices.{BranchView}
use Rattle.flat_net.specs.Picks.{expanded_pick}
use Rattle.flat_net.specs.Points.{place_at}
use Rattle.net_model.specs.Picked.{mark_of, own_or, picked_by}
use Rattle.net_model.specs.Valuation.{read}
use Rattle.sim_eval.specs.declared.walk.Leaves.{Leaves}
use Rattle.sim_eval.specs.declared.walk.Leaves.TheVariants.{Values, Marks, Owned}
use Rattle.sim_eval.specs.Shown.{shown}
use Rattle.sim_eval.specs.Trees.{bit_of}

-- what a leaf has over the list of the numbered bits
abbrev pub leaf_at : List Place → List Bit → Leaves → flat.Point → Bit
leaf_at ps values Values p = read (shown ps values) p
leaf_at ps values (Marks own) p = mark_of (place_at ps own) p
leaf_at ps values (Owned own bit) p = own_or (place_at ps own) bit (shown ps values) p

-- the bit that is marked, or has another value, has a number below the count
abbrev pub AreLeavesWithin : ℕ → Leaves → Type 0
AreLeavesWithin count Values = Unit {0}
AreLeavesWithin count (Marks own) = own < count
AreLeavesWithin count (Owned own bit) = own < count

-- what a source comes to, expanded so many times through the tree bits of a root
abbrev pub comes_to : List Place → List Bit → Bit → Leaves → BranchView → ℕ → Source → Bit
comes_to ps values reset leaves root n s =
    picked_by (leaf_at ps values leaves) (shown ps values) reset (expanded_pick ps root n s)

-- the tree bit at a place, as a source
abbrev pub tree_source : ℕ → Source
tree_source at = record { from = Constant X; tree = Some at }

-- these are what the tree bits come to, expanded so many times
abbrev pub AreExpanded : List Place → List Bit → Bit → Leaves → BranchView → ℕ → ℕ → List Bit → Type 0
AreExpanded ps values reset leaves root width n bits =
    (at : ℕ) → at < width → bit_of bits at ≡ comes_to ps values reset leaves root n (tree_source at)
