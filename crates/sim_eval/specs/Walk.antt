-- What a walk of a tree makes of its bits.
use Rattle.std.specs.Prelude.{ℕ, nat_eq, Bool, List, Option, Some, None, option_map, slice_index_or, if◌then◌else◌}
use Rattle.std.specs.Option.{option_map_or}
use Rattle.std.proofs.Common.{Bor}
use Rattle.rtl_bits.specs.declared.bit.Bit.{Bit}
use Rattle.rtl_bits.specs.declared.bit.Bit.TheVariants.{S0, S1, X}
use Rattle.flat_net.specs.declared.choices.Assign.{Assign}
use Rattle.flat_net.specs.declared.leaves.Source.{Source}
use Rattle.flat_net.specs.declared.net.Point.{Point}
use Rattle.flat_net.specs.declared.net.Point.TheVariants.{Constant, At}
use Rattle.flat_net.specs.Choices.{Choices, Branches, BranchView}
use Rattle.sim_eval.specs.declared.walk.Leaves.{Leaves}
use Rattle.sim_eval.specs.declared.walk.Leaves.TheVariants.{Values, Marks, Owned}
use Rattle.sim_eval.specs.declared.walk.Walk.{Walk}
use Rattle.sim_eval.specs.Numbers.{number_read}
use Rattle.sim_eval.specs.Trees.{assigned_value, bit_of, branch_value, branches_value, choices_value, compared, tree_value}

-- 1 for the bit of this number, 0 for any other leaf
abbrev pub number_mark : ℕ → Point → Bit
number_mark own (Constant b) = S0
number_mark own (At number) = if nat_eq number own then S1 else S0

-- what a point has where the bit of this number has this value
abbrev pub number_owned : ℕ → Bit → List Bit → Point → Bit
number_owned own bit values (Constant b) = b
number_owned own bit values (At number) = if nat_eq number own then bit else slice_index_or values number X

-- what a point has as a leaf: its value, its mark, or its value where one bit has another
abbrev pub leaf_of : Leaves → List Bit → Point → Bit
leaf_of Values values p = number_read values p
leaf_of (Marks own) values p = number_mark own p
leaf_of (Owned own bit) values p = number_owned own bit values p

-- what a source has: what its tree bit had in the round before, where there was one, else what it has as a leaf
abbrev pub followed : (Point → Bit) → Option (List Bit) → Source → Bit
followed leaf None s = leaf s.from
followed leaf (Some last) s = option_map_or (bit_of last) s.tree (leaf s.from)

module _ (w : Walk) where
  -- what a source has in a walk
  abbrev pub walked : Source → Bit
  walked s = followed (leaf_of w.leaves w.values.now) (option_map (λ (l : Bor (List Bit)). l.now) w.last) s

  -- what a choice compares its patterns with in a walk
  abbrev pub walked_signal : List Point → Option Bool → List Bit
  walked_signal signal test = compared w.values.now w.reset signal test

  module _ (at : ℕ) where
    -- what assigns make in a walk of an earlier value of the tree bit at a place
    abbrev pub walked_assigns : List Assign → Bit → Bit
    walked_assigns assigns earlier = assigned_value w.values.now w.reset walked at assigns earlier

    -- what choices make of it
    abbrev pub walked_choices : Choices → Bit → Bit
    walked_choices choices earlier = choices_value w.values.now w.reset walked at choices earlier

    -- what the branches of a choice make of it that compares this with their patterns
    abbrev pub walked_branches : List Bit → Branches → Bit → Bit
    walked_branches signal branches earlier =
        branches_value w.values.now w.reset walked at signal branches earlier earlier

    -- what a branch makes of it
    abbrev pub walked_branch : BranchView → Bit → Bit
    walked_branch b earlier = branch_value w.values.now w.reset walked at b earlier

    -- what the tree bit has, by the root of the tree
    abbrev pub walked_tree : BranchView → Bit
    walked_tree root = tree_value w.values.now w.reset walked at root
