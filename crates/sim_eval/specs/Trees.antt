-- What tree bits have, by the values of the numbered bits.
use Rattle.std.specs.Prelude.{◌≡◌, ℕ, Bool, nat_eq, List, [], ◌∷◌, Option, Some, None, slice_index_or, if◌then◌else◌}
use Rattle.rtl_bits.specs.declared.bit.Bit.{Bit}
use Rattle.rtl_bits.specs.declared.bit.Bit.TheVariants.{S0, S1, X}
use Rattle.rtl_bits.specs.Knowledge.{is_known}
use Rattle.rtl_bits.specs.Tables.{and_of, merge_of, or_of}
use Rattle.flat_net.specs.declared.choices.Assign.{Assign}
use Rattle.flat_net.specs.declared.leaves.Source.{Source}
use Rattle.flat_net.specs.declared.net.Point.{Point}
use Rattle.flat_net.specs.declared.net.Point.TheVariants.{Constant, At}
use Rattle.flat_net.specs.Choices.{Choices, NoChoice, OneChoice, Branches, NoBranch, OneBranch, BranchView}
use Rattle.flat_net.specs.Picks.{source_of}
use Rattle.net_model.specs.Picked.{chosen_of, equal_of, tested_of}
use Rattle.sim_eval.specs.Numbers.{number_word}

-- what a tree bit is before all assigns
abbrev pub unassigned : Source
unassigned = record { from = Constant X; tree = None }

module _ (values : List Bit) where
  -- whether a bit of a signal matches a place of a pattern; an unknown constant there matches anything
  abbrev pub number_place_match : Bit → Point → Bit
  number_place_match s (Constant p) = if is_known p then equal_of s p else S1
  number_place_match s (At number) = equal_of s (slice_index_or values number X)

  -- whether a signal matches a pattern
  abbrev pub number_pattern_match : List Bit → List Point → Bit
  number_pattern_match [] pattern = S1
  number_pattern_match (s ∷ signal) [] = S1
  number_pattern_match (s ∷ signal) (p ∷ pattern) = and_of (number_place_match s p) (number_pattern_match signal pattern)

  -- whether a signal matches one of these patterns
  abbrev pub number_case_match : List Bit → List (List Point) → Bit
  number_case_match signal [] = S0
  number_case_match signal (p ∷ patterns) = or_of (number_pattern_match signal p) (number_case_match signal patterns)

  -- whether a branch with these patterns takes a signal; without patterns it does
  abbrev pub branch_match : List Bit → List (List Point) → Bit
  branch_match signal [] = S1
  branch_match signal (p ∷ patterns) = number_case_match signal (p ∷ patterns)

  -- what a choice compares its patterns with: its signal, or its test of a reset with this value
  abbrev pub compared : Bit → List Point → Option Bool → List Bit
  compared reset signal None = number_word values signal
  compared reset signal (Some inverse) = tested_of inverse reset ∷ []

  -- where a reset has this value, and sources have these
  module _ (reset : Bit) (given : Source → Bit) (at : ℕ) where
    -- what assigns make of an earlier value of the tree bit at a place
    abbrev pub assigned_value : List Assign → Bit → Bit
    assigned_value [] earlier = earlier
    assigned_value (a ∷ assigns) earlier = assigned_value assigns (if nat_eq a.at at then given (source_of a) else earlier)

    abbrev mutual
      -- what choices make of an earlier value
      pub choices_value : Choices → Bit → Bit
      choices_value NoChoice earlier = earlier
      choices_value (OneChoice signal test branches rest) earlier =
          choices_value rest (branches_value (compared reset signal test) branches earlier earlier)

      -- what the branches of a choice make of an earlier value, where this is compared with their patterns, and this is the
      -- value that no branch takes
      pub branches_value : List Bit → Branches → Bit → Bit → Bit
      branches_value signal NoBranch earlier last = last
      branches_value signal (OneBranch patterns assigns choices rest) earlier last =
          chosen_of (branch_match signal patterns) (choices_value choices (assigned_value assigns earlier))
          (branches_value signal rest earlier last)

    -- what a branch makes of an earlier value
    abbrev pub branch_value : BranchView → Bit → Bit
    branch_value b earlier = choices_value b.choices (assigned_value b.assigns earlier)

    -- the value of the tree bit at the place, by the root of the tree: x stands before all assigns
    abbrev pub tree_value : BranchView → Bit
    tree_value root = branch_value root (given unassigned)

-- the bit at a place, x past the end
abbrev pub bit_of : List Bit → ℕ → Bit
bit_of bits at = slice_index_or bits at X

-- the merge of a bit with what the branches gave that may match, where there was one
abbrev pub merged_with : Option (List Bit) → ℕ → Bit → Bit
merged_with None at b = b
merged_with (Some others) at b = merge_of (bit_of others at) b

-- bits are merged with others, place by place; past their end those are x
abbrev pub Merges : List Bit → List Bit → List Bit → Type 0
Merges others old new = (at : ℕ) → bit_of new at ≡ merge_of (bit_of others at) (bit_of old at)
