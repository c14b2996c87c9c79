-- Trees of decisions in numbers, as contracts see them: lists of choices and lists of branches that hold one another.
use Rattle.std.specs.Prelude.{ℕ, ◌+◌, Bool, max, List, [], ◌∷◌, Option}
use Rattle.flat_net.specs.declared.choices.Assign.{Assign}
use Rattle.flat_net.specs.declared.net.Point.{Point}

mutual
  -- choices in order: none, or the first one, which is its signal, what it says of a reset, and its branches, and the rest
  pub data Choices : Type 0 where
    NoChoice : Choices
    OneChoice : List Point → Option Bool → Branches → Choices → Choices

  -- the branches of a choice in order: none, or the first one, which is its patterns, assigns and choices, and the rest
  pub data Branches : Type 0 where
    NoBranch : Branches
    OneBranch : List (List Point) → List Assign → Choices → Branches → Branches

-- a branch
pub record BranchView : Type 0 where
  pub patterns : List (List Point)
  pub assigns : List Assign
  pub choices : Choices

-- a choice
pub record ChoiceView : Type 0 where
  pub signal : List Point
  pub test : Option Bool
  pub branches : Branches

-- these choices, in order
abbrev pub choices_of : List ChoiceView → Choices
choices_of [] = NoChoice
choices_of (c ∷ rest) = OneChoice c.signal c.test c.branches (choices_of rest)

-- these branches, in order
abbrev pub branches_of : List BranchView → Branches
branches_of [] = NoBranch
branches_of (b ∷ rest) = OneBranch b.patterns b.assigns b.choices (branches_of rest)

abbrev mutual
  -- how many choices and branches stand in one another below these choices, at most
  pub choices_depth : Choices → ℕ
  choices_depth NoChoice = 0
  choices_depth (OneChoice signal test branches rest) = max (branches_depth branches + 1) (choices_depth rest)

  -- how many choices and branches stand in one another below these branches, at most
  pub branches_depth : Branches → ℕ
  branches_depth NoBranch = 0
  branches_depth (OneBranch patterns assigns choices rest) = max (choices_depth choices + 1) (branches_depth rest)

-- how deep a branch goes
abbrev pub branch_depth : BranchView → ℕ
branch_depth b = choices_depth b.choices

-- how deep a choice goes
abbrev pub choice_depth : ChoiceView → ℕ
choice_depth c = branches_depth c.branches
