-- Values that are picked by choices: the decisions of processes, over the flat netlist.
use Rattle.std.specs.Prelude.{Bool, List, [], ◌∷◌, ◌++◌, map, flat_map, Option, Some, None}
use Rattle.rtl_sig.specs.declared.sig.SigBit.{SigBit}
use Rattle.rtl_ir.specs.declared.wire.Wire.{Wire}
use Rattle.rtl_ir.specs.Decisions.{Decision, Leaf, Choice, Branches, NoBranch, OneBranch}
use Rattle.rtl_ir.specs.Faults.TwoEdges.{SwitchTest, branch_patterns}
use Rattle.rtl_ir.specs.Flat.Place.{Path}
use Rattle.rtl_ir.specs.Flat.Point.{Point, point, points}

-- what a bit is: a point; or one value where a signal matches one of these patterns, and else another; or the same by
-- a signal of one bit that tests a reset, and that may give its inverse
pub data Pick : Type 0 where
  Is : Point → Pick
  Where : (signal : List Point) (patterns : List (List Point)) (met other : Pick) → Pick
  WhereReset : (inverse : Bool) (patterns : List (List Point)) (met other : Pick) → Pick

-- a choice by a signal, or by a test of a reset
abbrev pub where_of : Option Bool → List Point → List (List Point) → Pick → Pick → Pick
where_of None signal patterns met other = Where signal patterns met other
where_of (Some inverse) signal patterns met other = WhereReset inverse patterns met other

abbrev mutual
  -- a decision in a module with these wires at this path, where the test says which choices test a reset
  pub pick_of : SwitchTest → Path → List Wire → Decision → Pick
  pick_of test p wires (Leaf s) = Is (point p wires s)
  pick_of test p wires (Choice signal branches last) =
      picks_of test p wires (test signal (branch_patterns branches)) signal branches (pick_of test p wires last)

  -- the branches of a choice in order, with a last value; a default ends them
  pub picks_of : SwitchTest → Path → List Wire → Option Bool → List SigBit → Branches → Pick → Pick
  picks_of test p wires reset signal NoBranch last = last
  picks_of test p wires reset signal (OneBranch [] value rest) last = pick_of test p wires value
  picks_of test p wires reset signal (OneBranch (first ∷ patterns) value rest) last =
      where_of reset (points p wires signal) (map (points p wires) (first ∷ patterns))
      (pick_of test p wires value) (picks_of test p wires reset signal rest last)

-- no choice tests a reset
abbrev pub no_test : SwitchTest
no_test signal patterns = None

-- what a pick reads
abbrev pub pick_points : Pick → List Point
pick_points (Is s) = s ∷ []
pick_points (Where signal patterns met other) =
    signal ++ (flat_map (λ pattern. pattern) patterns ++ (pick_points met ++ pick_points other))
pick_points (WhereReset inverse patterns met other) =
    flat_map (λ pattern. pattern) patterns ++ (pick_points met ++ pick_points other)
