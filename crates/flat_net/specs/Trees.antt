-- Trees in numbers are those of processes, over the tree bits in order of their places.
use Rattle.std.specs.Prelude.{◌≡◌, ℕ, nat_eq, Bool, false, List, [], ◌∷◌, length, map, position, slice_get, reverse, Option, Some, None}
use Rattle.std.specs.List.{AllByRecursion}
use Rattle.std.specs.Option.{option_map_or}
use Rattle.rtl_sig.specs.declared.sig.SigBit.{SigBit}
use Rattle.rtl_sig.specs.declared.sig.SigBit.TheVariants.{Fixed, Wire as OnWire}
use Rattle.rtl_sig.specs.declared.sig.WireBit.{WireBit}
use Rattle.rtl_ir.specs.declared.wire.Wire.{Wire}
use Rattle.rtl_ir.specs.Assigns.{last_source, tree_bits}
use Rattle.rtl_ir.specs.Decisions.{Decision, Leaf, Choice as Chosen, after_assigns, after_switches, branches_of, branches_with_leaves, with_leaves}
use Rattle.rtl_ir.specs.Faults.TwoEdges.{SwitchTest}
use Rattle.rtl_ir.specs.Flat.Driver.{Driven}
use Rattle.rtl_ir.specs.Flat.Pick.{Pick, pick_of, picks_of}
use Rattle.rtl_ir.specs.Flat.Place.{Path, Place}
use Rattle.rtl_ir.specs.Flat.Point.{bit_place, point, points}
use Rattle.rtl_ir.specs.declared.follow.Join.{Join}
use Rattle.rtl_ir.specs.Signals.{same_bit}
use Rattle.rtl_ir.specs.Tree.{CaseView, SwitchView, cases_of, switches_of}
use Rattle.flat_net.specs.declared.choices.Assign.{Assign}
use Rattle.flat_net.specs.declared.choices.Tree.{Tree}
use Rattle.flat_net.specs.declared.leaves.Source.{Source}
use Rattle.flat_net.specs.declared.net.Output.{Output}
use Rattle.flat_net.specs.declared.net.Point.{Point}
use Rattle.flat_net.specs.Choices as choices
use Rattle.flat_net.specs.Choices.{BranchView, ChoiceView, choices_of}
use Rattle.flat_net.specs.Picks.{assigned_pick, branch_pick, branches_pick, choices_pick, tree_row}
use Rattle.flat_net.specs.Points.{points_of}
use Rattle.flat_net.specs.Reads.{IsPoint}
use Rattle.flat_net.specs.Within.{ArePointsWithin, IsAssignWithin, AreChoicesWithin, AreBranchesWithin, IsBranchWithin, IsTreeWithin}

-- the bits are the tree bits of the process with this root, the last one first
abbrev pub AreTreeBits : List WireBit → CaseView → Type 0
AreTreeBits bits root = reverse bits ≡ tree_bits root

-- whether a place that may be there is this one
abbrev pub is_at : Option ℕ → ℕ → Bool
is_at None at = false
is_at (Some found) at = nat_eq found at

-- the place of a bit among these, where it is one of them
abbrev pub IsFound : List WireBit → WireBit → Option ℕ → Type 0
IsFound bits bit found = (at : ℕ) (b : WireBit) → slice_get bits at ≡ Some b → is_at found at ≡ same_bit bit b

-- what the last of these places of assigns makes of an earlier decision on a bit
abbrev pub after_joins : List Join → WireBit → Decision → Decision
after_joins js b earlier = option_map_or (λ s. Leaf s) (last_source js b) earlier

-- the words of points are these
pub record AreSignals (ps : List Place) (p : Path) (wires : List Wire) (words : List (List Point)) (signals : List (List SigBit)) : Type 0 where
  pub are : map (points_of ps) words ≡ map (points p wires) signals
  pub within : AllByRecursion (ArePointsWithin (length ps)) words

-- the place of a bit among these, none for a constant
abbrev pub place_in : List WireBit → SigBit → Option ℕ
place_in bits (Fixed c) = None
place_in bits (OnWire b) = position (same_bit b) bits

-- the source is this bit or constant, where these are the tree bits
pub record IsSource (ps : List Place) (p : Path) (wires : List Wire) (bits : List WireBit) (source : Source) (s : SigBit) : Type 0 where
  pub from : IsPoint ps source.from (point p wires s)
  pub tree : source.tree ≡ place_in bits s

module _ (ps : List Place) (test : SwitchTest) (p : Path) (wires : List Wire) (bits : List WireBit) where
  -- what sources come to is what is put in the place of leaves
  pub record AreLeaves (leaf : Source → Pick) (f : SigBit → Decision) : Type 0 where
    pub are : (source : Source) (s : SigBit) → IsSource ps p wires bits source s → leaf source ≡ pick_of test p wires (f s)

  -- a decision in a module with these wires at this path, with each leaf replaced
  abbrev pub picked : (SigBit → Decision) → Decision → Pick
  picked f d = pick_of test p wires (with_leaves f d)

  -- a fact for each of the bits and its place, whatever sources come to
  abbrev pub EachBit : ((Source → Pick) → (SigBit → Decision) → ℕ → WireBit → Type 0) → Type 0
  EachBit Fact =
      (leaf : Source → Pick) (f : SigBit → Decision) → AreLeaves leaf f → (at : ℕ) (b : WireBit) → slice_get bits at ≡ Some b → Fact leaf f at b

  -- assigns are these places
  pub record AreAssigns (assigns : List Assign) (js : List Join) : Type 0 where
    pub are : EachBit (λ leaf f at b. (d : Decision) → assigned_pick leaf at assigns (picked f d) ≡ picked f (after_joins js b d))
    pub within : AllByRecursion (IsAssignWithin (length ps) (length bits)) assigns

  -- a branch does what a case does
  pub record IsBranch (branch : BranchView) (c : CaseView) : Type 0 where
    pub is :
        EachBit (λ leaf f at b. (d : Decision) →
        branch_pick ps leaf at branch (picked f d) ≡ picked f (after_switches b c.switches (after_assigns c.assigns b d)))
    pub within : IsBranchWithin (length ps) (length bits) branch

  -- a branch is a case with these patterns
  pub record IsBranchAt (patterns : List (List SigBit)) (branch : BranchView) (c : CaseView) : Type 0 where
    pub patterns_are : AreSignals ps p wires branch.patterns patterns
    pub branch_is : IsBranch branch c

  -- branches are these cases
  pub record AreBranches (branches : List BranchView) (cases : List CaseView) : Type 0 where
    pub are :
        EachBit (λ leaf f at b. (reset : Option Bool) (signal : List SigBit) (d : Decision) (last : Pick) →
        branches_pick ps leaf at reset (points p wires signal) (choices.branches_of branches) (picked f d) last
        ≡ picks_of test p wires reset signal (branches_with_leaves f (branches_of b (cases_of cases) d)) last)
    pub within : AreBranchesWithin (length ps) (length bits) (choices.branches_of branches)

  -- a choice is a switch
  pub record IsChoice (choice : ChoiceView) (s : SwitchView) : Type 0 where
    pub is :
        EachBit (λ leaf f at b. (d : Decision) →
        branches_pick ps leaf at choice.test (points_of ps choice.signal) choice.branches (picked f d) (picked f d)
        ≡ picked f (Chosen s.signal (branches_of b s.cases d) d))
    pub signal_within : ArePointsWithin (length ps) choice.signal
    pub within : AreBranchesWithin (length ps) (length bits) choice.branches

  -- choices are these switches
  pub record AreChoices (choices : List ChoiceView) (switches : List SwitchView) : Type 0 where
    pub are :
        EachBit (λ leaf f at b. (d : Decision) →
        choices_pick ps leaf at (choices_of choices) (picked f d) ≡ picked f (after_switches b (switches_of switches) d))
    pub within : AreChoicesWithin (length ps) (length bits) (choices_of choices)

module _ (ps : List Place) (p : Path) (wires : List Wire) (bits : List WireBit) where
  -- a bit that a tree drives is this one, at its place among them
  pub record IsOutput (o : Output) (b : WireBit) : Type 0 where
    pub number : slice_get ps o.number ≡ Some (bit_place p wires b)
    pub at : slice_get bits o.at ≡ Some b

  -- the bits that a tree drives are these
  abbrev pub AreOutputs : List Output → List WireBit → Type 0
  AreOutputs [] [] = Unit {0}
  AreOutputs [] (b ∷ bs) = ⊥
  AreOutputs (o ∷ outputs) [] = ⊥
  AreOutputs (o ∷ outputs) (b ∷ bs) = IsOutput o b × AreOutputs outputs bs

-- the tree is these rows of numbered bits
pub record IsTree (ps : List Place) (t : Tree) (rows : List Driven) : Type 0 where
  pub are : map (tree_row ps t.root) t.outputs ≡ rows
  pub within : IsTreeWithin (length ps) t
