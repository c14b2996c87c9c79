-- The value of a bit as a tree of decisions, and its leaves.
use Rattle.std.specs.Prelude.{ℕ, zero, suc, List, [], ◌∷◌, ◌++◌, length, if◌then◌else◌}
use Rattle.rtl_bits.specs.declared.bit.Bit.TheVariants.{X}
use Rattle.rtl_sig.specs.declared.sig.SigBit.{SigBit}
use Rattle.rtl_sig.specs.declared.sig.SigBit.TheVariants as sig
use Rattle.rtl_sig.specs.declared.sig.WireBit.{WireBit}
use Rattle.std.specs.Option.{option_map_or}
use Rattle.rtl_ir.specs.declared.module.Link.{Link}
use Rattle.rtl_ir.specs.Assigns.{assigned}
use Rattle.rtl_ir.specs.Signals.{has_bit}
use Rattle.rtl_ir.specs.Tree.{Switches, NoSwitch, OneSwitch, Cases, NoCase, OneCase, CaseView}

mutual
  -- a bit or constant, or a choice of the first branch whose patterns match a signal, and of the last value where none does
  pub data Decision : Type 0 where
    Leaf : SigBit → Decision
    Choice : List SigBit → Branches → Decision → Decision

  -- the branches of a choice in order: none, or the patterns of the first one with its value, and the rest
  pub data Branches : Type 0 where
    NoBranch : Branches
    OneBranch : List (List SigBit) → Decision → Branches → Branches

-- what assigns make of an earlier value of a bit
abbrev pub after_assigns : List Link → WireBit → Decision → Decision
after_assigns assigns b earlier = option_map_or (λ s. Leaf s) (assigned assigns b) earlier

abbrev mutual
  -- what switches make of an earlier value of a bit: each in order acts on it
  pub after_switches : WireBit → Switches → Decision → Decision
  after_switches b NoSwitch earlier = earlier
  after_switches b (OneSwitch signal attributes cases rest) earlier =
      after_switches b rest (Choice signal (branches_of b cases earlier) earlier)

  -- what the cases of a switch make of an earlier value of a bit
  pub branches_of : WireBit → Cases → Decision → Branches
  branches_of b NoCase earlier = NoBranch
  branches_of b (OneCase patterns assigns attributes switches rest) earlier =
      OneBranch patterns (after_switches b switches (after_assigns assigns b earlier)) (branches_of b rest earlier)

-- what a case gives to a bit that is x before it: its last assign of the bit, and then each of its switches
abbrev pub case_decision : CaseView → WireBit → Decision
case_decision c b = after_switches b c.switches (after_assigns c.assigns b (Leaf (sig.Fixed X)))

abbrev mutual
  -- the decision with each leaf replaced
  pub with_leaves : (SigBit → Decision) → Decision → Decision
  with_leaves f (Leaf s) = f s
  with_leaves f (Choice signal branches last) = Choice signal (branches_with_leaves f branches) (with_leaves f last)

  -- the branches with each leaf replaced
  pub branches_with_leaves : (SigBit → Decision) → Branches → Branches
  branches_with_leaves f NoBranch = NoBranch
  branches_with_leaves f (OneBranch patterns value rest) = OneBranch patterns (with_leaves f value) (branches_with_leaves f rest)

-- a value expanded through the tree bits that these are, so many times one in another
abbrev pub expanded_within : CaseView → List WireBit → ℕ → SigBit → Decision
expanded_within root bits zero s = Leaf s
expanded_within root bits (suc n) (sig.Fixed c) = Leaf (sig.Fixed c)
expanded_within root bits (suc n) (sig.Wire b) =
    if has_bit bits b
    then with_leaves (expanded_within root bits n) (case_decision root b)
    else Leaf (sig.Wire b)

-- a value expanded through the tree bits of a root case whose switches are read by the rules; where no tree bit
-- depends on itself, none is left
abbrev pub expanded : CaseView → List WireBit → SigBit → Decision
expanded root bits s = expanded_within root bits (length bits) s

abbrev mutual
  -- the leaves of a decision
  pub leaves_of : Decision → List SigBit
  leaves_of (Leaf s) = s ∷ []
  leaves_of (Choice signal branches last) = leaves_before branches (leaves_of last)

  -- the leaves of branches, and those of the last value where no default stands before it
  pub leaves_before : Branches → List SigBit → List SigBit
  leaves_before NoBranch last = last
  leaves_before (OneBranch [] value rest) last = leaves_of value
  leaves_before (OneBranch (p ∷ ps) value rest) last = leaves_of value ++ leaves_before rest last
