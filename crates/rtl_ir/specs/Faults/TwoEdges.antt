-- Processes with two edges: one of the event bits is the reset.
use Rattle.std.specs.Prelude.{Bool, true, false, ◌&&◌, ◌||◌, List, [], ◌∷◌, ◌++◌, Option, Some, None, if◌then◌else◌}
use Rattle.std.specs.List.{list_any, list_all}
use Rattle.std.specs.Option.{is_some}
use Rattle.rtl_bits.specs.declared.bit.Bit.{Bit}
use Rattle.rtl_bits.specs.declared.bit.Bit.TheVariants.{S0, S1}
use Rattle.rtl_sig.specs.declared.sig.SigBit.{SigBit}
use Rattle.rtl_sig.specs.declared.sig.SigBit.TheVariants as sig
use Rattle.rtl_sig.specs.declared.sig.WireBit.{WireBit}
use Rattle.rtl_ir.specs.declared.module.Module.{Module}
use Rattle.rtl_ir.specs.declared.process.Event.{Event}
use Rattle.rtl_ir.specs.declared.process.Event.TheVariants.{Posedge, Negedge}
use Rattle.rtl_ir.specs.declared.process.SyncRule.{SyncRule}
use Rattle.rtl_ir.specs.Decisions.{Decision, Leaf, Choice, Branches, NoBranch, OneBranch, expanded, leaves_of}
use Rattle.rtl_ir.specs.EventTests.{differs, is_bit, switch_test}
use Rattle.rtl_ir.specs.Follow.{all_joins}
use Rattle.rtl_ir.specs.declared.follow.Join.{Join}
use Rattle.rtl_ir.specs.SwitchRules.{matches_bit}
use Rattle.rtl_ir.specs.Tree.{Switches, NoSwitch, OneSwitch, Cases, NoCase, OneCase, CaseView}
use Rattle.rtl_ir.specs.Types.{Ports}
use Rattle.rtl_ir.specs.Signals.{same_value}

-- a test of a switch's signal and patterns
abbrev pub SwitchTest : Type 0
SwitchTest = List SigBit → List (List SigBit) → Option Bool

-- the patterns of the cases, in order
abbrev pub cases_patterns : Cases → List (List SigBit)
cases_patterns NoCase = []
cases_patterns (OneCase patterns assigns attributes switches rest) = patterns ++ cases_patterns rest

abbrev mutual
  -- one of these switches tests, or one below them
  pub switches_test : SwitchTest → Switches → Bool
  switches_test test NoSwitch = false
  switches_test test (OneSwitch signal attributes cases rest) =
      is_some (test signal (cases_patterns cases)) || cases_test test cases || switches_test test rest

  -- a switch in these cases tests
  pub cases_test : SwitchTest → Cases → Bool
  cases_test test NoCase = false
  cases_test test (OneCase patterns assigns attributes switches rest) = switches_test test switches || cases_test test rest

-- the patterns of the branches, in order
abbrev pub branch_patterns : Branches → List (List SigBit)
branch_patterns NoBranch = []
branch_patterns (OneBranch patterns value rest) = patterns ++ branch_patterns rest

-- a pattern of one place matches a known bit
abbrev pub takes_bit : Bit → List SigBit → Bool
takes_bit bit (p ∷ []) = matches_bit (p, bit)
takes_bit bit pattern = false

-- the value of the first branch that a known bit takes: a default, or one with a pattern that matches
abbrev pub taken : Bit → Branches → Decision → Decision
taken bit NoBranch last = last
taken bit (OneBranch [] value rest) last = value
taken bit (OneBranch (p ∷ ps) value rest) last = if list_any (takes_bit bit) (p ∷ ps) then value else taken bit rest last

-- the bit that a test has where the tested bit has a level
abbrev pub tested_bit : Bool → Bool → Bit
tested_bit level inverse = if differs level inverse then S1 else S0

-- a choice that tests a bit of this level is decided; any other stays
abbrev pub decide : Bool → Option Bool → List SigBit → Branches → Decision → Decision
decide level None signal branches last = Choice signal branches last
decide level (Some inverse) signal branches last = taken (tested_bit level inverse) branches last

abbrev mutual
  -- the decision with each choice decided that tests a bit of this level
  pub decided : SwitchTest → Bool → Decision → Decision
  decided test level (Leaf s) = Leaf s
  decided test level (Choice signal branches last) =
      decide level (test signal (branch_patterns branches)) signal (branches_decided test level branches) (decided test level last)

  -- the same of the values of branches
  pub branches_decided : SwitchTest → Bool → Branches → Branches
  branches_decided test level NoBranch = NoBranch
  branches_decided test level (OneBranch patterns value rest) =
      OneBranch patterns (decided test level value) (branches_decided test level rest)

-- a place is this constant
abbrev pub is_value : Bit → SigBit → Bool
is_value c (sig.Fixed d) = same_value c d
is_value c (sig.Wire b) = false

-- the leaves are all one constant
abbrev pub are_one_constant : List SigBit → Bool
are_one_constant [] = false
are_one_constant (sig.Fixed c ∷ leaves) = list_all (is_value c) leaves
are_one_constant (sig.Wire b ∷ leaves) = false

-- the leaves are all this bit
abbrev pub are_all : WireBit → List SigBit → Bool
are_all q leaves = list_all (is_bit q) leaves

-- the bit of an edge, and the level after it
pub record EdgeBit : Type 0 where
  pub bit : WireBit
  pub level : Bool

abbrev pub edge_bit : Event → Option EdgeBit
edge_bit (Posedge (sig.Wire b ∷ [])) = Some (record { bit = b; level = true })
edge_bit (Negedge (sig.Wire b ∷ [])) = Some (record { bit = b; level = false })
edge_bit event = None

-- with the reset active a bit gets one constant, or keeps its value
abbrev pub resets_bit : Ports → Module → CaseView → List WireBit → EdgeBit → Join → Bool
resets_bit ports m root bits reset j =
    let leaves = leaves_of (decided (switch_test ports m reset.bit) reset.level (expanded root bits j.source)) in
    are_one_constant leaves || are_all j.bit leaves

-- the reset gives each updated bit a constant, or leaves it
abbrev pub resets_well : Ports → Module → CaseView → List WireBit → List Join → EdgeBit → Bool
resets_well ports m root bits updates reset = list_all (resets_bit ports m root bits reset) updates

-- a switch of the process tests the bit
abbrev pub is_tested : Ports → Module → CaseView → EdgeBit → Bool
is_tested ports m root e = switches_test (switch_test ports m e.bit) root.switches

-- just one of the two bits is tested, and it resets well
abbrev pub one_resets : Ports → Module → CaseView → List WireBit → List Join → EdgeBit → EdgeBit → Bool
one_resets ports m root bits updates a b =
    let a_tested = is_tested ports m root a in
    let b_tested = is_tested ports m root b in
    differs a_tested b_tested && resets_well ports m root bits updates (if a_tested then a else b)

-- the same of two events that may have bits
abbrev pub events_reset : Ports → Module → CaseView → List WireBit → List Join → Option EdgeBit → Option EdgeBit → Bool
events_reset ports m root bits updates (Some a) (Some b) = one_resets ports m root bits updates a b
events_reset ports m root bits updates a b = true

-- where a process has two edges, one of them is a reset. The root's switches are read by the rules
abbrev pub two_edges_stand : Ports → Module → CaseView → List WireBit → List SyncRule → Bool
two_edges_stand ports m root bits (a ∷ b ∷ []) =
    events_reset ports m root bits (all_joins a.updates) (edge_bit a.event) (edge_bit b.event)
two_edges_stand ports m root bits rules = true
