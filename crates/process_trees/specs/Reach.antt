-- The assigns that reach the end of a tree: what each bit may be given last.
use Rattle.std.specs.Prelude.{Bool, true, false, ◌&&◌, ◌||◌, List, [], ◌∷◌, ◌++◌, Option, Some, None, if◌then◌else◌}
use Rattle.rtl_bits.specs.declared.bit.Bit.TheVariants.{X}
use Rattle.rtl_sig.specs.declared.sig.SigBit.{SigBit}
use Rattle.rtl_sig.specs.declared.sig.SigBit.TheVariants.{Fixed}
use Rattle.rtl_sig.specs.declared.sig.WireBit.{WireBit}
use Rattle.rtl_ir.specs.Assigns.{assigned}
use Rattle.rtl_ir.specs.Tree.{Switches, NoSwitch, OneSwitch, Cases, NoCase, OneCase, CaseView, SwitchView}

-- what a part of a tree may give a bit last, and whether it may leave the bit the value of before
pub record Reach : Type 0 where
  pub sources : List SigBit
  pub keeps : Bool

-- a part that does not name the bit
abbrev pub untouched : Reach
untouched = record { sources = []; keeps = true }

-- assigns, by what the last of them gives
abbrev pub given_last : Option SigBit → Reach
given_last None = untouched
given_last (Some s) = record { sources = s ∷ []; keeps = false }

-- these sources, where something is left of a value
abbrev pub if_kept : Bool → List SigBit → List SigBit
if_kept keeps sources = if keeps then sources else []

-- a part that acts after another
abbrev pub after : Reach → Reach → Reach
after later earlier = record { sources = later.sources ++ if_kept later.keeps earlier.sources; keeps = later.keeps && earlier.keeps }

-- one part or another
abbrev pub either : Reach → Reach → Reach
either a b = record { sources = a.sources ++ b.sources; keeps = a.keeps || b.keeps }

abbrev mutual
  -- what switches may give a bit last, each acting after those before it
  pub reach_switches : WireBit → Switches → Reach
  reach_switches b NoSwitch = untouched
  reach_switches b (OneSwitch signal attributes cases rest) = after (reach_switches b rest) (reach_cases b cases)

  -- what the cases of a switch may give a bit last, up to the first default
  pub reach_cases : WireBit → Cases → Reach
  reach_cases b NoCase = untouched
  reach_cases b (OneCase [] assigns attributes switches rest) = after (reach_switches b switches) (given_last (assigned assigns b))
  reach_cases b (OneCase (p ∷ ps) assigns attributes switches rest) =
      either (after (reach_switches b switches) (given_last (assigned assigns b))) (reach_cases b rest)

-- what a case may give a bit last
abbrev pub reach_case : WireBit → CaseView → Reach
reach_case b c = after (reach_switches b c.switches) (given_last (assigned c.assigns b))

-- what a switch may give a bit last
abbrev pub reach_switch : WireBit → SwitchView → Reach
reach_switch b s = reach_cases b s.cases

-- what a bit may be given last by a root, before which it is x
abbrev pub reaching : CaseView → WireBit → List SigBit
reaching root b = (reach_case b root).sources ++ if_kept (reach_case b root).keeps (Fixed X ∷ [])
