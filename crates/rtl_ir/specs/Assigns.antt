-- What the assigns of a process name and give.
use Rattle.std.specs.Prelude.{List, [], ◌∷◌, ◌++◌, Option, Some, None, if◌then◌else◌, flat_map}
use Rattle.std.specs.Option.{option_or}
use Rattle.rtl_sig.specs.declared.sig.SigBit.{SigBit}
use Rattle.rtl_sig.specs.declared.sig.WireBit.{WireBit}
use Rattle.rtl_ir.specs.declared.module.Link.{Link}
use Rattle.rtl_ir.specs.Follow.{all_joins}
use Rattle.rtl_ir.specs.declared.follow.Join.{Join}
use Rattle.rtl_ir.specs.Signals.{same_bit, has_bit, wire_bits}
use Rattle.rtl_ir.specs.SwitchRules.{root_by_rules}
use Rattle.rtl_ir.specs.Tree.{Switches, NoSwitch, OneSwitch, Cases, NoCase, OneCase, CaseView}

abbrev mutual
  -- the assigns below these switches
  pub switches_assigns : Switches → List Link
  switches_assigns NoSwitch = []
  switches_assigns (OneSwitch signal attributes cases rest) = cases_assigns cases ++ switches_assigns rest

  -- the assigns in these cases and below them
  pub cases_assigns : Cases → List Link
  cases_assigns NoCase = []
  cases_assigns (OneCase patterns assigns attributes switches rest) =
      assigns ++ switches_assigns switches ++ cases_assigns rest

-- the assigns in a case and below it
abbrev pub case_assigns : CaseView → List Link
case_assigns c = c.assigns ++ switches_assigns c.switches

-- the bits on the left sides of lines, in order
abbrev pub left_bits : List Link → List WireBit
left_bits lines = flat_map (λ (l : Link). wire_bits l.left) lines

-- the bits that the assigns in a case and below it name, in order
abbrev pub assigned_bits : CaseView → List WireBit
assigned_bits c = left_bits (case_assigns c)

-- the bits without those that come again later
abbrev pub each_once : List WireBit → List WireBit
each_once [] = []
each_once (b ∷ bits) = if has_bit bits b then each_once bits else b ∷ each_once bits

-- the tree bits of a process: the bits that the assigns name once the switches are read by the rules, each once
abbrev pub tree_bits : CaseView → List WireBit
tree_bits root = each_once (left_bits (case_assigns (root_by_rules root)))

-- what the last of these places gives to a bit
abbrev pub last_source : List Join → WireBit → Option SigBit
last_source [] b = None
last_source (j ∷ js) b = option_or (last_source js b) (if same_bit j.bit b then Some j.source else None)

-- what the last of these assigns of a bit gives it, of one line the highest place
abbrev pub assigned : List Link → WireBit → Option SigBit
assigned assigns b = last_source (all_joins assigns) b
