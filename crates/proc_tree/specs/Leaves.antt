-- The first leaf of what a tree gives.
use Rattle.std.specs.Prelude.{◌≡◌, List, [], ◌++◌, reverse}
use Rattle.rtl_bits.specs.declared.bit.Bit.{Bit}
use Rattle.rtl_bits.specs.declared.bit.Bit.TheVariants.{X}
use Rattle.rtl_sig.specs.declared.sig.SigBit.{SigBit}
use Rattle.rtl_sig.specs.declared.sig.SigBit.TheVariants.{Fixed, Wire as OnWire}
use Rattle.rtl_ir.specs.declared.module.Link.{Link}
use Rattle.rtl_ir.specs.declared.module.Module.{Module}
use Rattle.rtl_ir.specs.Assigns.{case_assigns, each_once, left_bits}
use Rattle.rtl_ir.specs.Decisions.{expanded, leaves_of}
use Rattle.rtl_ir.specs.Flat.Start.{first_constant}
use Rattle.rtl_ir.specs.Follow.{all_joins}
use Rattle.rtl_ir.specs.Tree.{Switches, NoSwitch, OneSwitch, Cases, NoCase, OneCase, CaseView, SwitchView}
use Rattle.rtl_ir.specs.Types.{Ports}
use Rattle.net_index.specs.Drivers.{AreDrivers}
use Rattle.proc_tree.specs.declared.leaves.Leaves.{Leaves}

abbrev mutual
  -- the assigns that act below these switches where each switch takes its first case
  pub switches_first : Switches → List Link
  switches_first NoSwitch = []
  switches_first (OneSwitch signal attributes cases rest) = cases_first cases ++ switches_first rest

  -- the same in the first of these cases and below it
  pub cases_first : Cases → List Link
  cases_first NoCase = []
  cases_first (OneCase patterns assigns attributes switches rest) = assigns ++ switches_first switches

-- the same in a case and below it
abbrev pub case_first : CaseView → List Link
case_first c = c.assigns ++ switches_first c.switches

-- the same below a switch
abbrev pub switch_first : SwitchView → List Link
switch_first s = cases_first s.cases

-- the constant, x for a bit of a wire
abbrev pub constant_or_x : SigBit → Bit
constant_or_x (Fixed b) = b
constant_or_x (OnWire b) = X

-- the constant that stands first among the leaves of a source, of a root case whose switches are read by the rules
abbrev pub first_start : CaseView → SigBit → Bit
first_start root s = first_constant (leaves_of (expanded root (each_once (left_bits (case_assigns root))) s))

-- the ways lead from the bits of the tree to their first leaves: along the assigns where each switch takes its first case, of
-- which the last one of a bit counts
abbrev pub AreLeaves : Leaves → CaseView → Type 0
AreLeaves leaves root =
    (ports : Ports) × (m : Module) × (AreDrivers leaves.ways ports m × (all_joins m.links ≡ reverse (all_joins (case_first root))))
