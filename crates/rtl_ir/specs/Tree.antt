-- Trees of decisions, as contracts see them: lists of switches and lists of cases that hold one another.
use Rattle.std.specs.Prelude.{ℕ, ◌+◌, max, List, [], ◌∷◌}
use Rattle.rtl_sig.specs.declared.sig.SigBit.{SigBit}
use Rattle.rtl_ir.specs.declared.value.Attribute.{Attribute}
use Rattle.rtl_ir.specs.declared.module.Link.{Link}

mutual
  -- the switches of a case in order: none, or the first one, which is its signal, attributes and cases, and the rest
  pub data Switches : Type 0 where
    NoSwitch : Switches
    OneSwitch : List SigBit → List Attribute → Cases → Switches → Switches

  -- the cases of a switch in order: none, or the first one, which is its patterns, assigns, attributes and switches, and the rest
  pub data Cases : Type 0 where
    NoCase : Cases
    OneCase : List (List SigBit) → List Link → List Attribute → Switches → Cases → Cases

-- a case
pub record CaseView : Type 0 where
  pub patterns : List (List SigBit)
  pub assigns : List Link
  pub switches : Switches
  pub attributes : List Attribute

-- a switch
pub record SwitchView : Type 0 where
  pub signal : List SigBit
  pub cases : Cases
  pub attributes : List Attribute

-- these switches, in order
abbrev pub switches_of : List SwitchView → Switches
switches_of [] = NoSwitch
switches_of (s ∷ rest) = OneSwitch s.signal s.attributes s.cases (switches_of rest)

-- these cases, in order
abbrev pub cases_of : List CaseView → Cases
cases_of [] = NoCase
cases_of (c ∷ rest) = OneCase c.patterns c.assigns c.attributes c.switches (cases_of rest)

abbrev mutual
  -- how many switches and cases stand in one another below these switches, at most
  pub switches_depth : Switches → ℕ
  switches_depth NoSwitch = 0
  switches_depth (OneSwitch signal attributes cases rest) = max (cases_depth cases + 1) (switches_depth rest)

  -- how many switches and cases stand in one another below these cases, at most
  pub cases_depth : Cases → ℕ
  cases_depth NoCase = 0
  cases_depth (OneCase patterns assigns attributes switches rest) = max (switches_depth switches + 1) (cases_depth rest)

-- how deep the decisions of a case go
abbrev pub case_depth : CaseView → ℕ
case_depth c = switches_depth c.switches

-- how deep the decisions of a switch go
abbrev pub switch_depth : SwitchView → ℕ
switch_depth s = cases_depth s.cases
