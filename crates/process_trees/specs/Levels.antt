-- Trees in which each switch that tests a bit is decided by a level of the bit.
use Rattle.std.specs.Prelude.{Bool, List, Option}
use Rattle.rtl_sig.specs.declared.sig.SigBit.{SigBit}
use Rattle.rtl_ir.specs.Faults.TwoEdges.{SwitchTest, cases_patterns}
use Rattle.rtl_ir.specs.Tree.{CaseView, SwitchView}
use Rattle.net_model.specs.Proc.Reset.{cases_at, switches_at}

-- a case with these patterns, its switches decided
abbrev pub case_at : SwitchTest → Bool → List (List SigBit) → CaseView → CaseView
case_at test level patterns c = record c { patterns = patterns; switches = switches_at test level c.switches }

-- a case, its switches decided
abbrev pub open_case : SwitchTest → Bool → CaseView → CaseView
open_case test level c = case_at test level c.patterns c

-- a switch by whether it tests
abbrev pub switch_by : SwitchTest → Bool → Option Bool → SwitchView → SwitchView
switch_by test level inverse s = record s { cases = cases_at test level inverse s.cases }

-- a switch, decided where it tests
abbrev pub switch_at : SwitchTest → Bool → SwitchView → SwitchView
switch_at test level s = switch_by test level (test s.signal (cases_patterns s.cases)) s
