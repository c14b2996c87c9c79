-- Switches that test an event bit, one by one.
use Rattle.std.specs.Prelude.{Bool, ◌||◌, List, [], ◌∷◌, Option, Some, None, if◌then◌else◌}
use Rattle.std.specs.Option.{is_some}
use Rattle.rtl_sig.specs.declared.sig.SigBit.{SigBit}
use Rattle.rtl_ir.specs.Faults.TwoEdges.{SwitchTest, cases_patterns, cases_test}
use Rattle.rtl_ir.specs.Tree.{SwitchView}

-- a switch tests, or one below it
abbrev pub switch_tests : SwitchTest → SwitchView → Bool
switch_tests test s = is_some (test s.signal (cases_patterns s.cases)) || cases_test test s.cases

-- the inverse that is given, where a bit is met
abbrev pub met : Bool → Bool → Option Bool
met meets inverse = if meets then Some inverse else None

-- the place of a signal of one bit
abbrev pub only_place : List SigBit → Option SigBit
only_place (s ∷ []) = Some s
only_place signal = None
