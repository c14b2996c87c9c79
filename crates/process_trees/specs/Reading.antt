-- How the cases of a switch are read by the rules, one after another.
use Rattle.std.specs.Prelude.{List, [], ◌∷◌, ◌++◌, filter, if◌then◌else◌}
use Rattle.rtl_sig.specs.declared.sig.SigBit.{SigBit}
use Rattle.rtl_ir.specs.Signals.{is_all_constant}
use Rattle.rtl_ir.specs.SwitchRules.{cases_by_rules, is_dropped, patterns_left, switches_by_rules, takes_the_rest, with_pattern}
use Rattle.rtl_ir.specs.Tree.{CaseView, SwitchView, Switches, OneSwitch, Cases, OneCase}
use Rattle.process_trees.specs.declared.reading.Reading.{Reading}
use Rattle.process_trees.specs.declared.reading.Reading.TheVariants.{Dropped, Kept, Last}

-- the patterns of constants up to a case
abbrev pub constants_after : List SigBit → List (List SigBit) → List (List SigBit) → List (List SigBit)
constants_after signal earlier patterns = earlier ++ filter is_all_constant (patterns_left signal earlier patterns)

-- the patterns of constants with one more, where it is one and is not dropped
abbrev pub constants_with : List SigBit → List (List SigBit) → List SigBit → List (List SigBit)
constants_with signal earlier p = if is_dropped signal earlier p then earlier else with_pattern earlier p

-- the patterns that are left with one more, where it is not dropped
abbrev pub left_with : List SigBit → List (List SigBit) → List SigBit → List (List SigBit) → List (List SigBit)
left_with signal earlier p left = if is_dropped signal earlier p then left else left ++ p ∷ []

-- how a case is read of which these patterns are left
abbrev pub reading_left : List SigBit → List (List SigBit) → List (List SigBit) → Reading
reading_left signal [] constants = Dropped
reading_left signal (p ∷ ps) constants = if takes_the_rest signal (p ∷ ps) constants then Last else Kept (p ∷ ps)

-- how a case is read behind these patterns of constants: a default is the last
abbrev pub reading_of : List SigBit → List (List SigBit) → List (List SigBit) → Reading
reading_of signal earlier [] = Last
reading_of signal earlier (p ∷ ps) = reading_left signal (patterns_left signal earlier (p ∷ ps)) (constants_after signal earlier (p ∷ ps))

-- a case with these patterns, its own switches by the rules
abbrev pub ruled_case : List (List SigBit) → CaseView → CaseView
ruled_case patterns c = record c { patterns = patterns; switches = switches_by_rules c.switches }

-- a switch by the rules
abbrev pub ruled_switch : SwitchView → SwitchView
ruled_switch s = record s { cases = cases_by_rules s.signal [] s.cases }

-- these cases, and others behind them
abbrev pub cases_before : List CaseView → Cases → Cases
cases_before [] rest = rest
cases_before (c ∷ cs) rest = OneCase c.patterns c.assigns c.attributes c.switches (cases_before cs rest)

-- these switches, and others behind them
abbrev pub switches_before : List SwitchView → Switches → Switches
switches_before [] rest = rest
switches_before (s ∷ ss) rest = OneSwitch s.signal s.attributes s.cases (switches_before ss rest)
