-- Which cases of a switch act, by the rules by which it is read.
use Rattle.std.specs.Prelude.{true, ◌||◌, List, [], ◌∷◌, ◌++◌, filter, if◌then◌else◌}
use Rattle.std.specs.List.{list_any}
use Rattle.rtl_sig.specs.declared.sig.SigBit.{SigBit}
use Rattle.rtl_ir.specs.Rules.{has_item}
use Rattle.rtl_ir.specs.Signals.{is_all_constant}
use Rattle.rtl_ir.specs.SwitchRules.{always_matches, is_dropped, patterns_left, takes_the_rest, with_pattern}
use Rattle.net_index.specs.declared.driver_rules.Left.{Left}
use Rattle.net_index.specs.declared.driver_rules.Reading.{Reading}
use Rattle.net_index.specs.declared.driver_rules.Reading.TheVariants.{Dropped, Kept, Last}

-- the patterns of constants up to a case
abbrev pub constants_after : List SigBit → List (List SigBit) → List (List SigBit) → List (List SigBit)
constants_after signal earlier patterns = earlier ++ filter is_all_constant (patterns_left signal earlier patterns)

-- whether any patterns are left, and whether one of them always matches
abbrev pub left_of : List SigBit → List (List SigBit) → Left
left_of signal patterns = record { any = has_item patterns; sure = list_any (always_matches signal) patterns }

-- the same with one more pattern
abbrev pub left_after : List SigBit → List (List SigBit) → List SigBit → Left → Left
left_after signal earlier p left = if is_dropped signal earlier p then left else record { any = true; sure = left.sure || always_matches signal p }

-- the patterns of constants with one more, where it is one and is not dropped
abbrev pub pattern_kept : List SigBit → List (List SigBit) → List SigBit → List (List SigBit)
pattern_kept signal earlier p = if is_dropped signal earlier p then earlier else with_pattern earlier p

-- how a case is read of which these patterns are left
abbrev pub reading_left : List SigBit → List (List SigBit) → List (List SigBit) → Reading
reading_left signal [] constants = Dropped
reading_left signal (p ∷ ps) constants = if takes_the_rest signal (p ∷ ps) constants then Last else Kept

-- how a case is read behind these patterns of constants: a default is the last
abbrev pub reading_of : List SigBit → List (List SigBit) → List (List SigBit) → Reading
reading_of signal earlier [] = Last
reading_of signal earlier (p ∷ ps) = reading_left signal (patterns_left signal earlier (p ∷ ps)) (constants_after signal earlier (p ∷ ps))
