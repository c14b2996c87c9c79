-- The rules by which a switch is read.
use Rattle.std.specs.Prelude.{ℕ, ◌^◌, Bool, true, false, not, ◌&&◌, ◌||◌, nat_le, List, [], ◌∷◌, ◌++◌, length, filter, zip, if◌then◌else◌}
use Rattle.std.specs.List.{list_any, list_all, range_with_len}
use Rattle.rtl_bits.specs.declared.bit.Bit.{Bit}
use Rattle.rtl_bits.specs.declared.bit.Bit.TheVariants.{S0, S1}
use Rattle.rtl_bits.specs.Knowledge.{is_known}
use Rattle.rtl_bits.specs.Numbers.{bits_of}
use Rattle.rtl_sig.specs.declared.sig.SigBit.{SigBit}
use Rattle.rtl_sig.specs.declared.sig.SigBit.TheVariants as sig
use Rattle.rtl_ir.specs.Signals.{is_all_constant}
use Rattle.rtl_ir.specs.Tree.{Switches, NoSwitch, OneSwitch, Cases, NoCase, OneCase, CaseView}

-- one is 0 and the other 1
abbrev pub differ : Bit → Bit → Bool
differ S0 S1 = true
differ S1 S0 = true
differ a b = false

-- both are 0, or both are 1
abbrev pub agree : Bit → Bit → Bool
agree S0 S0 = true
agree S1 S1 = true
agree a b = false

-- a known constant of the pattern faces a different known constant
abbrev pub is_refused : SigBit × SigBit → Bool
is_refused (sig.Fixed p, sig.Fixed s) = differ p s
is_refused (p, s) = false

-- the pattern never matches the signal
abbrev pub never_matches : List SigBit → List SigBit → Bool
never_matches pattern signal = list_any is_refused (zip pattern signal)

-- a place of a pattern asks no less than the place of an earlier one: what is known there is known here and equal
abbrev pub asks_as_much : SigBit × SigBit → Bool
asks_as_much (sig.Fixed e, sig.Fixed p) = not (is_known e) || agree e p
asks_as_much (e, p) = false

-- an earlier pattern of constants matches whatever the pattern does
abbrev pub is_covered_by : List SigBit → List SigBit → Bool
is_covered_by pattern earlier = list_all asks_as_much (zip earlier pattern)

-- a pattern is dropped where it never matches, or where it is of constants and an earlier such pattern covers it
abbrev pub is_dropped : List SigBit → List (List SigBit) → List SigBit → Bool
is_dropped signal earlier pattern =
    never_matches pattern signal || (is_all_constant pattern && list_any (is_covered_by pattern) earlier)

-- the patterns of constants seen so far, with this one where it is one
abbrev pub with_pattern : List (List SigBit) → List SigBit → List (List SigBit)
with_pattern earlier pattern = if is_all_constant pattern then earlier ++ pattern ∷ [] else earlier

-- the patterns of a case that are left
abbrev pub patterns_left : List SigBit → List (List SigBit) → List (List SigBit) → List (List SigBit)
patterns_left signal earlier [] = []
patterns_left signal earlier (p ∷ ps) =
    if is_dropped signal earlier p
    then patterns_left signal earlier ps
    else p ∷ patterns_left signal (with_pattern earlier p) ps

-- a place of the pattern matches whatever the signal has there
abbrev pub matches_place : SigBit × SigBit → Bool
matches_place (sig.Fixed p, sig.Fixed s) = not (is_known p) || agree p s
matches_place (sig.Fixed p, sig.Wire s) = not (is_known p)
matches_place (sig.Wire p, s) = false

-- the pattern always matches the signal
abbrev pub always_matches : List SigBit → List SigBit → Bool
always_matches signal pattern = list_all matches_place (zip pattern signal)

-- a place of a pattern of constants matches a known bit
abbrev pub matches_bit : SigBit × Bit → Bool
matches_bit (sig.Fixed p, b) = not (differ p b)
matches_bit (sig.Wire p, b) = false

-- a pattern of constants matches the value of a number
abbrev pub matches_number : ℕ → ℕ → List SigBit → Bool
matches_number width number pattern = list_all matches_bit (zip pattern (bits_of number width))

-- the signal has at most 8 bits, and each of its values matches one of the patterns of constants
abbrev pub match_every_value : List SigBit → List (List SigBit) → Bool
match_every_value signal patterns =
    nat_le (length signal) 8
    && list_all (λ number. list_any (matches_number (length signal) number) patterns) (range_with_len 0 (2 ^ length signal))

-- the case takes whatever reaches it: one of its patterns always matches, or no value is left by the patterns up to it
abbrev pub takes_the_rest : List SigBit → List (List SigBit) → List (List SigBit) → Bool
takes_the_rest signal patterns constants =
    list_any (always_matches signal) patterns || match_every_value signal constants

-- what a case becomes, with the cases behind it: it goes where no pattern is left, is a default where it takes the rest
abbrev pub kept_case : List SigBit → List (List SigBit) → List (List SigBit) → (List (List SigBit) → Cases → Cases) → Cases → Cases
kept_case signal [] constants case rest = rest
kept_case signal (p ∷ ps) constants case rest =
    if takes_the_rest signal (p ∷ ps) constants then case [] NoCase else case (p ∷ ps) rest

abbrev mutual
  -- the switches by the rules
  pub switches_by_rules : Switches → Switches
  switches_by_rules NoSwitch = NoSwitch
  switches_by_rules (OneSwitch signal attributes cases rest) =
      OneSwitch signal attributes (cases_by_rules signal [] cases) (switches_by_rules rest)

  -- the cases of a switch on a signal by the rules, behind these patterns of constants; a default ends them
  pub cases_by_rules : List SigBit → List (List SigBit) → Cases → Cases
  cases_by_rules signal earlier NoCase = NoCase
  cases_by_rules signal earlier (OneCase [] assigns attributes switches rest) =
      OneCase [] assigns attributes (switches_by_rules switches) NoCase
  cases_by_rules signal earlier (OneCase (p ∷ ps) assigns attributes switches rest) =
      let patterns = patterns_left signal earlier (p ∷ ps) in
      let constants = earlier ++ filter is_all_constant patterns in
      let switches' = switches_by_rules switches in
      let rest' = cases_by_rules signal constants rest in
      kept_case signal patterns constants (λ left behind. OneCase left assigns attributes switches' behind) rest'

-- the root of a process by the rules
abbrev pub root_by_rules : CaseView → CaseView
root_by_rules root = record root { switches = switches_by_rules root.switches }
