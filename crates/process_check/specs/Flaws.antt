-- What may be wrong with the records of a process as they are written.
use Rattle.std.specs.Prelude.{ℕ, Bool, false, not, ◌||◌, ◌==◌, List, length}
use Rattle.std.specs.List.{list_any}
use Rattle.rtl_sig.specs.declared.sig.SigBit.{SigBit}
use Rattle.rtl_ir.specs.declared.module.Link.{Link}
use Rattle.rtl_ir.specs.declared.process.SyncRule.{SyncRule}
use Rattle.rtl_ir.specs.declared.process.WriteLine.{WriteLine}
use Rattle.rtl_ir.specs.Faults.Links.{is_uneven}
use Rattle.rtl_ir.specs.Faults.ProcessLimits.{passes_limit}
use Rattle.rtl_ir.specs.Signals.{has_constant}
use Rattle.rtl_ir.specs.Tree.{Switches, NoSwitch, OneSwitch, Cases, NoCase, OneCase, CaseView, SwitchView}
use Rattle.process_check.specs.declared.flaws.Flaw.{Flaw}
use Rattle.process_check.specs.declared.flaws.Flaw.TheVariants.{TooWide, Uneven, Constant}

-- a line that assigns or updates has it
abbrev pub line_has : Flaw → Link → Bool
line_has TooWide l = false
line_has Uneven l = is_uneven l
line_has Constant l = has_constant l.left

-- a line that writes has it
abbrev pub write_has : Flaw → WriteLine → Bool
write_has TooWide l = passes_limit l.value
write_has Uneven l = not (length l.enable == length l.value)
write_has Constant l = false

-- the signal of a switch has it
abbrev pub signal_has : Flaw → List SigBit → Bool
signal_has TooWide signal = passes_limit signal
signal_has Uneven signal = false
signal_has Constant signal = false

-- a pattern of another width than this
abbrev pub other_width : ℕ → List SigBit → Bool
other_width width pattern = not (length pattern == width)

-- the patterns of a case of a switch on a signal of this width have it
abbrev pub patterns_have : Flaw → ℕ → List (List SigBit) → Bool
patterns_have TooWide width patterns = passes_limit patterns
patterns_have Uneven width patterns = list_any (other_width width) patterns
patterns_have Constant width patterns = false

abbrev mutual
  -- one of these switches has it, or what stands below
  pub switches_have : Flaw → Switches → Bool
  switches_have flaw NoSwitch = false
  switches_have flaw (OneSwitch signal attributes cases rest) =
      (signal_has flaw signal || cases_have flaw (length signal) cases) || switches_have flaw rest

  -- one of these cases of a switch on a signal of this width has it, or what stands below
  pub cases_have : Flaw → ℕ → Cases → Bool
  cases_have flaw width NoCase = false
  cases_have flaw width (OneCase patterns assigns attributes switches rest) =
      (patterns_have flaw width patterns || (list_any (line_has flaw) assigns || switches_have flaw switches))
      || cases_have flaw width rest

-- a case has it, or what stands below; of its patterns nothing is said
abbrev pub case_has : Flaw → CaseView → Bool
case_has flaw c = list_any (line_has flaw) c.assigns || switches_have flaw c.switches

-- a switch has it, or what stands below
abbrev pub switch_has : Flaw → SwitchView → Bool
switch_has flaw s = signal_has flaw s.signal || cases_have flaw (length s.signal) s.cases

-- a line of a rule has it
abbrev pub rule_has : Flaw → SyncRule → Bool
rule_has flaw rule = list_any (line_has flaw) rule.updates || list_any (write_has flaw) rule.writes
