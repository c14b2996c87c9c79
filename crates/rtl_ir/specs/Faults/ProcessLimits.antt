-- What passes a limit, has uneven widths or gives to a constant in a process, in the records as they are written.
use Rattle.std.specs.Prelude.{ℕ, nat_lt, ◌==◌, Bool, false, not, ◌||◌, List, length, flat_map}
use Rattle.std.specs.List.{list_any}
use Rattle.rtl_sig.specs.declared.sig.SigBit.{SigBit}
use Rattle.rtl_ir.specs.declared.module.Link.{Link}
use Rattle.rtl_ir.specs.declared.process.Process.{Process}
use Rattle.rtl_ir.specs.declared.process.SyncRule.{SyncRule}
use Rattle.rtl_ir.specs.declared.process.WriteLine.{WriteLine}
use Rattle.rtl_ir.specs.Assigns.{case_assigns}
use Rattle.rtl_ir.specs.Faults.Links.{is_uneven}
use Rattle.rtl_ir.specs.Signals.{has_constant}
use Rattle.rtl_ir.specs.Tree.{Switches, NoSwitch, OneSwitch, Cases, NoCase, OneCase}

-- more than the limit of 4,096 bits of a switch signal or a written value, and of patterns of a case
abbrev pub passes_limit : {A : Type 0} → List A → Bool
passes_limit items = nat_lt 4096 (length items)

abbrev mutual
  -- a switch signal or the patterns of a case pass the limit below these switches
  pub switches_pass : Switches → Bool
  switches_pass NoSwitch = false
  switches_pass (OneSwitch signal attributes cases rest) = passes_limit signal || cases_pass cases || switches_pass rest

  pub cases_pass : Cases → Bool
  cases_pass NoCase = false
  cases_pass (OneCase patterns assigns attributes switches rest) =
      passes_limit patterns || switches_pass switches || cases_pass rest

abbrev mutual
  -- a pattern has another width than its switch's signal below these switches
  pub switches_uneven : Switches → Bool
  switches_uneven NoSwitch = false
  switches_uneven (OneSwitch signal attributes cases rest) = cases_uneven (length signal) cases || switches_uneven rest

  -- the same of the cases of a switch on a signal of this width
  pub cases_uneven : ℕ → Cases → Bool
  cases_uneven width NoCase = false
  cases_uneven width (OneCase patterns assigns attributes switches rest) =
      list_any (λ (pattern : List SigBit). not (length pattern == width)) patterns || switches_uneven switches || cases_uneven width rest

-- the lines that update, in order
abbrev pub update_lines : Process → List Link
update_lines p = flat_map (λ (r : SyncRule). r.updates) p.syncs

-- the lines that write, in order
abbrev pub memory_lines : Process → List WriteLine
memory_lines p = flat_map (λ (r : SyncRule). r.writes) p.syncs

-- a switch signal, the patterns of a case or a written value pass the limit
abbrev pub is_too_wide : Process → Bool
is_too_wide p =
    switches_pass p.root.switches || list_any (λ (l : WriteLine). passes_limit l.value) (memory_lines p)

-- a pattern, an assign, an update or the enable of a line that writes has uneven widths
abbrev pub has_uneven : Process → Bool
has_uneven p =
    switches_uneven p.root.switches
    || list_any is_uneven (case_assigns p.root)
    || list_any is_uneven (update_lines p)
    || list_any (λ (l : WriteLine). not (length l.enable == length l.value)) (memory_lines p)

-- an assign or an update gives to a constant
abbrev pub gives_to_constant : Process → Bool
gives_to_constant p =
    list_any (λ (l : Link). has_constant l.left) (case_assigns p.root)
    || list_any (λ (l : Link). has_constant l.left) (update_lines p)
