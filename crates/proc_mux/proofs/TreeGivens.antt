-- What the assigns of each case give a run, by the numbers of the cases.
use Rattle.std.specs.Prelude.{ℕ, ◌+◌, List, [], ◌∷◌, ◌++◌, if◌then◌else◌}
use Rattle.rtl_sig.specs.declared.sig.WireBit.{WireBit}
use Rattle.rtl_ir.specs.declared.module.Link.{Link}
use Rattle.rtl_ir.specs.Tree.{Switches, NoSwitch, OneSwitch, Cases, NoCase, OneCase, CaseView}
use Rattle.net_model.specs.Proc.Mux.{assigns_run, run_value}
use Rattle.match_cells.specs.Numbers.{behind_case, behind_switch}
use Rattle.proc_mux.specs.Givens.{unknowns}
use Rattle.proc_mux.specs.declared.given.Given.{Given}

-- what these assigns of the case at a node give a run, where they assign it
abbrev pub own_given : List WireBit → ℕ → List Link → List Given
own_given run n assigns =
    if assigns_run assigns run then record { node = n; value = run_value assigns run (unknowns run) } ∷ [] else []

abbrev mutual
  -- of the cases below these switches, the first of which has this number
  pub switches_given : List WireBit → ℕ → Switches → List Given
  switches_given run n NoSwitch = []
  switches_given run n (OneSwitch signal attributes cases rest) =
      cases_given run (n + 1) cases ++ switches_given run (behind_switch n cases) rest

  -- of these cases and those below them
  pub cases_given : List WireBit → ℕ → Cases → List Given
  cases_given run n NoCase = []
  cases_given run n (OneCase patterns assigns attributes switches rest) =
      own_given run n assigns ++ switches_given run (n + 1) switches ++ cases_given run (behind_case n switches) rest

-- of a case and those below it
abbrev pub case_given : List WireBit → ℕ → CaseView → List Given
case_given run n c = own_given run n c.assigns ++ switches_given run (n + 1) c.switches
