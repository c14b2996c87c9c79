-- The multiplexers of a run, over a tree whose nodes are known by numbers: what the assigns of a case give the run, and the
-- match that is made for a case, are found by the number of the case.
use Rattle.std.specs.Prelude.{ℕ, ◌+◌, ◌==◌, ◌&&◌, nat_le, nat_lt, Bool, List, [], ◌∷◌, Option, Some, None, if◌then◌else◌, unwrap_or, map}
use Rattle.std.specs.List.{list_any}
use Rattle.rtl_sig.specs.declared.sig.SigBit.{SigBit}
use Rattle.rtl_sig.specs.declared.sig.SigBit.TheVariants.{Wire as OnWire}
use Rattle.rtl_sig.specs.declared.sig.WireBit.{WireBit}
use Rattle.rtl_ir.specs.Build.{new_link}
use Rattle.rtl_ir.specs.Tree.{Switches, NoSwitch, OneSwitch, Cases, NoCase, OneCase, CaseView}
use Rattle.match_cells.specs.Numbers.{behind_case, behind_switch}
use Rattle.match_cells.specs.Trees.{Numbered, with_case}
use Rattle.proc_mux.specs.Givens.{unknowns}
use Rattle.proc_mux.specs.Rows.{tree_given}
use Rattle.proc_mux.specs.declared.given.Given.{Given}

-- what the assigns of the case at a node give, where it has assigns of the run
abbrev pub value_at : List Given → ℕ → Option (List SigBit)
value_at [] n = None
value_at (g ∷ given) n = if g.node == n then Some g.value else value_at given n

-- one of these nodes stands from one number on and before another
abbrev pub has_between : List Given → ℕ → ℕ → Bool
has_between given low high = list_any (λ (g : Given). nat_le low g.node && nat_lt g.node high) given

unfoldable mutual
  -- these switches, the first of which is the node of this number, act in order on the value of a run
  pub switches_value : List Given → ℕ → Switches → List SigBit → Numbered → List SigBit × Numbered
  switches_value given n NoSwitch prior t = (prior, t)
  switches_value given n (OneSwitch signal attributes cases rest) prior t =
      let value =
      if has_between given n (behind_switch n cases)
      then cases_value given (n + 1) signal cases prior t
      else (prior, t) in
      switches_value given (behind_switch n cases) rest value.0 value.1

  -- these cases of a switch, the last one first, over the value before the switch
  pub cases_value : List Given → ℕ → List SigBit → Cases → List SigBit → Numbered → List SigBit × Numbered
  cases_value given n signal NoCase prior t = (prior, t)
  cases_value given n signal (OneCase patterns assigns attributes switches rest) prior t =
      let acc = cases_value given (behind_case n switches) signal rest prior t in
      let body = switches_value given (n + 1) switches (unwrap_or (value_at given n) prior) acc.1 in
      with_case n signal patterns body.0 acc.0 body.1

-- a switch acts on the value of a run where it assigns the run
abbrev pub switch_value : List Given → ℕ → List SigBit → Cases → List SigBit → Numbered → List SigBit × Numbered
switch_value given n signal cases prior t =
    if has_between given n (behind_switch n cases) then cases_value given (n + 1) signal cases prior t else (prior, t)

-- a case acts on what stands for the cases behind it
abbrev pub case_value : List Given → ℕ → List SigBit → List (List SigBit) → Switches → List SigBit → List SigBit → Numbered → List SigBit × Numbered
case_value given n signal patterns switches prior acc t =
    let body = switches_value given (n + 1) switches (unwrap_or (value_at given n) prior) t in
    with_case n signal patterns body.0 acc body.1

-- a run is connected to what the root case makes of x
unfoldable pub run_step : CaseView → List WireBit → Numbered → Numbered
run_step root run t =
    let given = tree_given root run in
    let start = unwrap_or (value_at given 0) (unknowns run) in
    let value = switches_value given 1 root.switches start t in
    record { building = new_link (map OnWire run) value.0 value.1.building; made = value.1.made }

-- the runs in order
abbrev pub runs_step : CaseView → List (List WireBit) → Numbered → Numbered
runs_step root [] t = t
runs_step root (run ∷ runs) t = runs_step root runs (run_step root run t)
