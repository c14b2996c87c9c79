-- The nodes of a tree of decisions, switches and cases, by numbers: a node comes before the nodes below it, and these before
-- the nodes behind it. The root case is node 0.
use Rattle.std.specs.Prelude.{ℕ, ◌≡◌, ◌+◌, List, [], ◌∷◌, ◌++◌, slice_get, Some}
use Rattle.rtl_ir.specs.Tree.{Switches, NoSwitch, OneSwitch, Cases, NoCase, OneCase, CaseView, SwitchView}

abbrev mutual
  -- how many nodes these switches are
  pub switches_size : Switches → ℕ
  switches_size NoSwitch = 0
  switches_size (OneSwitch signal attributes cases rest) = cases_size cases + 1 + switches_size rest

  -- how many nodes these cases are
  pub cases_size : Cases → ℕ
  cases_size NoCase = 0
  cases_size (OneCase patterns assigns attributes switches rest) = switches_size switches + 1 + cases_size rest

-- the first node behind a switch with these cases
abbrev pub behind_switch : ℕ → Cases → ℕ
behind_switch n cases = n + (cases_size cases + 1)

-- the first node behind a case with these switches
abbrev pub behind_case : ℕ → Switches → ℕ
behind_case n switches = n + (switches_size switches + 1)

abbrev mutual
  -- of each node of these switches, the first of which has this number, the first node behind it
  pub switches_behind : ℕ → Switches → List ℕ
  switches_behind n NoSwitch = []
  switches_behind n (OneSwitch signal attributes cases rest) =
      behind_switch n cases ∷ (cases_behind (n + 1) cases ++ switches_behind (behind_switch n cases) rest)

  -- the same of cases
  pub cases_behind : ℕ → Cases → List ℕ
  cases_behind n NoCase = []
  cases_behind n (OneCase patterns assigns attributes switches rest) =
      behind_case n switches ∷ (switches_behind (n + 1) switches ++ cases_behind (behind_case n switches) rest)

-- the same of a case
abbrev pub case_behind : ℕ → CaseView → List ℕ
case_behind n c = behind_case n c.switches ∷ switches_behind (n + 1) c.switches

-- .. of a switch
abbrev pub switch_behind : ℕ → SwitchView → List ℕ
switch_behind n s = behind_switch n s.cases ∷ cases_behind (n + 1) s.cases

abbrev mutual
  -- a table has, for each node of these switches, the first node behind it
  pub HasSwitches : List ℕ → ℕ → Switches → Type 0
  HasSwitches table n NoSwitch = Unit {0}
  HasSwitches table n (OneSwitch signal attributes cases rest) =
      (slice_get table n ≡ Some (behind_switch n cases)) × (HasCases table (n + 1) cases × HasSwitches table (behind_switch n cases) rest)

  -- the same of cases
  pub HasCases : List ℕ → ℕ → Cases → Type 0
  HasCases table n NoCase = Unit {0}
  HasCases table n (OneCase patterns assigns attributes switches rest) =
      (slice_get table n ≡ Some (behind_case n switches)) × (HasSwitches table (n + 1) switches × HasCases table (behind_case n switches) rest)

-- the nodes of these cases alone, from the first one's number on
abbrev pub case_nodes : ℕ → Cases → List ℕ
case_nodes n NoCase = []
case_nodes n (OneCase patterns assigns attributes switches rest) = n ∷ case_nodes (behind_case n switches) rest
