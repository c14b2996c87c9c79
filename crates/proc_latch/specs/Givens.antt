-- What the assigns of each case give a bit, by the numbers of the cases.
use Rattle.std.specs.Prelude.{ℕ, ◌<◌, ◌≤◌, ◌+◌, ◌==◌, ◌&&◌, nat_le, nat_lt, Bool, List, [], ◌∷◌, ◌++◌, Option, Some, None, if◌then◌else◌}
use Rattle.std.specs.HashMap.{get_by}
use Rattle.std.specs.List.{list_any}
use Rattle.std.specs.Option.{option_map_or, option_or}
use Rattle.rtl_sig.specs.declared.sig.SigBit.{SigBit}
use Rattle.rtl_sig.specs.declared.sig.WireBit.{WireBit}
use Rattle.rtl_ir.specs.Follow.{all_joins}
use Rattle.rtl_ir.specs.declared.follow.Join.{Join}
use Rattle.rtl_ir.specs.Signals.{same_bit}
use Rattle.rtl_ir.specs.Tree.{Switches, NoSwitch, OneSwitch, Cases, NoCase, OneCase, CaseView, SwitchView}
use Rattle.match_cells.specs.Numbers.{behind_case, behind_switch}
use Rattle.proc_latch.specs.declared.given.Given.{Given}
use Rattle.proc_latch.specs.declared.sources.Sources.{Sources}

-- what these places of assigns of the case at a node give a bit, in order
abbrev pub own_given : WireBit → ℕ → List Join → List Given
own_given b n [] = []
own_given b n (j ∷ js) = (if same_bit j.bit b then record { node = n; source = j.source } ∷ [] else []) ++ own_given b n js

abbrev mutual
  -- of the cases below these switches, the first of which has this number
  pub switches_given : WireBit → ℕ → Switches → List Given
  switches_given b n NoSwitch = []
  switches_given b n (OneSwitch signal attributes cases rest) =
      cases_given b (n + 1) cases ++ switches_given b (behind_switch n cases) rest

  -- of these cases and those below them
  pub cases_given : WireBit → ℕ → Cases → List Given
  cases_given b n NoCase = []
  cases_given b n (OneCase patterns assigns attributes switches rest) =
      own_given b n (all_joins assigns) ++ switches_given b (n + 1) switches ++ cases_given b (behind_case n switches) rest

-- of a case and those below it
abbrev pub case_given : WireBit → ℕ → CaseView → List Given
case_given b n c = own_given b n (all_joins c.assigns) ++ switches_given b (n + 1) c.switches

-- of the cases of a switch
abbrev pub switch_given : WireBit → ℕ → SwitchView → List Given
switch_given b n s = cases_given b (n + 1) s.cases

-- what a table has of a bit
abbrev pub given_in : Sources → WireBit → List Given
given_in s b = option_map_or (λ v. v.items) (get_by (same_bit b) s.given) []

-- the last that the assigns of the case at a node give, where they give anything
abbrev pub value_at : List Given → ℕ → Option SigBit
value_at [] n = None
value_at (g ∷ given) n = option_or (value_at given n) (if g.node == n then Some g.source else None)

-- one of these nodes stands from one number on and before another
abbrev pub has_between : List Given → ℕ → ℕ → Bool
has_between given low high = list_any (λ (g : Given). nat_le low g.node && nat_lt g.node high) given

-- all of these nodes stand before a number
abbrev pub AllBelow : ℕ → List Given → Type 0
AllBelow k [] = Unit {0}
AllBelow k (g ∷ gs) = (g.node < k) × AllBelow k gs

-- .. or from it on
abbrev pub AllFrom : ℕ → List Given → Type 0
AllFrom k [] = Unit {0}
AllFrom k (g ∷ gs) = (k ≤ g.node) × AllFrom k gs

-- the nodes stand in order
abbrev pub AreInOrder : List Given → Type 0
AreInOrder [] = Unit {0}
AreInOrder (g ∷ gs) = AllFrom g.node gs × AreInOrder gs
