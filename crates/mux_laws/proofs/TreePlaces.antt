-- Where cases stand in a tree, and what each of them asks.
use Rattle.std.proofs.Common.{◌≡◌, ℕ, zero, suc, ◌+◌, List, [], ◌∷◌, ◌++◌, Option, Some, None, ◌∙◌, ap, arith, append_assoc}
use Rattle.rtl_ir.specs.Tree.{Switches, NoSwitch, OneSwitch, Cases, NoCase, OneCase}
use Rattle.rtl_sig.specs.declared.sig.SigBit.{SigBit}

-- what a case asks
pub record Asked : Type 0 where
  pub signal : List SigBit
  pub patterns : List (List SigBit)

abbrev mutual
  -- the case at these places below switches: the number of a switch, then that of a case, and so on
  pub switches_find : Switches → List ℕ → Option Asked
  switches_find NoSwitch at = None
  switches_find (OneSwitch signal attributes cases rest) [] = None
  switches_find (OneSwitch signal attributes cases rest) (zero ∷ at) = cases_find signal cases at
  switches_find (OneSwitch signal attributes cases rest) (suc n ∷ at) = switches_find rest (n ∷ at)

  -- the same below the cases of a switch
  pub cases_find : List SigBit → Cases → List ℕ → Option Asked
  cases_find signal NoCase at = None
  cases_find signal (OneCase patterns assigns attributes switches rest) [] = None
  cases_find signal (OneCase patterns assigns attributes switches rest) (zero ∷ []) =
      Some (record { signal = signal; patterns = patterns })
  cases_find signal (OneCase patterns assigns attributes switches rest) (zero ∷ n ∷ at) = switches_find switches (n ∷ at)
  cases_find signal (OneCase patterns assigns attributes switches rest) (suc n ∷ at) = cases_find signal rest (n ∷ at)

module _ (find : List ℕ → Option Asked) where
  abbrev mutual
    -- each case below these switches, numbered from a number on below some places, is found
    pub SwitchesAt : List ℕ → ℕ → Switches → Type 0
    SwitchesAt above number NoSwitch = Unit {0}
    SwitchesAt above number (OneSwitch signal attributes cases rest) =
        CasesAt (above ++ number ∷ []) 0 signal cases × SwitchesAt above (number + 1) rest

    -- the same of cases
    pub CasesAt : List ℕ → ℕ → List SigBit → Cases → Type 0
    CasesAt above number signal NoCase = Unit {0}
    CasesAt above number signal (OneCase patterns assigns attributes switches rest) =
        (find (above ++ number ∷ []) ≡ Some (record { signal = signal; patterns = patterns }))
        × (SwitchesAt (above ++ number ∷ []) 0 switches × CasesAt above (number + 1) signal rest)

  -- places one level down
  deeper : (above : List ℕ) (number n : ℕ) (at : List ℕ) → find ((above ++ number ∷ []) ++ (0 + n) ∷ at) ≡ find (above ++ (number + 0) ∷ n ∷ at)
  deeper above number n at =
      let here : number ≡ number + 0 = omega arith in
      let first : 0 + n ≡ n = omega arith in
      ap find (append_assoc above (number ∷ []) ((0 + n) ∷ at)) ∙ (λ i. find (above ++ here i ∷ first i ∷ at))

  -- and one further
  further : (above : List ℕ) (number n : ℕ) (at : List ℕ) → find (above ++ ((number + 1) + n) ∷ at) ≡ find (above ++ (number + suc n) ∷ at)
  further above number n at =
      let next : (number + 1) + n ≡ number + suc n = omega arith in
      ap (λ z. find (above ++ z ∷ at)) next

  mutual
    switches_at : (above : List ℕ) (number : ℕ) (switches : Switches) → ((n : ℕ) (at : List ℕ) → find (above ++ (number + n) ∷ at) ≡ switches_find switches (n ∷ at)) → SwitchesAt above number switches
    switches_at above number NoSwitch h = tt
    switches_at above number (OneSwitch signal attributes cases rest) h = (
      cases_at (above ++ number ∷ []) 0 signal cases (λ n at. deeper above number n at ∙ h 0 (n ∷ at)),
      switches_at above (number + 1) rest (λ n at. further above number n at ∙ h (suc n) at),
    )

    cases_at : (above : List ℕ) (number : ℕ) (signal : List SigBit) (cases : Cases) → ((n : ℕ) (at : List ℕ) → find (above ++ (number + n) ∷ at) ≡ cases_find signal cases (n ∷ at)) → CasesAt above number signal cases
    cases_at above number signal NoCase h = tt
    cases_at above number signal (OneCase patterns assigns attributes switches rest) h = (
      (let here : number ≡ number + 0 = omega arith in ap (λ z. find (above ++ z ∷ [])) here ∙ h 0 []),
      (
        switches_at (above ++ number ∷ []) 0 switches (λ n at. deeper above number n at ∙ h 0 (n ∷ at)),
        cases_at above (number + 1) signal rest (λ n at. further above number n at ∙ h (suc n) at),
      ),
    )

-- each case of a tree is found in it
pub tree_at : (switches : Switches) → SwitchesAt (switches_find switches) [] 0 switches
tree_at switches =
    switches_at (switches_find switches) [] 0 switches (λ n at. let first : 0 + n ≡ n = omega arith in ap (λ z. switches_find switches (z ∷ at)) first)
