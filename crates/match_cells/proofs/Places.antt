-- Cases of a tree by their places among the switches and cases above them, and by the numbers of their nodes.
use Rattle.std.proofs.Common.{◌≡◌, ℕ, zero, suc, ◌+◌, ◌<◌, ◌≤◌, List, [], ◌∷◌, refl, ap, arith}
use Rattle.rtl_ir.specs.Tree.{Switches, NoSwitch, OneSwitch, Cases, NoCase, OneCase}
use Rattle.match_cells.specs.Numbers.{behind_case, behind_switch, cases_size, switches_size}

abbrev mutual
  -- a case stands at these places among switches
  pub IsInSwitches : Switches → List ℕ → Type 0
  IsInSwitches NoSwitch p = ⊥
  IsInSwitches (OneSwitch signal attributes cases rest) [] = ⊥
  IsInSwitches (OneSwitch signal attributes cases rest) (zero ∷ p) = IsInCases cases p
  IsInSwitches (OneSwitch signal attributes cases rest) (suc k ∷ p) = IsInSwitches rest (k ∷ p)

  -- .. among cases
  pub IsInCases : Cases → List ℕ → Type 0
  IsInCases NoCase p = ⊥
  IsInCases (OneCase patterns assigns attributes switches rest) [] = ⊥
  IsInCases (OneCase patterns assigns attributes switches rest) (zero ∷ []) = Unit {0}
  IsInCases (OneCase patterns assigns attributes switches rest) (zero ∷ k ∷ p) = IsInSwitches switches (k ∷ p)
  IsInCases (OneCase patterns assigns attributes switches rest) (suc k ∷ p) = IsInCases rest (k ∷ p)

abbrev mutual
  -- the number of the case at these places among switches, the first of which has this number
  pub switch_number : ℕ → Switches → List ℕ → ℕ
  switch_number n NoSwitch p = 0
  switch_number n (OneSwitch signal attributes cases rest) [] = 0
  switch_number n (OneSwitch signal attributes cases rest) (zero ∷ p) = case_number (n + 1) cases p
  switch_number n (OneSwitch signal attributes cases rest) (suc k ∷ p) = switch_number (behind_switch n cases) rest (k ∷ p)

  -- .. among cases
  pub case_number : ℕ → Cases → List ℕ → ℕ
  case_number n NoCase p = 0
  case_number n (OneCase patterns assigns attributes switches rest) [] = 0
  case_number n (OneCase patterns assigns attributes switches rest) (zero ∷ []) = n
  case_number n (OneCase patterns assigns attributes switches rest) (zero ∷ k ∷ p) = switch_number (n + 1) switches (k ∷ p)
  case_number n (OneCase patterns assigns attributes switches rest) (suc k ∷ p) = case_number (behind_case n switches) rest (k ∷ p)

mutual
  pub switch_range : (n : ℕ) (ss : Switches) (p : List ℕ) → IsInSwitches ss p → (n < switch_number n ss p) × (switch_number n ss p < n + switches_size ss)
  switch_range n NoSwitch p h = absurd h
  switch_range n (OneSwitch s a cs rest) [] h = absurd h
  switch_range n (OneSwitch s a cs rest) (zero ∷ p) h =
      let r = case_range (n + 1) cs p h in
      (omega (arith, r.0, r.1), omega (arith, r.0, r.1))
  switch_range n (OneSwitch s a cs rest) (suc k ∷ p) h =
      let r = switch_range (behind_switch n cs) rest (k ∷ p) h in
      (omega (arith, r.0, r.1), omega (arith, r.0, r.1))

  pub case_range : (n : ℕ) (cs : Cases) (p : List ℕ) → IsInCases cs p → (n ≤ case_number n cs p) × (case_number n cs p < n + cases_size cs)
  case_range n NoCase p h = absurd h
  case_range n (OneCase ps ls a ss rest) [] h = absurd h
  case_range n (OneCase ps ls a ss rest) (zero ∷ []) h = (omega arith, omega arith)
  case_range n (OneCase ps ls a ss rest) (zero ∷ k ∷ p) h =
      let r = switch_range (n + 1) ss (k ∷ p) h in
      (omega (arith, r.0, r.1), omega (arith, r.0, r.1))
  case_range n (OneCase ps ls a ss rest) (suc k ∷ p) h =
      let r = case_range (behind_case n ss) rest (k ∷ p) h in
      (omega (arith, r.0, r.1), omega (arith, r.0, r.1))

-- the same places below the next switch or case
abbrev bump : List ℕ → List ℕ
bump [] = []
bump (k ∷ p) = suc k ∷ p

mutual
  -- cases of one number stand at the same places
  pub switch_same : (n : ℕ) (ss : Switches) (p q : List ℕ) → IsInSwitches ss p → IsInSwitches ss q → switch_number n ss p ≡ switch_number n ss q → p ≡ q
  switch_same n NoSwitch p q h i e = absurd h
  switch_same n (OneSwitch s a cs rest) [] q h i e = absurd h
  switch_same n (OneSwitch s a cs rest) (zero ∷ p) [] h i e = absurd i
  switch_same n (OneSwitch s a cs rest) (suc k ∷ p) [] h i e = absurd i
  switch_same n (OneSwitch s a cs rest) (zero ∷ p) (zero ∷ q) h i e = ap (λ r. zero ∷ r) (case_same (n + 1) cs p q h i e)
  switch_same n (OneSwitch s a cs rest) (zero ∷ p) (suc j ∷ q) h i e =
      let r = case_range (n + 1) cs p h in
      let u = switch_range (behind_switch n cs) rest (j ∷ q) i in
      absurd (omega (arith, r.0, r.1, u.0, u.1, e))
  switch_same n (OneSwitch s a cs rest) (suc k ∷ p) (zero ∷ q) h i e =
      let r = case_range (n + 1) cs q i in
      let u = switch_range (behind_switch n cs) rest (k ∷ p) h in
      absurd (omega (arith, r.0, r.1, u.0, u.1, e))
  switch_same n (OneSwitch s a cs rest) (suc k ∷ p) (suc j ∷ q) h i e = ap bump (switch_same (behind_switch n cs) rest (k ∷ p) (j ∷ q) h i e)

  pub case_same : (n : ℕ) (cs : Cases) (p q : List ℕ) → IsInCases cs p → IsInCases cs q → case_number n cs p ≡ case_number n cs q → p ≡ q
  case_same n NoCase p q h i e = absurd h
  case_same n (OneCase ps ls a ss rest) [] q h i e = absurd h
  case_same n (OneCase ps ls a ss rest) (zero ∷ []) [] h i e = absurd i
  case_same n (OneCase ps ls a ss rest) (zero ∷ k ∷ p) [] h i e = absurd i
  case_same n (OneCase ps ls a ss rest) (suc k ∷ p) [] h i e = absurd i
  case_same n (OneCase ps ls a ss rest) (zero ∷ []) (zero ∷ []) h i e = refl
  case_same n (OneCase ps ls a ss rest) (zero ∷ []) (zero ∷ j ∷ q) h i e =
      let u = switch_range (n + 1) ss (j ∷ q) i in
      absurd (omega (arith, u.0, u.1, e))
  case_same n (OneCase ps ls a ss rest) (zero ∷ []) (suc j ∷ q) h i e =
      let u = case_range (behind_case n ss) rest (j ∷ q) i in
      absurd (omega (arith, u.0, u.1, e))
  case_same n (OneCase ps ls a ss rest) (zero ∷ k ∷ p) (zero ∷ []) h i e =
      let u = switch_range (n + 1) ss (k ∷ p) h in
      absurd (omega (arith, u.0, u.1, e))
  case_same n (OneCase ps ls a ss rest) (zero ∷ k ∷ p) (zero ∷ j ∷ q) h i e = ap (λ r. zero ∷ r) (switch_same (n + 1) ss (k ∷ p) (j ∷ q) h i e)
  case_same n (OneCase ps ls a ss rest) (zero ∷ k ∷ p) (suc j ∷ q) h i e =
      let r = switch_range (n + 1) ss (k ∷ p) h in
      let u = case_range (behind_case n ss) rest (j ∷ q) i in
      absurd (omega (arith, r.0, r.1, u.0, u.1, e))
  case_same n (OneCase ps ls a ss rest) (suc k ∷ p) (zero ∷ []) h i e =
      let u = case_range (behind_case n ss) rest (k ∷ p) h in
      absurd (omega (arith, u.0, u.1, e))
  case_same n (OneCase ps ls a ss rest) (suc k ∷ p) (zero ∷ j ∷ q) h i e =
      let r = switch_range (n + 1) ss (j ∷ q) i in
      let u = case_range (behind_case n ss) rest (k ∷ p) h in
      absurd (omega (arith, r.0, r.1, u.0, u.1, e))
  case_same n (OneCase ps ls a ss rest) (suc k ∷ p) (suc j ∷ q) h i e = ap bump (case_same (behind_case n ss) rest (k ∷ p) (j ∷ q) h i e)
