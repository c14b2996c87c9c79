-- Where switches and cases stand in a tree, by places and by numbers.
use Rattle.std.proofs.Common.{◌≡◌, ℕ, suc, ◌+◌, List, [], ◌∷◌, ◌++◌, sym, ◌∙◌, ap, arith, append_assoc}
use Rattle.rtl_ir.specs.Tree.{Switches, Cases}
use Rattle.match_cells.proofs.Places.{IsInCases, IsInSwitches, case_number, switch_number}

module _ (root : Switches) where
  -- these switches stand below these places, the first one as the switch of this number, and at this node
  abbrev pub AtSwitches : List ℕ → ℕ → ℕ → Switches → Type 0
  AtSwitches above k n ss =
      (j : ℕ) (q : List ℕ) → IsInSwitches ss (j ∷ q) → IsInSwitches root (above ++ (k + j) ∷ q) × (switch_number 1 root (above ++ (k + j) ∷ q) ≡ switch_number n ss (j ∷ q))

  abbrev pub AtCases : List ℕ → ℕ → ℕ → Cases → Type 0
  AtCases above k n cs =
      (j : ℕ) (q : List ℕ) → IsInCases cs (j ∷ q) → IsInSwitches root (above ++ (k + j) ∷ q) × (switch_number 1 root (above ++ (k + j) ∷ q) ≡ case_number n cs (j ∷ q))

  abbrev pub Stands : List ℕ → ℕ → Type 0
  Stands p n = IsInSwitches root p × (switch_number 1 root p ≡ n)

-- the places of what comes next, and of what is below
pub next_place : (above : List ℕ) (k j : ℕ) (q : List ℕ) → above ++ (k + suc j) ∷ q ≡ above ++ ((k + 1) + j) ∷ q
next_place above k j q = let e : k + suc j ≡ (k + 1) + j = omega arith in ap (λ m. above ++ m ∷ q) e

pub below_place : (above : List ℕ) (k j : ℕ) (q : List ℕ) → above ++ (k + 0) ∷ j ∷ q ≡ (above ++ k ∷ []) ++ (0 + j) ∷ q
below_place above k j q =
    let e : k + 0 ≡ k = omega arith in
    let f : j ≡ 0 + j = omega arith in
    (λ i. above ++ (e i) ∷ (f i) ∷ q) ∙ sym (append_assoc above (k ∷ []) ((0 + j) ∷ q))

pub own_place : (above : List ℕ) (k : ℕ) → above ++ (k + 0) ∷ [] ≡ above ++ k ∷ []
own_place above k = let e : k + 0 ≡ k = omega arith in ap (λ m. above ++ m ∷ []) e
