-- Patterns as wide as their signals, in switches and in decisions; and patterns of one constant.
use Rattle.std.proofs.Common.{◌≡◌, ℕ, zero, suc, Bool, true, false, ◌||◌, List, [], ◌∷◌, ◌++◌, length, Option, Some, None, inl, inr, ⊎_elim, refl, sym, ◌∙◌, ap, subst}
use Rattle.std.specs.Prelude.{not, ◌==◌, if◌then◌else◌, map}
use Rattle.std.specs.List.{list_any}
use Rattle.std.specs.Option.{option_map_or}
use Rattle.std.proofs.lemmas.Bool.{eqb-true, or_parts}
use Rattle.rtl_bits.specs.declared.bit.Bit.{Bit}
use Rattle.rtl_bits.specs.declared.bit.Bit.TheVariants.{S0, S1, X, Z, M, Dash}
use Rattle.rtl_bits.specs.Tables.{or_of}
use Rattle.rtl_sig.specs.declared.sig.SigBit.{SigBit}
use Rattle.rtl_sig.specs.declared.sig.SigBit.TheVariants.{Fixed, Wire as OnWire}
use Rattle.rtl_sig.specs.declared.sig.WireBit.{WireBit}
use Rattle.rtl_ir.specs.Assigns.{assigned}
use Rattle.rtl_ir.specs.Decisions.{Branches, Choice, Decision, Leaf, NoBranch, OneBranch, after_assigns, after_switches, branches_of, branches_with_leaves, case_decision, expanded_within, with_leaves}
use Rattle.rtl_ir.specs.Faults.ProcessLimits.{cases_uneven, switches_uneven}
use Rattle.rtl_ir.specs.Faults.TwoEdges.{branch_patterns, cases_patterns, takes_bit}
use Rattle.rtl_ir.specs.Flat.Place.{Path}
use Rattle.rtl_ir.specs.Flat.Point.{Constant, points}
use Rattle.rtl_ir.specs.Signals.{has_bit, is_all_constant}
use Rattle.rtl_ir.specs.Tree.{CaseView, Cases, NoCase, NoSwitch, OneCase, OneSwitch, Switches}
use Rattle.rtl_ir.specs.declared.module.Link.{Link}
use Rattle.rtl_ir.specs.declared.wire.Wire.{Wire}
use Rattle.net_model.proofs.Members.{In-cases}
use Rattle.net_model.specs.Picked.{case_match, pattern_match}
use Rattle.net_model.specs.Valuation.{Valuation}
use Rattle.net_model.specs.Within.{Each}

-- each pattern is of so many places
abbrev pub AreWide : ℕ → List (List SigBit) → Type 0
AreWide n qs = Each (λ (q : List SigBit). length q ≡ n) qs

abbrev mutual
  -- each pattern of a choice is as wide as its signal
  pub AreEven : Decision → Type 0
  AreEven (Leaf s) = Unit {0}
  AreEven (Choice signal branches last) = EvenBranches (length signal) branches × AreEven last

  pub EvenBranches : ℕ → Branches → Type 0
  EvenBranches n NoBranch = Unit {0}
  EvenBranches n (OneBranch qs value rest) = AreWide n qs × (AreEven value × EvenBranches n rest)

abbrev mutual
  -- each pattern of a switch is as wide as its signal
  pub EvenSwitches : Switches → Type 0
  EvenSwitches NoSwitch = Unit {0}
  EvenSwitches (OneSwitch signal attributes cases rest) = EvenCases (length signal) cases × EvenSwitches rest

  pub EvenCases : ℕ → Cases → Type 0
  EvenCases n NoCase = Unit {0}
  EvenCases n (OneCase qs assigns attributes switches rest) =
      AreWide n qs × (EvenSwitches switches × EvenCases n rest)

wide_from : (n : ℕ) (qs : List (List SigBit)) → list_any (λ (q : List SigBit). not (length q == n)) qs ≡ false → AreWide n qs
wide_from n [] e q i = absurd i
wide_from n (r ∷ qs) e q (inl f) =
    let parts = or_parts (not (length r == n)) (list_any (λ (q : List SigBit). not (length q == n)) qs) e in
    ap length f ∙ eqb-true (length r) n (by (length r == n) parts.0)
  where
    by : (t : Bool) → not t ≡ false → t ≡ true
    by true h = refl
    by false h = absurd (cc)
wide_from n (r ∷ qs) e q (inr i) =
    wide_from n qs (or_parts (not (length r == n)) (list_any (λ (q : List SigBit). not (length q == n)) qs) e).1 q i

mutual
  pub even_from : (switches : Switches) → switches_uneven switches ≡ false → EvenSwitches switches
  even_from NoSwitch e = tt
  even_from (OneSwitch signal attributes cases rest) e =
      let parts = or_parts (cases_uneven (length signal) cases) (switches_uneven rest) e in
      (even_cases (length signal) cases parts.0, even_from rest parts.1)

  even_cases : (n : ℕ) (cases : Cases) → cases_uneven n cases ≡ false → EvenCases n cases
  even_cases n NoCase e = tt
  even_cases n (OneCase qs assigns attributes switches rest) e =
      let wide : Bool = list_any (λ (q : List SigBit). not (length q == n)) qs in
      let outer = or_parts (wide || switches_uneven switches) (cases_uneven n rest) e in
      let inner = or_parts wide (switches_uneven switches) outer.0 in
      (wide_from n qs inner.0, (even_from switches inner.1, even_cases n rest outer.1))

even_assigns : (assigns : List Link) (b : WireBit) (earlier : Decision) → AreEven earlier → AreEven (after_assigns assigns b earlier)
even_assigns assigns b earlier h = by (assigned assigns b)
  where
    by : (o : Option SigBit) → AreEven (option_map_or (λ s. Leaf s) o earlier)
    by None = h
    by (Some s) = tt

mutual
  pub even_after : (b : WireBit) (switches : Switches) (earlier : Decision) → EvenSwitches switches → AreEven earlier → AreEven (after_switches b switches earlier)
  even_after b NoSwitch earlier h i = i
  even_after b (OneSwitch signal attributes cases rest) earlier h i =
      even_after b rest (Choice signal (branches_of b cases earlier) earlier) h.1 (even_branches (length signal) b cases earlier h.0 i, i)

  even_branches : (n : ℕ) (b : WireBit) (cases : Cases) (earlier : Decision) → EvenCases n cases → AreEven earlier → EvenBranches n (branches_of b cases earlier)
  even_branches n b NoCase earlier h i = tt
  even_branches n b (OneCase qs assigns attributes switches rest) earlier h i = (
    h.0,
    (even_after b switches (after_assigns assigns b earlier) h.1.0 (even_assigns assigns b earlier i), even_branches n b rest earlier h.1.1 i),
  )

pub even_case : (root : CaseView) (b : WireBit) → EvenSwitches root.switches → AreEven (case_decision root b)
even_case root b h = even_after b root.switches (after_assigns root.assigns b (Leaf (Fixed X))) h (even_assigns root.assigns b (Leaf (Fixed X)) tt)

module _ (f : SigBit → Decision) (h : (s : SigBit) → AreEven (f s)) where
  mutual
    even_replaced : (d : Decision) → AreEven d → AreEven (with_leaves f d)
    even_replaced (Leaf s) i = h s
    even_replaced (Choice signal branches last) i =
        (even_rest (length signal) branches i.0, even_replaced last i.1)

    even_rest : (n : ℕ) (branches : Branches) → EvenBranches n branches → EvenBranches n (branches_with_leaves f branches)
    even_rest n NoBranch i = tt
    even_rest n (OneBranch qs value rest) i = (i.0, (even_replaced value i.1.0, even_rest n rest i.1.1))

pub even_expanded : (root : CaseView) (bits : List WireBit) → EvenSwitches root.switches → (n : ℕ) (s : SigBit) → AreEven (expanded_within root bits n s)
even_expanded root bits h zero s = tt
even_expanded root bits h (suc n) (Fixed c) = tt
even_expanded root bits h (suc n) (OnWire b) = by (has_bit bits b) (even_replaced (expanded_within root bits n) (even_expanded root bits h n) (case_decision root b) (even_case root b h))
  where
    by : (t : Bool) → AreEven (with_leaves (expanded_within root bits n) (case_decision root b)) → AreEven (if t then with_leaves (expanded_within root bits n) (case_decision root b) else Leaf (OnWire b))
    by true i = i
    by false i = tt

-- the patterns of branches are as wide
pub branches_wide : (n : ℕ) (branches : Branches) → EvenBranches n branches → AreWide n (branch_patterns branches)
branches_wide n NoBranch h q i = absurd i
branches_wide n (OneBranch qs value rest) h q i =
    ⊎_elim (λ l. h.0 q l) (λ r. branches_wide n rest h.1.1 q r) (In-cases q qs (branch_patterns rest) i)

pub cases_wide : (n : ℕ) (cases : Cases) → EvenCases n cases → AreWide n (cases_patterns cases)
cases_wide n NoCase h q i = absurd i
cases_wide n (OneCase qs assigns attributes switches rest) h q i =
    ⊎_elim (λ l. h.0 q l) (λ r. cases_wide n rest h.1.1 q r) (In-cases q qs (cases_patterns rest) i)

-- the branches that cases make have their patterns
pub patterns_made : (b : WireBit) (cases : Cases) (earlier : Decision) → branch_patterns (branches_of b cases earlier) ≡ cases_patterns cases
patterns_made b NoCase earlier = refl
patterns_made b (OneCase qs assigns attributes switches rest) earlier = ap (λ z. qs ++ z) (patterns_made b rest earlier)

-- a pattern is one constant
abbrev pub IsOne : List SigBit → Type 0
IsOne q = (c : Bit) × (q ≡ Fixed c ∷ [])

pub one_from : (q : List SigBit) → length q ≡ 1 → is_all_constant q ≡ true → IsOne q
one_from [] e f = absurd (cc)
one_from (Fixed c ∷ []) e f = (c, refl)
one_from (OnWire b ∷ []) e f = absurd (cc)
one_from (s ∷ r ∷ q) e f = absurd (let g : suc (length q) ≡ 0 = ap by e in cc)
  where
    by : ℕ → ℕ
    by zero = 0
    by (suc n) = n

-- the bit of a level
abbrev pub level_value : Bool → Bit
level_value level = if level then S1 else S0

module _ (p : Path) (wires : List Wire) (w : Valuation) where
  one_known : (t : Bool) (q : List SigBit) → IsOne q → pattern_match w (level_value t ∷ []) (points p wires q) ≡ level_value (takes_bit (level_value t) q)
  one_known t q h = subst (λ z. pattern_match w (level_value t ∷ []) (points p wires z) ≡ level_value (takes_bit (level_value t) z)) (sym h.1) (by t h.0)
    where
      by : (t : Bool) (c : Bit) → pattern_match w (level_value t ∷ []) (Constant c ∷ []) ≡ level_value (takes_bit (level_value t) (Fixed c ∷ []))
      by true S0 = refl
      by true S1 = refl
      by true X = refl
      by true Z = refl
      by true M = refl
      by true Dash = refl
      by false S0 = refl
      by false S1 = refl
      by false X = refl
      by false Z = refl
      by false M = refl
      by false Dash = refl

  or_known : (a b : Bool) → or_of (level_value a) (level_value b) ≡ level_value (a || b)
  or_known true b = refl
  or_known false true = refl
  or_known false false = refl

  -- of a known bit it is known whether it matches patterns of one constant
  pub case_known : (t : Bool) (qs : List (List SigBit)) → Each IsOne qs → case_match w (level_value t ∷ []) (map (points p wires) qs) ≡ level_value (list_any (takes_bit (level_value t)) qs)
  case_known t [] h = refl
  case_known t (q ∷ qs) h =
      (λ i. or_of (one_known t q (h q (inl refl)) i) (case_known t qs (λ r j. h r (inr j)) i))
      ∙ or_known (takes_bit (level_value t) q) (list_any (takes_bit (level_value t)) qs)
