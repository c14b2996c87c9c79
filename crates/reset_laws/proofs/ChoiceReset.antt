-- Choices that test a reset of a known level are decided.
use Rattle.std.proofs.Common.{◌≡◌, ℕ, Bool, true, false, List, [], ◌∷◌, ◌++◌, length, Option, Some, None, inl, refl, sym, ◌∙◌, ap, subst}
use Rattle.std.specs.Prelude.{if◌then◌else◌, map}
use Rattle.std.specs.List.{list_any}
use Rattle.std.specs.Option.{option_map_or}
use Rattle.rtl_bits.specs.declared.bit.Bit.{Bit}
use Rattle.rtl_bits.specs.declared.bit.Bit.TheVariants.{X}
use Rattle.rtl_bits.specs.Knowledge.{Below}
use Rattle.rtl_bits.proofs.Orders.{Below_refl}
use Rattle.rtl_sig.specs.declared.sig.SigBit.{SigBit}
use Rattle.rtl_sig.specs.declared.sig.SigBit.TheVariants.{Fixed}
use Rattle.rtl_sig.specs.declared.sig.WireBit.{WireBit}
use Rattle.rtl_ir.specs.Assigns.{assigned}
use Rattle.rtl_ir.specs.Decisions.{Branches, Choice, Decision, Leaf, NoBranch, OneBranch, after_assigns, after_switches, branches_of, case_decision, leaves_before, leaves_of}
use Rattle.rtl_ir.specs.EventTests.{differs}
use Rattle.rtl_ir.specs.Faults.TwoEdges.{SwitchTest, branch_patterns, branches_decided, cases_patterns, decide, decided, taken, takes_bit, tested_bit}
use Rattle.rtl_ir.specs.Flat.Pick.{no_test}
use Rattle.rtl_ir.specs.Flat.Place.{Path}
use Rattle.rtl_ir.specs.Flat.Point.{points}
use Rattle.rtl_ir.specs.Signals.{is_all_constant}
use Rattle.rtl_ir.specs.Tree.{CaseView, Cases, NoCase, NoSwitch, OneCase, OneSwitch, Switches}
use Rattle.rtl_ir.specs.declared.module.Link.{Link}
use Rattle.rtl_ir.specs.declared.wire.Wire.{Wire}
use Rattle.net_model.proofs.Members.{In-left, In-right}
use Rattle.net_model.specs.Lists.{In}
use Rattle.net_model.specs.Picked.{case_match, chosen_of, tested_of}
use Rattle.net_model.specs.Proc.Reset.{cases_at, switches_at}
use Rattle.net_model.specs.Valuation.{Valuation, read_all}
use Rattle.net_model.specs.Within.{Each}
use Rattle.reset_laws.proofs.ChoiceEven.{AreEven, EvenBranches, EvenCases, EvenSwitches, IsOne, branches_wide, case_known, cases_wide, level_value, one_from, patterns_made}
use Rattle.reset_laws.proofs.ChoiceValue.{branch_by, chosen_below, chosen_within, looked, value_by}

-- a switch that tests has a signal of one bit and patterns of constants
pub record IsTest (test : SwitchTest) : Type 0 where
  pub one : (signal : List SigBit) (patterns : List (List SigBit)) (inverse : Bool) → test signal patterns ≡ Some inverse → length signal ≡ 1
  pub constant : (signal : List SigBit) (patterns : List (List SigBit)) (inverse : Bool) → test signal patterns ≡ Some inverse → Each (λ (q : List SigBit). is_all_constant q ≡ true) patterns

-- what a test gives of a level
pub tested_level : (level inverse : Bool) → tested_of inverse (level_value level) ≡ level_value (differs level inverse)
tested_level true true = refl
tested_level true false = refl
tested_level false true = refl
tested_level false false = refl

-- deciding keeps the patterns
pub patterns_decided : (test : SwitchTest) (level : Bool) (branches : Branches) → branch_patterns (branches_decided test level branches) ≡ branch_patterns branches
patterns_decided test level NoBranch = refl
patterns_decided test level (OneBranch qs value rest) = ap (λ z. qs ++ z) (patterns_decided test level rest)

module _ (p : Path) (wires : List Wire) (w : Valuation) (test : SwitchTest) (fine : IsTest test) (level : Bool) where
  ones : (signal : List SigBit) (qs : List (List SigBit)) (inverse : Bool) → test signal qs ≡ Some inverse → Each (λ (q : List SigBit). length q ≡ length signal) qs → Each IsOne qs
  ones signal qs inverse e h q i =
      one_from q (h q i ∙ fine.one signal qs inverse e) (fine.constant signal qs inverse e q i)

  abbrev bit_of : Bool → Bit
  bit_of inverse = level_value (differs level inverse)

  -- what a test of the level matches
  known : (inverse : Bool) (qs : List (List SigBit)) → Each IsOne qs → case_match w (looked p wires w test (level_value level) (Some inverse) []) (map (points p wires) qs) ≡ level_value (list_any (takes_bit (tested_bit level inverse)) qs)
  known inverse qs h =
      ap (λ z. case_match w (z ∷ []) (map (points p wires) qs)) (tested_level level inverse)
      ∙ case_known p wires w (differs level inverse) qs h

  module _ (leaf : SigBit → Bit) (k : Bit) where
    Bounded : List SigBit → Type 0
    Bounded leaves = (s : SigBit) → In s leaves → Below (leaf s) k

    abbrev value : Decision → Bit
    value d = value_by p wires w test (level_value level) leaf d

    abbrev branched : List Bit → Branches → Bit → Bit
    branched bits branches last = branch_by p wires w test (level_value level) leaf bits branches last

    -- where no leaf of the decided decision has more than k, its value with the reset at the level is no more
    mutual
      pub value_decided : (d : Decision) → AreEven d → ((s : SigBit) → In s (leaves_of (decided test level d)) → Below (leaf s) k) → Below (value d) k
      value_decided (Leaf s) even h = h s (inl refl)
      value_decided (Choice signal branches last) even h =
          by (test signal (branch_patterns branches)) refl h
          (open_branch (length signal) (looked p wires w test (level_value level) None signal) branches (value last) (leaves_of (decided test level last)) even.0 (value_decided last even.1))
          (λ inverse e. taken_branch (length signal) inverse branches (value last) (decided test level last) even.0 (ones signal (branch_patterns branches) inverse e (branches_wide (length signal) branches even.0)) (value_decided last even.1))
        where
          Within : List SigBit → Option Bool → Type 0
          Within leaves o = ((s : SigBit) → In s leaves → Below (leaf s) k) → Below (branched (looked p wires w test (level_value level) o signal) branches (value last)) k

          by : (o : Option Bool) → test signal (branch_patterns branches) ≡ o → ((s : SigBit) → In s (leaves_of (decide level o signal (branches_decided test level branches) (decided test level last))) → Below (leaf s) k) → Within (leaves_before (branches_decided test level branches) (leaves_of (decided test level last))) None → ((inverse : Bool) → test signal (branch_patterns branches) ≡ Some inverse → Within (leaves_of (taken (tested_bit level inverse) (branches_decided test level branches) (decided test level last))) (Some inverse)) → Below (branched (looked p wires w test (level_value level) o signal) branches (value last)) k
          by None e i opened tested = opened i
          by (Some inverse) e i opened tested = tested inverse e i

      open_branch : (n : ℕ) (bits : List Bit) (branches : Branches) (last : Bit) (leaves : List SigBit) → EvenBranches n branches → (((s : SigBit) → In s leaves → Below (leaf s) k) → Below last k) → ((s : SigBit) → In s (leaves_before (branches_decided test level branches) leaves) → Below (leaf s) k) → Below (branched bits branches last) k
      open_branch n bits NoBranch last leaves even h i = h i
      open_branch n bits (OneBranch [] here rest) last leaves even h i = value_decided here even.1.0 i
      open_branch n bits (OneBranch (q ∷ qs) here rest) last leaves even h i =
          let ls : List SigBit = leaves_of (decided test level here) in
          let rs : List SigBit = leaves_before (branches_decided test level rest) leaves in
          chosen_within (case_match w bits (map (points p wires) (q ∷ qs))) (value here) (branched bits rest last) k
          (value_decided here even.1.0 (λ s j. i s (In-left s ls rs j)))
          (open_branch n bits rest last leaves even.1.1 h (λ s j. i s (In-right s ls rs j)))

      taken_branch : (n : ℕ) (inverse : Bool) (branches : Branches) (last : Bit) (other : Decision) → EvenBranches n branches → Each IsOne (branch_patterns branches) → (((s : SigBit) → In s (leaves_of other) → Below (leaf s) k) → Below last k) → ((s : SigBit) → In s (leaves_of (taken (tested_bit level inverse) (branches_decided test level branches) other)) → Below (leaf s) k) → Below (branched (tested_of inverse (level_value level) ∷ []) branches last) k
      taken_branch n inverse NoBranch last other even one h i = h i
      taken_branch n inverse (OneBranch [] here rest) last other even one h i = value_decided here even.1.0 i
      taken_branch n inverse (OneBranch (q ∷ qs) here rest) last other even one h i =
          subst (λ z. Below (chosen_of z (value here) (branched (tested_of inverse (level_value level) ∷ []) rest last)) k)
          (sym (known inverse (q ∷ qs) (λ r j. one r (In-left r (q ∷ qs) (branch_patterns rest) j))))
          (by (list_any (takes_bit (tested_bit level inverse)) (q ∷ qs)) i (value_decided here even.1.0) (taken_branch n inverse rest last other even.1.1 (λ r j. one r (In-right r (q ∷ qs) (branch_patterns rest) j)) h))
        where
          by : (t : Bool) → ((s : SigBit) → In s (leaves_of (if t then decided test level here else taken (tested_bit level inverse) (branches_decided test level rest) other)) → Below (leaf s) k) → (((s : SigBit) → In s (leaves_of (decided test level here)) → Below (leaf s) k) → Below (value here) k) → (((s : SigBit) → In s (leaves_of (taken (tested_bit level inverse) (branches_decided test level rest) other)) → Below (leaf s) k) → Below (branched (tested_of inverse (level_value level) ∷ []) rest last) k) → Below (chosen_of (level_value t) (value here) (branched (tested_of inverse (level_value level) ∷ []) rest last)) k
          by true g left right = left g
          by false g left right = right g

  -- switches of which each that tests keeps the case that is taken
  module _ (b : WireBit) (leaf : SigBit → Bit) where
    abbrev before : Decision → Bit
    before d = value_by p wires w test (level_value level) leaf d

    abbrev after : Decision → Bit
    after d = value_by p wires w no_test X leaf d

    abbrev branched_before : List Bit → Branches → Bit → Bit
    branched_before bits branches last = branch_by p wires w test (level_value level) leaf bits branches last

    abbrev branched_after : List Bit → Branches → Bit → Bit
    branched_after bits branches last = branch_by p wires w no_test X leaf bits branches last

    assigned_freed : (assigns : List Link) (d d' : Decision) → Below (before d) (after d') → Below (before (after_assigns assigns b d)) (after (after_assigns assigns b d'))
    assigned_freed assigns d d' h = by (assigned assigns b)
      where
        by : (o : Option SigBit) → Below (before (option_map_or (λ s. Leaf s) o d)) (after (option_map_or (λ s. Leaf s) o d'))
        by None = h
        by (Some s) = Below_refl (leaf s)

    mutual
      -- with the reset at the level they have the same value
      pub switches_freed : (switches : Switches) (d d' : Decision) → EvenSwitches switches → Below (before d) (after d') → Below (before (after_switches b switches d)) (after (after_switches b (switches_at test level switches) d'))
      switches_freed NoSwitch d d' even h = h
      switches_freed (OneSwitch signal attributes cases rest) d d' even h =
          switches_freed rest (Choice signal (branches_of b cases d) d) (Choice signal (branches_of b (cases_at test level (test signal (cases_patterns cases)) cases) d') d') even.1
          (subst (λ z. Below (branched_before (looked p wires w test (level_value level) (test signal z) signal) (branches_of b cases d) (before d)) (branched_after (read_all w (points p wires signal)) (branches_of b (cases_at test level (test signal (cases_patterns cases)) cases) d') (after d'))) (sym (patterns_made b cases d))
          (by (test signal (cases_patterns cases)) refl
          (cases_open (length signal) (read_all w (points p wires signal)) cases d d' even.0 h)
          (λ inverse e. cases_freed (length signal) inverse (read_all w (points p wires signal)) cases d d' even.0 (ones signal (cases_patterns cases) inverse e (cases_wide (length signal) cases even.0)) h)))
        where
          Freed : Option Bool → Type 0
          Freed o = Below (branched_before (looked p wires w test (level_value level) o signal) (branches_of b cases d) (before d)) (branched_after (read_all w (points p wires signal)) (branches_of b (cases_at test level o cases) d') (after d'))

          by : (o : Option Bool) → test signal (cases_patterns cases) ≡ o → Freed None → ((inverse : Bool) → test signal (cases_patterns cases) ≡ Some inverse → Freed (Some inverse)) → Freed o
          by None e opened tested = opened
          by (Some inverse) e opened tested = tested inverse e

      cases_open : (n : ℕ) (bits : List Bit) (cases : Cases) (d d' : Decision) → EvenCases n cases → Below (before d) (after d') → Below (branched_before bits (branches_of b cases d) (before d)) (branched_after bits (branches_of b (cases_at test level None cases) d') (after d'))
      cases_open n bits NoCase d d' even h = h
      cases_open n bits (OneCase [] assigns attributes switches rest) d d' even h =
          switches_freed switches (after_assigns assigns b d) (after_assigns assigns b d') even.1.0 (assigned_freed assigns d d' h)
      cases_open n bits (OneCase (q ∷ qs) assigns attributes switches rest) d d' even h =
          chosen_below _ _ _ _ _ _ (Below_refl (case_match w bits (map (points p wires) (q ∷ qs))))
          (switches_freed switches (after_assigns assigns b d) (after_assigns assigns b d') even.1.0 (assigned_freed assigns d d' h))
          (cases_open n bits rest d d' even.1.1 h)

      cases_freed : (n : ℕ) (inverse : Bool) (bits : List Bit) (cases : Cases) (d d' : Decision) → EvenCases n cases → Each IsOne (cases_patterns cases) → Below (before d) (after d') → Below (branched_before (tested_of inverse (level_value level) ∷ []) (branches_of b cases d) (before d)) (branched_after bits (branches_of b (cases_at test level (Some inverse) cases) d') (after d'))
      cases_freed n inverse bits NoCase d d' even one h = h
      cases_freed n inverse bits (OneCase [] assigns attributes switches rest) d d' even one h =
          switches_freed switches (after_assigns assigns b d) (after_assigns assigns b d') even.1.0 (assigned_freed assigns d d' h)
      cases_freed n inverse bits (OneCase (q ∷ qs) assigns attributes switches rest) d d' even one h =
          let here : Decision = after_switches b switches (after_assigns assigns b d) in
          let bit : List Bit = tested_of inverse (level_value level) ∷ [] in
          subst (λ z. Below (chosen_of z (before here) (branched_before bit (branches_of b rest d) (before d))) (branched_after bits (branches_of b (cases_at test level (Some inverse) (OneCase (q ∷ qs) assigns attributes switches rest)) d') (after d')))
          (sym (known inverse (q ∷ qs) (λ r j. one r (In-left r (q ∷ qs) (cases_patterns rest) j))))
          (by (list_any (takes_bit (tested_bit level inverse)) (q ∷ qs))
          (switches_freed switches (after_assigns assigns b d) (after_assigns assigns b d') even.1.0 (assigned_freed assigns d d' h))
          (cases_freed n inverse bits rest d d' even.1.1 (λ r j. one r (In-right r (q ∷ qs) (cases_patterns rest) j)) h))
        where
          by : (t : Bool) → Below (before (after_switches b switches (after_assigns assigns b d))) (after (after_switches b (switches_at test level switches) (after_assigns assigns b d'))) → Below (branched_before (tested_of inverse (level_value level) ∷ []) (branches_of b rest d) (before d)) (branched_after bits (branches_of b (cases_at test level (Some inverse) rest) d') (after d')) → Below (chosen_of (level_value t) (before (after_switches b switches (after_assigns assigns b d))) (branched_before (tested_of inverse (level_value level) ∷ []) (branches_of b rest d) (before d))) (branched_after bits (branches_of b (if t then OneCase [] assigns attributes (switches_at test level switches) NoCase else cases_at test level (Some inverse) rest) d') (after d'))
          by true left right = left
          by false left right = right

    -- so do the decisions of a root case
    pub case_freed : (root : CaseView) → EvenSwitches root.switches → Below (before (case_decision root b)) (after (case_decision (record root { switches = switches_at test level root.switches }) b))
    case_freed root even =
        switches_freed root.switches (after_assigns root.assigns b (Leaf (Fixed X))) (after_assigns root.assigns b (Leaf (Fixed X))) even (assigned_freed root.assigns (Leaf (Fixed X)) (Leaf (Fixed X)) (Below_refl (leaf (Fixed X))))
