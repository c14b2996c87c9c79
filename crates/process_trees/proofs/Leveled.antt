-- A root in which each switch that tests a bit keeps only the case that is taken at a level gives the leaves that are left
-- where the choices on that bit are decided.
use Rattle.std.proofs.Common.{◌≡◌, ℕ, zero, suc, Bool, true, false, List, [], ◌∷◌, ◌++◌, length, Option, Some, None, if◌then◌else◌, refl, sym, ap, ◌∙◌}
use Rattle.std.specs.Prelude.{flat_map}
use Rattle.std.specs.List.{list_any}
use Rattle.std.specs.Option.{option_map_or}
use Rattle.rtl_bits.specs.declared.bit.Bit.{Bit}
use Rattle.rtl_bits.specs.declared.bit.Bit.TheVariants.{X}
use Rattle.rtl_sig.specs.declared.sig.SigBit.{SigBit}
use Rattle.rtl_sig.specs.declared.sig.SigBit.TheVariants.{Fixed, Wire as OnWire}
use Rattle.rtl_sig.specs.declared.sig.WireBit.{WireBit}
use Rattle.rtl_ir.specs.declared.module.Link.{Link}
use Rattle.rtl_ir.specs.Assigns.{assigned}
use Rattle.rtl_ir.specs.Decisions.{Decision, Leaf, Choice, Branches, NoBranch, OneBranch, after_assigns, after_switches, branches_of, branches_with_leaves, case_decision, expanded, expanded_within, leaves_before, leaves_of, with_leaves}
use Rattle.rtl_ir.specs.Faults.TwoEdges.{SwitchTest, branch_patterns, branches_decided, cases_patterns, decide, decided, taken, takes_bit, tested_bit}
use Rattle.rtl_ir.specs.Signals.{has_bit}
use Rattle.rtl_ir.specs.Tree.{Switches, NoSwitch, OneSwitch, Cases, NoCase, OneCase, CaseView}
use Rattle.process_trees.proofs.Replaced.{flat_same, leaves_replaced}
use Rattle.net_model.specs.Proc.Reset.{cases_at, switches_at}

module _ (test : SwitchTest) (level : Bool) where
  -- what replacing leaves does to patterns and to decided choices
  patterns_stay : (f : SigBit → Decision) (branches : Branches) → branch_patterns (branches_with_leaves f branches) ≡ branch_patterns branches
  patterns_stay f NoBranch = refl
  patterns_stay f (OneBranch patterns value rest) = ap (λ qs. patterns ++ qs) (patterns_stay f rest)

  taken_replaced : (f : SigBit → Decision) (bit : Bit) (branches : Branches) (last : Decision) → taken bit (branches_with_leaves f branches) (with_leaves f last) ≡ with_leaves f (taken bit branches last)
  taken_replaced f bit NoBranch last = refl
  taken_replaced f bit (OneBranch [] value rest) last = refl
  taken_replaced f bit (OneBranch (p ∷ ps) value rest) last = by (list_any (takes_bit bit) (p ∷ ps)) (taken_replaced f bit rest last)
    where
      by : (t : Bool) → taken bit (branches_with_leaves f rest) (with_leaves f last) ≡ with_leaves f (taken bit rest last)
          → (if t then with_leaves f value else taken bit (branches_with_leaves f rest) (with_leaves f last)) ≡ with_leaves f (if t then value else taken bit rest last)
      by true e = refl
      by false e = e

  decide_replaced : (f : SigBit → Decision) (inverse : Option Bool) (signal : List SigBit) (branches : Branches) (last : Decision)
      → decide level inverse signal (branches_with_leaves f branches) (with_leaves f last) ≡ with_leaves f (decide level inverse signal branches last)
  decide_replaced f None signal branches last = refl
  decide_replaced f (Some inverse) signal branches last = taken_replaced f (tested_bit level inverse) branches last

  mutual
    -- deciding goes into the leaves
    decided_replaced : (f : SigBit → Decision) (d : Decision) → decided test level (with_leaves f d) ≡ with_leaves (λ s. decided test level (f s)) (decided test level d)
    decided_replaced f (Leaf s) = refl
    decided_replaced f (Choice signal branches last) =
        (λ i. decide level (test signal (patterns_stay f branches i)) signal (branches_replaced f branches i) (decided_replaced f last i))
        ∙ decide_replaced (λ s. decided test level (f s)) (test signal (branch_patterns branches)) signal (branches_decided test level branches) (decided test level last)

    branches_replaced : (f : SigBit → Decision) (branches : Branches) → branches_decided test level (branches_with_leaves f branches) ≡ branches_with_leaves (λ s. decided test level (f s)) (branches_decided test level branches)
    branches_replaced f NoBranch = refl
    branches_replaced f (OneBranch patterns value rest) = λ i. OneBranch patterns (decided_replaced f value i) (branches_replaced f rest i)

  -- ---- the leaves of switches

  case_patterns_are : (b : WireBit) (cases : Cases) (d : Decision) → branch_patterns (branches_of b cases d) ≡ cases_patterns cases
  case_patterns_are b NoCase d = refl
  case_patterns_are b (OneCase patterns assigns attributes switches rest) d = ap (λ qs. patterns ++ qs) (case_patterns_are b rest d)

  -- two decisions have one list of leaves, the first decided
  abbrev Alike : Decision → Decision → Type 0
  Alike d e = leaves_of (decided test level d) ≡ leaves_of e

  assigns_alike : (assigns : List Link) (b : WireBit) (d e : Decision) → Alike d e → Alike (after_assigns assigns b d) (after_assigns assigns b e)
  assigns_alike assigns b d e h = by (assigned assigns b)
    where
      by : (o : Option SigBit) → Alike (option_map_or (λ s. Leaf s) o d) (option_map_or (λ s. Leaf s) o e)
      by None = h
      by (Some s) = refl

  mutual
    switches_alike : (b : WireBit) (switches : Switches) (d e : Decision) → Alike d e → Alike (after_switches b switches d) (after_switches b (switches_at test level switches) e)
    switches_alike b NoSwitch d e h = h
    switches_alike b (OneSwitch signal attributes cases rest) d e h =
        switches_alike b rest (Choice signal (branches_of b cases d) d) (Choice signal (branches_of b (cases_at test level (test signal (cases_patterns cases)) cases) e) e)
        (ap (λ ps. leaves_of (decide level (test signal ps) signal (branches_decided test level (branches_of b cases d)) (decided test level d))) (case_patterns_are b cases d)
        ∙ by (test signal (cases_patterns cases)) (kept b cases d e h) (λ inverse. chosen b inverse cases d e h))
      where
        by : (o : Option Bool)
            → leaves_before (branches_decided test level (branches_of b cases d)) (leaves_of (decided test level d)) ≡ leaves_before (branches_of b (cases_at test level None cases) e) (leaves_of e)
            → ((inverse : Bool) → leaves_of (taken (tested_bit level inverse) (branches_decided test level (branches_of b cases d)) (decided test level d)) ≡ leaves_before (branches_of b (cases_at test level (Some inverse) cases) e) (leaves_of e))
            → leaves_of (decide level o signal (branches_decided test level (branches_of b cases d)) (decided test level d)) ≡ leaves_before (branches_of b (cases_at test level o cases) e) (leaves_of e)
        by None k c = k
        by (Some inverse) k c = c inverse

    -- a switch that does not test
    kept : (b : WireBit) (cases : Cases) (d e : Decision) → Alike d e
        → leaves_before (branches_decided test level (branches_of b cases d)) (leaves_of (decided test level d)) ≡ leaves_before (branches_of b (cases_at test level None cases) e) (leaves_of e)
    kept b NoCase d e h = h
    kept b (OneCase [] assigns attributes switches rest) d e h =
        switches_alike b switches (after_assigns assigns b d) (after_assigns assigns b e) (assigns_alike assigns b d e h)
    kept b (OneCase (p ∷ ps) assigns attributes switches rest) d e h =
        λ i. switches_alike b switches (after_assigns assigns b d) (after_assigns assigns b e) (assigns_alike assigns b d e h) i ++ kept b rest d e h i

    -- a switch that does
    chosen : (b : WireBit) (inverse : Bool) (cases : Cases) (d e : Decision) → Alike d e
        → leaves_of (taken (tested_bit level inverse) (branches_decided test level (branches_of b cases d)) (decided test level d)) ≡ leaves_before (branches_of b (cases_at test level (Some inverse) cases) e) (leaves_of e)
    chosen b inverse NoCase d e h = h
    chosen b inverse (OneCase [] assigns attributes switches rest) d e h =
        switches_alike b switches (after_assigns assigns b d) (after_assigns assigns b e) (assigns_alike assigns b d e h)
    chosen b inverse (OneCase (p ∷ ps) assigns attributes switches rest) d e h =
        by (list_any (takes_bit (tested_bit level inverse)) (p ∷ ps)) (switches_alike b switches (after_assigns assigns b d) (after_assigns assigns b e) (assigns_alike assigns b d e h)) (chosen b inverse rest d e h)
      where
        inner : Switches
        inner = switches_at test level switches

        by : (t : Bool)
            → Alike (after_switches b switches (after_assigns assigns b d)) (after_switches b inner (after_assigns assigns b e))
            → leaves_of (taken (tested_bit level inverse) (branches_decided test level (branches_of b rest d)) (decided test level d)) ≡ leaves_before (branches_of b (cases_at test level (Some inverse) rest) e) (leaves_of e)
            → leaves_of (if t then decided test level (after_switches b switches (after_assigns assigns b d)) else taken (tested_bit level inverse) (branches_decided test level (branches_of b rest d)) (decided test level d))
            ≡ leaves_before (branches_of b (if t then OneCase [] assigns attributes inner NoCase else cases_at test level (Some inverse) rest) e) (leaves_of e)
        by true k c = k
        by false k c = c

  -- ---- expanded values

  -- the root at the level
  abbrev pub root_at : CaseView → CaseView
  root_at root = record root { switches = switches_at test level root.switches }

  within_alike : (root : CaseView) (bits : List WireBit) (n : ℕ) (s : SigBit) → Alike (expanded_within root bits n s) (expanded_within (root_at root) bits n s)
  within_alike root bits zero s = refl
  within_alike root bits (suc n) (Fixed c) = refl
  within_alike root bits (suc n) (OnWire b) = by (has_bit bits b) (within_alike root bits n)
    where
      by : (t : Bool) → ((s : SigBit) → Alike (expanded_within root bits n s) (expanded_within (root_at root) bits n s))
          → Alike (if t then with_leaves (expanded_within root bits n) (case_decision root b) else Leaf (OnWire b)) (if t then with_leaves (expanded_within (root_at root) bits n) (case_decision (root_at root) b) else Leaf (OnWire b))
      by false ih = refl
      by true ih =
          ap leaves_of (decided_replaced (expanded_within root bits n) (case_decision root b))
          ∙ leaves_replaced (λ s. decided test level (expanded_within root bits n s)) (decided test level (case_decision root b))
          ∙ flat_same (λ s. leaves_of (decided test level (expanded_within root bits n s))) (λ s. leaves_of (expanded_within (root_at root) bits n s)) ih (leaves_of (decided test level (case_decision root b)))
          ∙ ap (flat_map (λ s. leaves_of (expanded_within (root_at root) bits n s)))
          (switches_alike b root.switches (after_assigns root.assigns b (Leaf (Fixed X))) (after_assigns root.assigns b (Leaf (Fixed X))) (assigns_alike root.assigns b (Leaf (Fixed X)) (Leaf (Fixed X)) refl))
          ∙ sym (leaves_replaced (expanded_within (root_at root) bits n) (case_decision (root_at root) b))

  pub leveled_leaves : (root : CaseView) (bits : List WireBit) (s : SigBit) → leaves_of (decided test level (expanded root bits s)) ≡ leaves_of (expanded (root_at root) bits s)
  leveled_leaves root bits s = within_alike root bits (length bits) s
