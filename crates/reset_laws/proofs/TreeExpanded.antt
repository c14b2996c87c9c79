-- The value of a source that is expanded through the tree bits is below what the source has where the tree bits have their decisions.
use Rattle.std.proofs.Common.{◌≡◌, ℕ, zero, suc, Bool, true, false, List, [], ◌∷◌, refl, sym, subst}
use Rattle.std.specs.Prelude.{if◌then◌else◌, map}
use Rattle.rtl_bits.specs.declared.bit.Bit.{Bit}
use Rattle.rtl_bits.specs.declared.bit.Bit.TheVariants.{X}
use Rattle.rtl_bits.specs.Knowledge.{Below}
use Rattle.rtl_bits.proofs.Orders.{Below_refl, Below_trans}
use Rattle.rtl_sig.specs.declared.sig.SigBit.{SigBit}
use Rattle.rtl_sig.specs.declared.sig.SigBit.TheVariants.{Fixed, Wire as OnWire}
use Rattle.rtl_sig.specs.declared.sig.WireBit.{WireBit}
use Rattle.rtl_ir.specs.Decisions.{Branches, Choice, Decision, Leaf, NoBranch, OneBranch, case_decision, expanded_within, with_leaves}
use Rattle.rtl_ir.specs.Faults.TwoEdges.{SwitchTest, branch_patterns}
use Rattle.rtl_ir.specs.Flat.Pick.{no_test, pick_of}
use Rattle.rtl_ir.specs.Flat.Place.{Path}
use Rattle.rtl_ir.specs.Flat.Point.{bit_place, points}
use Rattle.rtl_ir.specs.Signals.{has_bit}
use Rattle.rtl_ir.specs.Tree.{CaseView}
use Rattle.rtl_ir.specs.declared.wire.Wire.{Wire}
use Rattle.net_model.specs.Picked.{case_match, picked}
use Rattle.net_model.specs.Proc.Reset.{switches_at}
use Rattle.net_model.specs.Valuation.{Valuation}
use Rattle.reset_laws.proofs.ChoiceEven.{EvenSwitches, level_value}
use Rattle.reset_laws.proofs.ChoiceReset.{IsTest, case_freed}
use Rattle.reset_laws.proofs.ChoiceValue.{AreSeen, branch_by, chosen_below, had, looked, picked_is, value_by, value_replaced, value_seen}

module _ (p : Path) (wires : List Wire) (w : Valuation) where
  -- better leaves give a better value
  module _ (test : SwitchTest) (reset : Bit) (low high : SigBit → Bit) (leaf : (s : SigBit) → Below (low s) (high s)) where
    mutual
      value_kept : (d : Decision) → Below (value_by p wires w test reset low d) (value_by p wires w test reset high d)
      value_kept (Leaf s) = leaf s
      value_kept (Choice signal branches last) =
          branch_kept (looked p wires w test reset (test signal (branch_patterns branches)) signal) branches _ _ (value_kept last)

      branch_kept : (bits : List Bit) (branches : Branches) (a b : Bit) → Below a b → Below (branch_by p wires w test reset low bits branches a) (branch_by p wires w test reset high bits branches b)
      branch_kept bits NoBranch a b h = h
      branch_kept bits (OneBranch [] value rest) a b h = value_kept value
      branch_kept bits (OneBranch (q ∷ qs) value rest) a b h =
          chosen_below _ _ _ _ _ _ (Below_refl (case_match w bits (map (points p wires) (q ∷ qs)))) (value_kept value) (branch_kept bits rest a b h)

  -- each of these tree bits has no less than its decision
  abbrev pub AreDecided : List WireBit → (WireBit → Decision) → Type 0
  AreDecided bits decision =
      (b : WireBit) → has_bit bits b ≡ true → Below (picked w X (pick_of no_test p wires (decision b))) (w (bit_place p wires b))

  module _ (test : SwitchTest) (reset : Bit) (root : CaseView) (bits : List WireBit) where
    abbrev value : Decision → Bit
    value d = value_by p wires w test reset (had p wires w) d

    -- where a bit is expanded, the value of its decision is below what it has
    IsStep : Type 0
    IsStep =
        (b : WireBit) → has_bit bits b ≡ true → (low : SigBit → Bit) → ((s : SigBit) → Below (low s) (had p wires w s)) →
        Below (value_by p wires w test reset low (case_decision root b)) (w (bit_place p wires b))

    within : IsStep → (n : ℕ) (s : SigBit) → Below (value (expanded_within root bits n s)) (had p wires w s)
    unfolding IsStep
    within step zero s = Below_refl (had p wires w s)
    within step (suc n) (Fixed c) = Below_refl c
    within step (suc n) (OnWire b) = by (has_bit bits b) refl (within step n)
      where
        by : (t : Bool) → has_bit bits b ≡ t → ((s : SigBit) → Below (value (expanded_within root bits n s)) (had p wires w s)) → Below (value (if t then with_leaves (expanded_within root bits n) (case_decision root b) else Leaf (OnWire b))) (w (bit_place p wires b))
        by false e h = Below_refl (w (bit_place p wires b))
        by true e h =
            subst (λ z. Below z (w (bit_place p wires b))) (sym (value_replaced p wires w test reset (had p wires w) (expanded_within root bits n) (case_decision root b)))
            (step b e (λ s. value (expanded_within root bits n s)) h)

    -- where the tests see the reset
    pub expanded_seen : AreSeen p wires w test reset → AreDecided bits (case_decision root) → (n : ℕ) (s : SigBit) → Below (picked w reset (pick_of test p wires (expanded_within root bits n s))) (had p wires w s)
    unfolding IsStep
    expanded_seen seen decided n s =
        subst (λ z. Below z (had p wires w s)) (sym (picked_is p wires w test reset (expanded_within root bits n s)))
        (within (λ b e low h. Below_trans (value_by p wires w test reset low (case_decision root b)) (value_by p wires w no_test X (had p wires w) (case_decision root b)) (w (bit_place p wires b))
        (value_seen p wires w test reset seen low (had p wires w) h (case_decision root b))
        (subst (λ z. Below z (w (bit_place p wires b))) (picked_is p wires w no_test X (case_decision root b)) (decided b e))) n s)

  -- the root case with the switches that test a reset decided at a level
  abbrev pub freed : SwitchTest → Bool → CaseView → CaseView
  freed test level root = record root { switches = switches_at test level root.switches }

  -- where the tree bits have the decisions of that root
  pub expanded_freed : (test : SwitchTest) → IsTest test → (level : Bool) (root : CaseView) (bits : List WireBit) → EvenSwitches root.switches → AreDecided bits (case_decision (freed test level root)) → (n : ℕ) (s : SigBit) → Below (picked w (level_value level) (pick_of test p wires (expanded_within root bits n s))) (had p wires w s)
  unfolding IsStep
  expanded_freed test fine level root bits even decided n s =
      let own : SigBit → Bit = had p wires w in
      let after : CaseView = freed test level root in
      subst (λ z. Below z (own s)) (sym (picked_is p wires w test (level_value level) (expanded_within root bits n s)))
      (within test (level_value level) root bits (λ b e low h. Below_trans (value_by p wires w test (level_value level) low (case_decision root b)) (value_by p wires w test (level_value level) own (case_decision root b)) (w (bit_place p wires b))
      (value_kept test (level_value level) low own h (case_decision root b))
      (Below_trans (value_by p wires w test (level_value level) own (case_decision root b)) (value_by p wires w no_test X own (case_decision after b)) (w (bit_place p wires b))
      (case_freed p wires w test fine level b own root even)
      (subst (λ z. Below z (w (bit_place p wires b))) (picked_is p wires w no_test X (case_decision after b)) (decided b e)))) n s)
