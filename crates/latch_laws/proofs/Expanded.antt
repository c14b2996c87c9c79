-- The value of a bit through the tree bits that it comes from.
use Rattle.std.proofs.Common.{◌≡◌, ℕ, zero, suc, Bool, true, false, if◌then◌else◌, List, refl, sym, ◌∙◌, ap, subst}
use Rattle.rtl_bits.proofs.Orders.{Below_refl, Below_trans}
use Rattle.rtl_bits.specs.Knowledge.{Below}
use Rattle.rtl_bits.specs.declared.bit.Bit.{Bit}
use Rattle.rtl_bits.specs.declared.bit.Bit.TheVariants.{X}
use Rattle.rtl_ir.specs.Decisions.{Leaf, case_decision, expanded_within, with_leaves}
use Rattle.rtl_ir.specs.Signals.{has_bit}
use Rattle.rtl_ir.specs.Tree.{CaseView}
use Rattle.rtl_sig.specs.declared.sig.SigBit.{SigBit}
use Rattle.rtl_sig.specs.declared.sig.SigBit.TheVariants.{Fixed, Wire as OnWire}
use Rattle.rtl_sig.specs.declared.sig.WireBit.{WireBit}
use Rattle.mux_laws.proofs.TreeRead.{read_by}
use Rattle.build_laws.proofs.Moments.{Moment, seen}
use Rattle.latch_laws.proofs.Depths.{Ends, sources_end}
use Rattle.latch_laws.proofs.LeavesGiven.{EachLeaf, leaves_all, leaves_any, read_keeps, read_replaced}
use Rattle.latch_laws.proofs.SourcesGiven.{CaseGives, case_leaf}

module _ (m : Moment) (root : CaseView) (bits : List WireBit) where
  module _ (leaf : SigBit → Bit) where
    -- the value through at most so many tree bits one in another, where the others have these values
    abbrev pub through : ℕ → SigBit → Bit
    through n s = read_by m leaf (expanded_within root bits n s)

    -- of a tree bit it is that of its decision
    pub through_tree : (n : ℕ) (b : WireBit) → has_bit bits b ≡ true → through (suc n) (OnWire b) ≡ read_by m (through n) (case_decision root b)
    through_tree n b has =
        ap (λ (t : Bool). read_by m leaf (if t then with_leaves (expanded_within root bits n) (case_decision root b) else Leaf (OnWire b))) has
        ∙ read_replaced m leaf (expanded_within root bits n) (case_decision root b)

    -- of any other bit its own
    pub through_other : (n : ℕ) (b : WireBit) → has_bit bits b ≡ false → through n (OnWire b) ≡ leaf (OnWire b)
    through_other zero b none = refl
    through_other (suc n) b none =
        ap (λ (t : Bool). read_by m leaf (if t then with_leaves (expanded_within root bits n) (case_decision root b) else Leaf (OnWire b))) none

    pub through_fixed : (n : ℕ) (c : Bit) → through n (Fixed c) ≡ leaf (Fixed c)
    through_fixed zero c = refl
    through_fixed (suc n) c = refl

    same_below : (a b c : Bit) → a ≡ c → b ≡ c → Below a b
    same_below a b c e f = subst (λ z. Below z b) (sym e) (subst (Below c) (sym f) (Below_refl c))

    -- of a root case by the values of what it gives
    pub case_keeps : (g h : SigBit → Bit) (b : WireBit) → CaseGives (λ s. Below (g s) (h s)) b root → Below (g (Fixed X)) (h (Fixed X)) → Below (read_by m g (case_decision root b)) (read_by m h (case_decision root b))
    case_keeps g h b given x =
        read_keeps m g h (case_decision root b) (case_leaf (λ s. Below (g s) (h s)) b root given x)

    -- and of one, where so it is by what ends early
    pub ends_keep : (n k : ℕ) (b : WireBit) → ((s : SigBit) → Ends root bits n s → Ends root bits k s → Below (through n s) (through k s)) → has_bit bits b ≡ true → Ends root bits (suc n) (OnWire b) → Ends root bits (suc k) (OnWire b)
        → Below (read_by m (through n) (case_decision root b)) (read_by m (through k) (case_decision root b))
    ends_keep n k b same has i j =
        let first : EachLeaf (Ends root bits n) (case_decision root b) = case_leaf (Ends root bits n) b root (sources_end root bits n b has i) (fixed_ends n) in
        let second : EachLeaf (Ends root bits k) (case_decision root b) = case_leaf (Ends root bits k) b root (sources_end root bits k b has j) (fixed_ends k) in
        read_keeps m (through n) (through k) (case_decision root b)
        (leaves_all (Ends root bits n) (Ends root bits k) (λ s. Below (through n s) (through k s)) same (case_decision root b) first second)
      where
        fixed_ends : (l : ℕ) → Ends root bits l (Fixed X)
        fixed_ends zero = tt
        fixed_ends (suc l) = tt

    -- what ends early has one value, however far it is read
    pub stays : (n k : ℕ) (s : SigBit) → Ends root bits n s → Ends root bits k s → Below (through n s) (through k s)
    stays n k (Fixed c) i j = same_below _ _ (leaf (Fixed c)) (through_fixed n c) (through_fixed k c)
    stays zero k (OnWire b) i j = same_below _ _ (leaf (OnWire b)) (through_other zero b i) (through_other k b i)
    stays (suc n) zero (OnWire b) i j = same_below _ _ (leaf (OnWire b)) (through_other (suc n) b j) (through_other zero b j)
    stays (suc n) (suc k) (OnWire b) i j = by (has_bit bits b) refl (stays n k)
      where
        by : (t : Bool) → has_bit bits b ≡ t → ((s : SigBit) → Ends root bits n s → Ends root bits k s → Below (through n s) (through k s)) → Below (through (suc n) (OnWire b)) (through (suc k) (OnWire b))
        by false e later = same_below _ _ (leaf (OnWire b)) (through_other (suc n) b e) (through_other (suc k) b e)
        by true e later =
            subst (λ z. Below z (through (suc k) (OnWire b))) (sym (through_tree n b e))
            (subst (Below (read_by m (through n) (case_decision root b))) (sym (through_tree k b e)) (ends_keep n k b later e i j))

  -- where each tree bit has no more than its decision, a bit has no more than what is read through tree bits
  pub seen_through : ((b : WireBit) → has_bit bits b ≡ true → Below (seen m (OnWire b)) (read_by m (seen m) (case_decision root b))) → (n : ℕ) (s : SigBit) → Below (seen m s) (through (seen m) n s)
  seen_through tight zero s = Below_refl (seen m s)
  seen_through tight (suc n) (Fixed c) = Below_refl c
  seen_through tight (suc n) (OnWire b) = by (has_bit bits b) refl (seen_through tight n)
    where
      by : (t : Bool) → has_bit bits b ≡ t → ((s : SigBit) → Below (seen m s) (through (seen m) n s)) → Below (seen m (OnWire b)) (through (seen m) (suc n) (OnWire b))
      by false e later = subst (Below (seen m (OnWire b))) (sym (through_other (seen m) (suc n) b e)) (Below_refl (seen m (OnWire b)))
      by true e later =
          subst (Below (seen m (OnWire b))) (sym (through_tree (seen m) n b e))
          (Below_trans _ _ _ (tight b e) (read_keeps m (seen m) (through (seen m) n) (case_decision root b) (leaves_any (λ s. Below (seen m s) (through (seen m) n s)) later (case_decision root b))))
