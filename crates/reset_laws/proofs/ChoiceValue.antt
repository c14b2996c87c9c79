-- The value of a decision by what its leaves have, where some of its choices test a reset.
use Rattle.std.proofs.Common.{◌≡◌, Bool, List, [], ◌∷◌, ◌++◌, Option, Some, None, inl, refl, sym, ◌∙◌, ap, subst}
use Rattle.std.specs.Prelude.{map}
use Rattle.rtl_bits.specs.declared.bit.Bit.{Bit}
use Rattle.rtl_bits.specs.declared.bit.Bit.TheVariants.{S0, S1, X, Z, M, Dash}
use Rattle.rtl_bits.specs.Knowledge.{AreBelow, Below}
use Rattle.rtl_bits.specs.Tables.{merge_of}
use Rattle.rtl_bits.proofs.Orders.{Below_refl, Below_trans, merge_left, merge_right}
use Rattle.rtl_sig.specs.declared.sig.SigBit.{SigBit}
use Rattle.rtl_ir.specs.Decisions.{Branches, Choice, Decision, Leaf, NoBranch, OneBranch, branches_with_leaves, leaves_before, leaves_of, with_leaves}
use Rattle.rtl_ir.specs.Faults.TwoEdges.{SwitchTest, branch_patterns}
use Rattle.rtl_ir.specs.Flat.Pick.{Pick, no_test, pick_of, picks_of}
use Rattle.rtl_ir.specs.Flat.Place.{Path}
use Rattle.rtl_ir.specs.Flat.Point.{At, Constant, Point, point, points}
use Rattle.rtl_ir.specs.declared.wire.Wire.{Wire}
use Rattle.net_model.proofs.Members.{In-left, In-right}
use Rattle.net_model.proofs.Orders.{below}
use Rattle.net_model.specs.Lists.{In}
use Rattle.net_model.specs.Picked.{case_match, chosen_of, pattern_match, picked, picked_by, place_match, tested_of}
use Rattle.net_model.specs.Valuation.{Valuation, read, read_all}

-- what is chosen keeps the order
pub merge_chosen : (choice a b : Bit) → Below (merge_of a b) (chosen_of choice a b)
merge_chosen S0 a b = merge_right a b
merge_chosen S1 a b = merge_left a b
merge_chosen X a b = Below_refl (merge_of a b)
merge_chosen Z a b = Below_refl (merge_of a b)
merge_chosen M a b = Below_refl (merge_of a b)
merge_chosen Dash a b = Below_refl (merge_of a b)

pub chosen_below : (c c' a a' b b' : Bit) → Below c c' → Below a a' → Below b b' → Below (chosen_of c a b) (chosen_of c' a' b')
chosen_below S0 c' a a' b b' h i j = subst (λ z. Below b (chosen_of z a' b')) (sym h) j
chosen_below S1 c' a a' b b' h i j = subst (λ z. Below a (chosen_of z a' b')) (sym h) i
chosen_below c c' a a' b b' h i j =
    Below_trans (merge_of a b) (merge_of a' b') (chosen_of c' a' b') (below.bits.merge a a' b b' i j) (merge_chosen c' a' b')

-- what is below k on both ways is below k, whatever chooses
pub chosen_within : (c a b k : Bit) → Below a k → Below b k → Below (chosen_of c a b) k
chosen_within S0 a b k h i = i
chosen_within S1 a b k h i = h
chosen_within X a b k h i = Below_trans (merge_of a b) a k (merge_left a b) h
chosen_within Z a b k h i = Below_trans (merge_of a b) a k (merge_left a b) h
chosen_within M a b k h i = Below_trans (merge_of a b) a k (merge_left a b) h
chosen_within Dash a b k h i = Below_trans (merge_of a b) a k (merge_left a b) h

module _ (w : Valuation) where
  place_below : (a b : Bit) (q : Point) → Below a b → Below (place_match w a q) (place_match w b q)
  place_below a b (At q) h = below.bits.not _ _ (below.bits.xor a b (w q) (w q) h (Below_refl (w q)))
  place_below a b (Constant S0) h = below.bits.not _ _ (below.bits.xor a b S0 S0 h refl)
  place_below a b (Constant S1) h = below.bits.not _ _ (below.bits.xor a b S1 S1 h refl)
  place_below a b (Constant X) h = refl
  place_below a b (Constant Z) h = refl
  place_below a b (Constant M) h = refl
  place_below a b (Constant Dash) h = refl

  pattern_below : (ss ss' : List Bit) (q : List Point) → AreBelow ss ss' → Below (pattern_match w ss q) (pattern_match w ss' q)
  pattern_below [] [] q h = refl
  pattern_below (s ∷ ss) (s' ∷ ss') [] h = refl
  pattern_below (s ∷ ss) (s' ∷ ss') (a ∷ q) h =
      below.bits.and _ _ _ _ (place_below s s' a h.0) (pattern_below ss ss' q h.1)
  pattern_below [] (s' ∷ ss') q h = absurd h
  pattern_below (s ∷ ss) [] q h = absurd h

  -- better known signals match the better known
  pub case_below : (ss ss' : List Bit) (qs : List (List Point)) → AreBelow ss ss' → Below (case_match w ss qs) (case_match w ss' qs)
  case_below ss ss' [] h = refl
  case_below ss ss' (q ∷ qs) h = below.bits.or _ _ _ _ (pattern_below ss ss' q h) (case_below ss ss' qs h)

  pub self_below : (ss : List Bit) → AreBelow ss ss
  self_below [] = tt
  self_below (s ∷ ss) = (Below_refl s, self_below ss)

-- the patterns of branches stay where leaves are replaced
pub patterns_with_leaves : (f : SigBit → Decision) (branches : Branches) → branch_patterns (branches_with_leaves f branches) ≡ branch_patterns branches
patterns_with_leaves f NoBranch = refl
patterns_with_leaves f (OneBranch qs value rest) = ap (λ z. qs ++ z) (patterns_with_leaves f rest)

module _ (p : Path) (wires : List Wire) (w : Valuation) where
  -- what a point of a signal has
  abbrev pub had : SigBit → Bit
  had s = read w (point p wires s)

  module _ (test : SwitchTest) (reset : Bit) where
    -- what a choice looks at: its signal, or what a test of the reset gives
    abbrev pub looked : Option Bool → List SigBit → List Bit
    looked None signal = read_all w (points p wires signal)
    looked (Some inverse) signal = tested_of inverse reset ∷ []

    abbrev mutual
      -- the value of a decision whose leaves have these values
      pub value_by : (SigBit → Bit) → Decision → Bit
      value_by leaf (Leaf s) = leaf s
      value_by leaf (Choice signal branches last) =
          branch_by leaf (looked (test signal (branch_patterns branches)) signal) branches (value_by leaf last)

      -- the value of the branches of a choice that looks at these bits, with a last value
      pub branch_by : (SigBit → Bit) → List Bit → Branches → Bit → Bit
      branch_by leaf bits NoBranch last = last
      branch_by leaf bits (OneBranch [] value rest) last = value_by leaf value
      branch_by leaf bits (OneBranch (q ∷ qs) value rest) last =
          chosen_of (case_match w bits (map (points p wires) (q ∷ qs))) (value_by leaf value) (branch_by leaf bits rest last)

    module _ (leaf : Point → Bit) where
      -- what a signal's point has as a leaf
      abbrev at : SigBit → Bit
      at s = leaf (point p wires s)

      mutual
        -- it is what the flat netlist picks, whatever its leaves have
        pub picked_by_is : (d : Decision) → picked_by leaf w reset (pick_of test p wires d) ≡ value_by at d
        picked_by_is (Leaf s) = refl
        picked_by_is (Choice signal branches last) =
            let o : Option Bool = test signal (branch_patterns branches) in
            picks_are o signal branches (pick_of test p wires last)
            ∙ ap (branch_by at (looked o signal) branches) (picked_by_is last)

        picks_are : (o : Option Bool) (signal : List SigBit) (branches : Branches) (last : Pick) → picked_by leaf w reset (picks_of test p wires o signal branches last) ≡ branch_by at (looked o signal) branches (picked_by leaf w reset last)
        picks_are o signal NoBranch last = refl
        picks_are o signal (OneBranch [] value rest) last = picked_by_is value
        picks_are None signal (OneBranch (q ∷ qs) value rest) last =
            λ i. chosen_of (case_match w (looked None signal) (map (points p wires) (q ∷ qs))) (picked_by_is value i) (picks_are None signal rest last i)
        picks_are (Some inverse) signal (OneBranch (q ∷ qs) value rest) last =
            λ i. chosen_of (case_match w (looked (Some inverse) signal) (map (points p wires) (q ∷ qs))) (picked_by_is value i) (picks_are (Some inverse) signal rest last i)

    -- so with what its points have
    pub picked_is : (d : Decision) → picked w reset (pick_of test p wires d) ≡ value_by had d
    picked_is d = picked_by_is (read w) d

    module _ (leaf : SigBit → Bit) (f : SigBit → Decision) where
      abbrev below_leaf : SigBit → Bit
      below_leaf s = value_by leaf (f s)

      mutual
        -- where leaves are replaced, they have the values of what stands there
        pub value_replaced : (d : Decision) → value_by leaf (with_leaves f d) ≡ value_by below_leaf d
        value_replaced (Leaf s) = refl
        value_replaced (Choice signal branches last) =
            (λ i. branch_by leaf (looked (test signal (patterns_with_leaves f branches i)) signal) (branches_with_leaves f branches) (value_replaced last i))
            ∙ branch_replaced (looked (test signal (branch_patterns branches)) signal) branches (value_by below_leaf last)

        branch_replaced : (bits : List Bit) (branches : Branches) (last : Bit) → branch_by leaf bits (branches_with_leaves f branches) last ≡ branch_by below_leaf bits branches last
        branch_replaced bits NoBranch last = refl
        branch_replaced bits (OneBranch [] value rest) last = value_replaced value
        branch_replaced bits (OneBranch (q ∷ qs) value rest) last =
            λ i. chosen_of (case_match w bits (map (points p wires) (q ∷ qs))) (value_replaced value i) (branch_replaced bits rest last i)

    module _ (leaf : SigBit → Bit) (k : Bit) where
      -- these leaves have no more than k
      abbrev pub Bounded : List SigBit → Type 0
      Bounded leaves = (s : SigBit) → In s leaves → Below (leaf s) k

      mutual
        pub value_within : (d : Decision) → Bounded (leaves_of d) → Below (value_by leaf d) k
        value_within (Leaf s) h = h s (inl refl)
        value_within (Choice signal branches last) h =
            branch_within (looked (test signal (branch_patterns branches)) signal) branches (value_by leaf last) (leaves_of last) (value_within last) h

        pub branch_within : (bits : List Bit) (branches : Branches) (last : Bit) (leaves : List SigBit) → (Bounded leaves → Below last k) → Bounded (leaves_before branches leaves) → Below (branch_by leaf bits branches last) k
        branch_within bits NoBranch last leaves h i = h i
        branch_within bits (OneBranch [] value rest) last leaves h i = value_within value i
        branch_within bits (OneBranch (q ∷ qs) value rest) last leaves h i =
            chosen_within (case_match w bits (map (points p wires) (q ∷ qs))) (value_by leaf value) (branch_by leaf bits rest last) k
            (value_within value (λ s j. i s (In-left s (leaves_of value) (leaves_before rest leaves) j)))
            (branch_within bits rest last leaves h (λ s j. i s (In-right s (leaves_of value) (leaves_before rest leaves) j)))

  -- a test that is seen in the valuation: where a signal tests the reset, it has no less than the test gives
  abbrev pub AreSeen : SwitchTest → Bit → Type 0
  AreSeen test reset =
      (signal : List SigBit) (patterns : List (List SigBit)) (inverse : Bool) → test signal patterns ≡ Some inverse →
      AreBelow (tested_of inverse reset ∷ []) (read_all w (points p wires signal))

  module _ (test : SwitchTest) (reset : Bit) (seen : AreSeen test reset) (low high : SigBit → Bit) (leaf : (s : SigBit) → Below (low s) (high s)) where
    looked_below : (o : Option Bool) (signal : List SigBit) (patterns : List (List SigBit)) → test signal patterns ≡ o → AreBelow (looked test reset o signal) (read_all w (points p wires signal))
    looked_below None signal patterns e = self_below w (read_all w (points p wires signal))
    looked_below (Some inverse) signal patterns e = seen signal patterns inverse e

    mutual
      -- so the value is below the one that looks at the signals themselves
      pub value_seen : (d : Decision) → Below (value_by test reset low d) (value_by no_test X high d)
      value_seen (Leaf s) = leaf s
      value_seen (Choice signal branches last) =
          branch_seen (looked test reset (test signal (branch_patterns branches)) signal) (read_all w (points p wires signal)) (looked_below (test signal (branch_patterns branches)) signal (branch_patterns branches) refl) branches (value_by test reset low last) (value_by no_test X high last) (value_seen last)

      branch_seen : (bits bits' : List Bit) → AreBelow bits bits' → (branches : Branches) (a b : Bit) → Below a b → Below (branch_by test reset low bits branches a) (branch_by no_test X high bits' branches b)
      branch_seen bits bits' h NoBranch a b i = i
      branch_seen bits bits' h (OneBranch [] value rest) a b i = value_seen value
      branch_seen bits bits' h (OneBranch (q ∷ qs) value rest) a b i =
          chosen_below _ _ _ _ _ _ (case_below w bits bits' (map (points p wires) (q ∷ qs)) h) (value_seen value) (branch_seen bits bits' h rest a b i)
