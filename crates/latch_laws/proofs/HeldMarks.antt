-- Where a bit holds, its enable is 0; where it does not, its enable is 1 and its data has no less than its new value.
use Rattle.std.proofs.Common.{◌≡◌, ◌<◌, ℕ, Bool, true, false, if◌then◌else◌, List, [], ◌∷◌, length, refl, sym, ◌∙◌, ap, subst}
use Rattle.rtl_bits.proofs.Orders.{Below_refl, Below_trans}
use Rattle.rtl_bits.proofs.Tables.{merge_of_mono}
use Rattle.rtl_bits.specs.Knowledge.{Below}
use Rattle.rtl_bits.specs.Tables.{merge_of, not_of}
use Rattle.rtl_bits.specs.declared.bit.Bit.{Bit}
use Rattle.rtl_bits.specs.declared.bit.Bit.TheVariants.{S0, S1, X}
use Rattle.rtl_ir.specs.Decisions.{Branches, Choice, Decision, Leaf, NoBranch, OneBranch, expanded}
use Rattle.rtl_ir.specs.Flat.Pick.{no_test, pick_of}
use Rattle.rtl_ir.specs.Flat.Place.{place_same}
use Rattle.rtl_ir.specs.Flat.Point.{bit_place, point}
use Rattle.rtl_ir.specs.Signals.{same_bit}
use Rattle.rtl_ir.specs.Tree.{CaseView}
use Rattle.rtl_sig.specs.declared.sig.SigBit.{SigBit}
use Rattle.rtl_sig.specs.declared.sig.SigBit.TheVariants.{Fixed, Wire as OnWire}
use Rattle.rtl_sig.specs.declared.sig.WireBit.{WireBit}
use Rattle.pass_laws.proofs.Once.{same_bit-refl, same_bit-true}
use Rattle.net_model.proofs.Places.{place_same-same}
use Rattle.net_model.proofs.Ranges.{BranchesIn, DecisionIn, RootIn, expanded_in}
use Rattle.net_model.specs.Picked.{chosen_of, holds_of, mark_of}
use Rattle.net_model.specs.Proc.Latch.{ForData, ForEnable}
use Rattle.net_model.specs.Within.{BitIn}
use Rattle.mux_laws.proofs.MatchBits.{any_matched}
use Rattle.mux_laws.proofs.TreeRead.{picked_is, read_branches, read_by}
use Rattle.build_laws.proofs.Moments.{Moment, seen}
use Rattle.latch_laws.proofs.ChainLeaves.{read_leaf, side_through}
use Rattle.latch_laws.proofs.LeavesGiven.{EachBranchLeaf, EachLeaf, chosen_keeps, leaves_map, read_keeps}

-- the inverse of a choice is below the choice of the inverses
turned_merge : (a b : Bit) → Below (not_of (merge_of a b)) (merge_of (not_of a) (not_of b))
turned_merge S0 S0 = refl
turned_merge S1 S1 = refl
turned_merge a b = tt

turned_choice : (c a b : Bit) → Below (not_of (chosen_of c a b)) (chosen_of c (not_of a) (not_of b))
turned_choice S1 a b = Below_refl (not_of a)
turned_choice S0 a b = Below_refl (not_of b)
turned_choice c a b = turned_merge a b

-- both bits of a merge that is 0 are 0
both_zero : (a b : Bit) → merge_of a b ≡ S0 → (a ≡ S0) × (b ≡ S0)
both_zero S0 S0 e = (refl, refl)
both_zero S1 S1 e = absurd (cc)
both_zero a b e = absurd (cc)

-- where a choice of marks is 0, so is each mark that it reaches
chosen_zero : (c f g a b a' b' : Bit) → chosen_of c f g ≡ S0 → (f ≡ S0 → Below a a') → (g ≡ S0 → Below b b') → Below (chosen_of c a b) (chosen_of c a' b')
chosen_zero S1 f g a b a' b' e h k = h e
chosen_zero S0 f g a b a' b' e h k = k e
chosen_zero c f g a b a' b' e h k = let both = both_zero f g e in merge_of_mono a a' b b' (h both.0) (k both.1)

module _ (m : Moment) where
  module _ (f : SigBit → Bit) where
    mutual
      -- the inverse of a decision is below the decision of the inverses
      turned : (d : Decision) → Below (not_of (read_by m f d)) (read_by m (λ s. not_of (f s)) d)
      turned (Leaf s) = Below_refl (not_of (f s))
      turned (Choice signal branches last) = turned_branches signal branches (read_by m f last) (read_by m (λ s. not_of (f s)) last) (turned last)

      turned_branches : (signal : List SigBit) (branches : Branches) (a b : Bit) → Below (not_of a) b → Below (not_of (read_branches m f signal branches a)) (read_branches m (λ s. not_of (f s)) signal branches b)
      turned_branches signal NoBranch a b h = h
      turned_branches signal (OneBranch [] value rest) a b h = turned value
      turned_branches signal (OneBranch (p ∷ patterns) value rest) a b h =
          Below_trans _ _ _ (turned_choice (any_matched m signal (p ∷ patterns)) _ _)
          (chosen_keeps (any_matched m signal (p ∷ patterns)) _ _ _ _ (turned value) (turned_branches signal rest a b h))

  -- where the decision of marks is 0, only leaves of mark 0 count
  module _ (f g h : SigBit → Bit) (keeps : (s : SigBit) → f s ≡ S0 → Below (g s) (h s)) where
    mutual
      zero_keeps : (d : Decision) → read_by m f d ≡ S0 → Below (read_by m g d) (read_by m h d)
      zero_keeps (Leaf s) e = keeps s e
      zero_keeps (Choice signal branches last) e =
          zero_branches signal branches (read_by m f last) (read_by m g last) (read_by m h last) e (zero_keeps last)

      zero_branches : (signal : List SigBit) (branches : Branches) (x a b : Bit) → read_branches m f signal branches x ≡ S0 → (x ≡ S0 → Below a b) → Below (read_branches m g signal branches a) (read_branches m h signal branches b)
      zero_branches signal NoBranch x a b e k = k e
      zero_branches signal (OneBranch [] value rest) x a b e k = zero_keeps value e
      zero_branches signal (OneBranch (p ∷ patterns) value rest) x a b e k =
          chosen_zero (any_matched m signal (p ∷ patterns)) (read_by m f value) (read_branches m f signal rest x) _ _ _ _ e (zero_keeps value) (λ r. zero_branches signal rest x a b r k)

-- leaves name wires that are there
mutual
  leaves_within : (count : ℕ) (d : Decision) → DecisionIn count d → EachLeaf (BitIn count) d
  leaves_within count (Leaf s) h = h
  leaves_within count (Choice signal branches last) h = (branch_leaves_within count branches h.1.0, leaves_within count last h.1.1)

  branch_leaves_within : (count : ℕ) (branches : Branches) → BranchesIn count branches → EachBranchLeaf (BitIn count) branches
  branch_leaves_within count NoBranch h = tt
  branch_leaves_within count (OneBranch patterns value rest) h = (leaves_within count value h.1.0, branch_leaves_within count rest h.1.1)

module _ (m : Moment) (count : ℕ) (q : WireBit) where
  -- whether a leaf is the bit itself
  abbrev mark : SigBit → Bit
  mark s = mark_of (bit_place m.path m.wires q) (point m.path m.wires s)

  -- bits of wires that are there, at the place of the bit itself, are it
  abbrev pub IsAlone : Type 0
  IsAlone = (b : WireBit) → b.wire < count → bit_place m.path m.wires b ≡ bit_place m.path m.wires q → b ≡ q

  -- the enable of a leaf
  enable_leaf : IsAlone → (s : SigBit) → BitIn count s → Below (not_of (mark s)) (seen m (read_leaf ForEnable q s))
  enable_leaf alone (Fixed c) i = refl
  enable_leaf alone (OnWire b) i = by (place_same (bit_place m.path m.wires b) (bit_place m.path m.wires q)) (same_bit b q) refl refl
    where
      by : (t u : Bool) → place_same (bit_place m.path m.wires b) (bit_place m.path m.wires q) ≡ t → same_bit b q ≡ u → Below (not_of (if t then S1 else S0)) (seen m (if u then Fixed S0 else Fixed S1))
      by true true e f = refl
      by false false e f = refl
      by true false e f =
          absurd (let same : b ≡ q = alone b i ((place_same-same (bit_place m.path m.wires b) (bit_place m.path m.wires q)).0 e) in
          let g : same_bit b q ≡ true = ap (same_bit b) (sym same) ∙ same_bit-refl b in cc)
      by false true e f =
          absurd (let g : place_same (bit_place m.path m.wires b) (bit_place m.path m.wires q) ≡ true = (place_same-same (bit_place m.path m.wires b) (bit_place m.path m.wires q)).1 (ap (bit_place m.path m.wires) (same_bit-true b q f)) in cc)

  -- the data of a leaf that is not the bit itself
  data_leaf : (s : SigBit) → mark s ≡ S0 → Below (seen m s) (seen m (read_leaf ForData q s))
  data_leaf (Fixed c) e = Below_refl c
  data_leaf (OnWire b) e = by (place_same (bit_place m.path m.wires b) (bit_place m.path m.wires q)) (same_bit b q) refl refl e
    where
      by : (t u : Bool) → place_same (bit_place m.path m.wires b) (bit_place m.path m.wires q) ≡ t → same_bit b q ≡ u → (if t then S1 else S0) ≡ S0 → Below (seen m (OnWire b)) (seen m (if u then Fixed X else OnWire b))
      by true u g h f = absurd (cc)
      by false false g h f = Below_refl (seen m (OnWire b))
      by false true g h f =
          absurd (let k : place_same (bit_place m.path m.wires b) (bit_place m.path m.wires q) ≡ true = (place_same-same (bit_place m.path m.wires b) (bit_place m.path m.wires q)).1 (ap (bit_place m.path m.wires) (same_bit-true b q h)) in cc)

  module _ (root : CaseView) (bits : List WireBit) (source : SigBit) where
    -- whether the bit holds, over the valuation
    abbrev pub holds : Bit
    holds = holds_of (bit_place m.path m.wires q) m.has (pick_of no_test m.path m.wires (expanded root bits source))

    holds_is : holds ≡ read_by m mark (expanded root bits source)
    holds_is = picked_is m (mark_of (bit_place m.path m.wires q)) X (expanded root bits source)

    -- the enable is the inverse of whether it holds
    pub enable_turned : IsAlone → RootIn count root → BitIn count source → Below (not_of holds) (side_through m root bits ForEnable q (length bits) source)
    enable_turned alone is within =
        let d : Decision = expanded root bits source in
        subst (λ z. Below (not_of z) (read_by m (λ s. seen m (read_leaf ForEnable q s)) d)) (sym holds_is)
        (Below_trans _ _ _ (turned m mark d)
        (read_keeps m (λ s. not_of (mark s)) (λ s. seen m (read_leaf ForEnable q s)) d
        (leaves_map (BitIn count) (λ s. Below (not_of (mark s)) (seen m (read_leaf ForEnable q s))) (enable_leaf alone) d (leaves_within count d (expanded_in count root bits source is within)))))

    -- where it does not hold, its data has no less than what is read through tree bits
    pub data_kept : holds ≡ S0 → Below (read_by m (seen m) (expanded root bits source)) (side_through m root bits ForData q (length bits) source)
    data_kept e =
        zero_keeps m mark (seen m) (λ s. seen m (read_leaf ForData q s)) data_leaf (expanded root bits source) (sym holds_is ∙ e)
