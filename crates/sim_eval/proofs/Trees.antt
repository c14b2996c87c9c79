-- Trees over numbered bits are trees over bits.
use Rattle.std.proofs.Common.{◌≡◌, ◌<◌, ℕ, Bool, true, false, if◌then◌else◌, Option, Some, None, List, [], ◌∷◌, length, map, refl, sym, ◌∙◌, ap, subst}
use Rattle.std.specs.Prelude.{nat_eq}
use Rattle.std.specs.List.{AllByRecursion}
use Rattle.rtl_bits.specs.declared.bit.Bit.{Bit}
use Rattle.rtl_bits.specs.declared.bit.Bit.TheVariants.{X}
use Rattle.rtl_bits.specs.Tables.{and_of, or_of}
use Rattle.rtl_ir.specs.Flat.Pick.{Pick, Is, where_of}
use Rattle.rtl_ir.specs.Flat.Place.{Place}
use Rattle.rtl_ir.specs.Flat.Point as flat
use Rattle.net_model.specs.Picked.{case_match, chosen_of, equal_of, pattern_match, picked_by, place_match, tested_of}
use Rattle.net_model.specs.Run.{Time}
use Rattle.net_model.specs.Valuation.{read, read_all}
use Rattle.flat_net.specs.declared.choices.Assign.{Assign}
use Rattle.flat_net.specs.declared.choices.Tree.{Tree}
use Rattle.flat_net.specs.declared.leaves.Source.{Source}
use Rattle.flat_net.specs.declared.net.Output.{Output}
use Rattle.flat_net.specs.declared.net.Point.{Point}
use Rattle.flat_net.specs.declared.net.Point.TheVariants.{Constant, At}
use Rattle.flat_net.specs.Choices.{Choices, NoChoice, OneChoice, Branches, NoBranch, OneBranch, BranchView}
use Rattle.flat_net.specs.Picks.{assigned_pick, branches_pick, choices_pick, leaf_pick, root_pick, source_of, tree_row}
use Rattle.flat_net.specs.Points.{place_at, AreApart, point_of, points_of}
use Rattle.flat_net.specs.Within.{AreBranchesWithin, AreChoicesWithin, ArePointsWithin, IsAssignWithin, IsBranchWithin, IsOutputWithin, IsPointWithin, IsSourceWithin, IsTreeWithin}
use Rattle.sim_eval.specs.declared.cell.Worked.{Worked}
use Rattle.sim_eval.specs.Advance.{Advances, Takes, output_fact}
use Rattle.sim_eval.specs.Numbers.{number_read, number_word, worked_bit}
use Rattle.sim_eval.specs.Shown.{shown}
use Rattle.sim_eval.specs.Trees.{assigned_value, branches_value, choices_value, compared, number_case_match, number_pattern_match, number_place_match, tree_value, unassigned}
use Rattle.sim_eval.proofs.Bridges.{read_same, word_same}
use Rattle.sim_eval.proofs.Tables.{found_at}
use Rattle.sim_eval.proofs.Taking.{advances_by, fact_of}

module _ (ps : List Place) (values : List Bit) (apart : AreApart ps) (same : length ps ≡ length values) where
  place_same : (s : Bit) (p : Point) → IsPointWithin (length ps) p → place_match (shown ps values) s (point_of ps p) ≡ number_place_match values s p
  place_same s (Constant b) h = refl
  place_same s (At n) h = ap (equal_of s) (found_at X ps values n apart same h)

  pattern_same : (signal : List Bit) (pattern : List Point) → ArePointsWithin (length ps) pattern → pattern_match (shown ps values) signal (points_of ps pattern) ≡ number_pattern_match values signal pattern
  pattern_same [] pattern h = refl
  pattern_same (s ∷ signal) [] h = refl
  pattern_same (s ∷ signal) (p ∷ pattern) h = λ i. and_of (place_same s p h.0 i) (pattern_same signal pattern h.1 i)

  case_same : (signal : List Bit) (patterns : List (List Point)) → AllByRecursion (ArePointsWithin (length ps)) patterns → case_match (shown ps values) signal (map (points_of ps) patterns) ≡ number_case_match values signal patterns
  case_same signal [] h = refl
  case_same signal (p ∷ patterns) h = λ i. or_of (pattern_same signal p h.0 i) (case_same signal patterns h.1 i)

  -- where sources come to what they have
  module _ (L : flat.Point → Bit) (r : Bit) (leaf : Source → Pick) (given : Source → Bit) (width : ℕ)
      (agree : (s : Source) → IsSourceWithin (length ps) width s → picked_by L (shown ps values) r (leaf s) ≡ given s)
      (none : L (flat.Constant X) ≡ given unassigned) (at : ℕ) where
    assigned_same : (assigns : List Assign) (e : Pick) (f : Bit) → AllByRecursion (IsAssignWithin (length ps) width) assigns → picked_by L (shown ps values) r e ≡ f
        → picked_by L (shown ps values) r (assigned_pick leaf at assigns e) ≡ assigned_value values r given at assigns f
    assigned_same [] e f h k = k
    assigned_same (a ∷ assigns) e f h k =
        assigned_same assigns (if nat_eq a.at at then leaf (source_of a) else e) (if nat_eq a.at at then given (source_of a) else f) h.1 (by (nat_eq a.at at))
      where
        by : (t : Bool) → picked_by L (shown ps values) r (if t then leaf (source_of a) else e) ≡ (if t then given (source_of a) else f)
        by true = agree (source_of a) h.0
        by false = k

    -- a choice by a signal or by a test of the reset
    where_same : (test : Option Bool) (signal : List Point) (patterns : List (List Point)) (met other : Pick) (a b : Bit) → ArePointsWithin (length ps) signal → AllByRecursion (ArePointsWithin (length ps)) patterns → picked_by L (shown ps values) r met ≡ a → picked_by L (shown ps values) r other ≡ b
        → picked_by L (shown ps values) r (where_of test (points_of ps signal) (map (points_of ps) patterns) met other) ≡ chosen_of (number_case_match values (compared values r signal test) patterns) a b
    where_same None signal patterns met other a b s h k m =
        let word = word_same ps values apart same signal s in
        let takes : case_match (shown ps values) (read_all (shown ps values) (points_of ps signal)) (map (points_of ps) patterns) ≡ number_case_match values (number_word values signal) patterns =
        (λ i. case_match (shown ps values) (word i) (map (points_of ps) patterns)) ∙ case_same (number_word values signal) patterns h in
        (λ i. chosen_of (takes i) (k i) (m i))
    where_same (Some inverse) signal patterns met other a b s h k m =
        let takes = case_same (tested_of inverse r ∷ []) patterns h in
        (λ i. chosen_of (takes i) (k i) (m i))

    mutual
      choices_same : (cs : Choices) (e : Pick) (f : Bit) → AreChoicesWithin (length ps) width cs → picked_by L (shown ps values) r e ≡ f
          → picked_by L (shown ps values) r (choices_pick ps leaf at cs e) ≡ choices_value values r given at cs f
      choices_same NoChoice e f h k = k
      choices_same (OneChoice signal test bs rest) e f h k =
          choices_same rest (branches_pick ps leaf at test (points_of ps signal) bs e e) (branches_value values r given at (compared values r signal test) bs f f) h.2
          (branches_same signal test bs e e f f h.0 h.1 k k)

      branches_same : (signal : List Point) (test : Option Bool) (bs : Branches) (e last : Pick) (f l : Bit) → ArePointsWithin (length ps) signal → AreBranchesWithin (length ps) width bs → picked_by L (shown ps values) r e ≡ f → picked_by L (shown ps values) r last ≡ l
          → picked_by L (shown ps values) r (branches_pick ps leaf at test (points_of ps signal) bs e last) ≡ branches_value values r given at (compared values r signal test) bs f l
      branches_same signal test NoBranch e last f l s h k m = m
      branches_same signal test (OneBranch [] assigns cs rest) e last f l s h k m =
          choices_same cs (assigned_pick leaf at assigns e) (assigned_value values r given at assigns f) h.2 (assigned_same assigns e f h.1 k)
      branches_same signal test (OneBranch (w ∷ ws) assigns cs rest) e last f l s h k m =
          let met = choices_same cs (assigned_pick leaf at assigns e) (assigned_value values r given at assigns f) h.2 (assigned_same assigns e f h.1 k) in
          let other = branches_same signal test rest e last f l s h.3 k m in
          where_same test signal (w ∷ ws) _ _ _ _ s h.0 met other

    -- a tree bit
    pub root_same : (root : BranchView) → IsBranchWithin (length ps) width root → picked_by L (shown ps values) r (root_pick ps leaf root at) ≡ tree_value values r given at root
    root_same root h =
        choices_same root.choices (assigned_pick leaf at root.assigns (Is (flat.Constant X))) _ h.choices (assigned_same root.assigns (Is (flat.Constant X)) (given unassigned) h.assigns none)

  -- the facts of the bits that a tree drives
  facts_same : (t : Time Place) (root : BranchView) (width : ℕ) (worked : Worked) → IsBranchWithin (length ps) width root → ((at : ℕ) → at < width → worked_bit worked at ≡ tree_value values X (λ s. number_read values s.from) at root)
      → (os : List Output) → AllByRecursion (IsOutputWithin (length ps) width) os → map (output_fact ps worked) os ≡ map (fact_of t (shown ps values)) (map (tree_row ps root) os)
  facts_same t root width worked h is [] w = refl
  facts_same t root width worked h is (o ∷ os) w =
      let value = is o.at w.0.1 ∙ sym (root_same (read (shown ps values)) X (leaf_pick ps) (λ s. number_read values s.from) width (λ s k. read_same ps values apart same s.from k.0) refl o.at root h) in
      let rest = facts_same t root width worked h is os w.1 in
      (λ i. record { place = place_at ps o.number; value = value i } ∷ rest i)

  -- the bits that a tree drives
  pub advances_tree : (t : Time Place) (tree : Tree) (worked : Worked) (new : List Bit) (changed : Bool) → IsTreeWithin (length ps) tree → ((at : ℕ) → at < tree.width → worked_bit worked at ≡ tree_value values X (λ s. number_read values s.from) at tree.root)
      → Takes ps (map (output_fact ps worked) tree.outputs) values new changed → Advances ps t (map (tree_row ps tree.root) tree.outputs) values new changed
  advances_tree t tree worked new changed within is h =
      advances_by ps t (map (tree_row ps tree.root) tree.outputs) values new changed
      (subst (λ z. Takes ps z values new changed) (facts_same t tree.root tree.width worked within.root is tree.outputs within.outputs) h)

pub numbers_within : (count width : ℕ) (os : List Output) → AllByRecursion (IsOutputWithin count width) os → AllByRecursion (λ (o : Output). o.number < count) os
numbers_within count width [] h = tt
numbers_within count width (o ∷ os) h = (h.0.0, numbers_within count width os h.1)
