-- The bits that trees give values to, over their roots in numbers.
use Rattle.std.proofs.Common.{◌≡◌, ℕ, zero, suc, ◌<◌, ◌≤◌, if◌then◌else◌, List, [], ◌∷◌, ◌++◌, length, drop, ◌-◌, Option, Some, None, slice_get, refl, sym, ◌∙◌, ap, subst, map}
use Rattle.std.specs.Prelude.{position, reverse}
use Rattle.std.specs.List.{AllByRecursion}
use Rattle.std.specs.Option.{option_map_or}
use Rattle.std.proofs.lemmas.List.{reverse-append}
use Rattle.std.proofs.lemmas.Option.{get_or_from_slice_get, slice_get_within}
use Rattle.rtl_bits.specs.declared.bit.Bit.{Bit}
use Rattle.rtl_bits.specs.declared.bit.Bit.TheVariants.{X}
use Rattle.rtl_sig.specs.declared.sig.SigBit.{SigBit}
use Rattle.rtl_sig.specs.declared.sig.SigBit.TheVariants.{Fixed, Wire as OnWire}
use Rattle.rtl_sig.specs.declared.sig.WireBit.{WireBit}
use Rattle.rtl_ir.specs.declared.wire.Wire.{Wire}
use Rattle.rtl_ir.specs.Decisions as rtl
use Rattle.rtl_ir.specs.Decisions.{Decision, Leaf, branches_with_leaves, case_decision, expanded_within, with_leaves}
use Rattle.rtl_ir.specs.Faults.TwoEdges.{SwitchTest}
use Rattle.rtl_ir.specs.Flat.Driver.{Decided, Driven}
use Rattle.rtl_ir.specs.Flat.Pick.{Is, no_test, pick_of}
use Rattle.rtl_ir.specs.Flat.Place.{Path, Place}
use Rattle.rtl_ir.specs.Flat.Point.{bit_place}
use Rattle.rtl_ir.specs.Flat.Process.{tree_bit_rows}
use Rattle.rtl_ir.specs.Signals.{same_bit}
use Rattle.rtl_ir.specs.Tree.{CaseView}
use Rattle.std.specs.Global.{Box}
use Rattle.flat_net.specs.declared.choices.Tree.{Tree}
use Rattle.flat_net.specs.declared.leaves.Source.{Source}
use Rattle.flat_net.specs.declared.net.Output.{Output}
use Rattle.flat_net.specs.declared.net.Part.TheVariants as part
use Rattle.flat_net.specs.Choices.{BranchView}
use Rattle.flat_net.specs.Known.{Keeps}
use Rattle.flat_net.specs.Parts.{part_rows}
use Rattle.flat_net.specs.Picks.{branch_pick, expanded_pick, leaf_pick, root_pick, tree_pick, tree_row}
use Rattle.flat_net.specs.Points.{place_at}
use Rattle.flat_net.specs.Trees.{AreLeaves, AreOutputs, IsOutput, IsTree, IsBranch, IsSource}
use Rattle.flat_net.specs.Within.{IsBranchWithin, IsOutputWithin, IsPartWithin, IsTreeWithin}
use Rattle.flat_net.proofs.TreeBits.{drop_here, not_placed, placed_at}
use Rattle.flat_net.proofs.Branching.{IsBranch-kept}

-- leaves in the place of themselves
mutual
  leaves_stay : (d : Decision) → with_leaves (λ s. Leaf s) d ≡ d
  leaves_stay (Leaf s) = refl
  leaves_stay (rtl.Choice signal branches last) = λ i. rtl.Choice signal (branches_stay branches i) (leaves_stay last i)

  branches_stay : (bs : rtl.Branches) → branches_with_leaves (λ s. Leaf s) bs ≡ bs
  branches_stay rtl.NoBranch = refl
  branches_stay (rtl.OneBranch patterns value rest) = λ i. rtl.OneBranch patterns (leaves_stay value i) (branches_stay rest i)

module _ (test : SwitchTest) (p : Path) (wires : List Wire) (bits : List WireBit) where
  -- sources as they stand are leaves
  AreLeaves-plain : (ps : List Place) → AreLeaves ps test p wires bits (leaf_pick ps) (λ s. Leaf s)
  AreLeaves-plain ps = record { are = λ source s is. ap Is is.from.is }

  root_is : (ps : List Place) (root : BranchView) (c : CaseView) → IsBranch ps test p wires bits root c → (at : ℕ) (b : WireBit) → slice_get bits at ≡ Some b → tree_pick ps root at ≡ pick_of test p wires (case_decision c b)
  root_is ps root c h at b there = h.is (leaf_pick ps) (λ s. Leaf s) (AreLeaves-plain ps) at b there (Leaf (Fixed X)) ∙ ap (pick_of test p wires) (leaves_stay (case_decision c b))

  -- a constant is expanded to itself
  constant_stays : (c : CaseView) (n : ℕ) (x : Bit) → expanded_within c bits n (Fixed x) ≡ Leaf (Fixed x)
  constant_stays c zero x = refl
  constant_stays c (suc n) x = refl

  -- a source expanded through the tree bits
  pub expanded_is : (ps : List Place) (root : BranchView) (c : CaseView) → IsBranch ps test p wires bits root c → (n : ℕ) (source : Source) (s : SigBit) → IsSource ps p wires bits source s
      → expanded_pick ps root n source ≡ pick_of test p wires (expanded_within c bits n s)
  expanded_is ps root c h zero source s is = ap Is is.from.is
  expanded_is ps root c h (suc n) source (Fixed x) is = ap (λ o. option_map_or (root_pick ps (expanded_pick ps root n) root) o (leaf_pick ps source)) is.tree ∙ ap Is is.from.is
  expanded_is ps root c h (suc n) source (OnWire b) is =
      ap (λ o. option_map_or (root_pick ps (expanded_pick ps root n) root) o (leaf_pick ps source)) is.tree ∙ by (record { are = λ source s is. expanded_is ps root c h n source s is }) (position (same_bit b) bits) refl
    where
      by : AreLeaves ps test p wires bits (expanded_pick ps root n) (expanded_within c bits n) → (o : Option ℕ) → position (same_bit b) bits ≡ o
          → option_map_or (root_pick ps (expanded_pick ps root n) root) o (leaf_pick ps source) ≡ pick_of test p wires (expanded_within c bits (suc n) (OnWire b))
      by leaves None e = ap Is is.from.is ∙ ap (λ t. pick_of test p wires (if t then with_leaves (expanded_within c bits n) (case_decision c b) else Leaf (OnWire b))) (sym (not_placed bits b e))
      by leaves (Some at) e =
          let there = placed_at bits b at e in
          ap (branch_pick ps (expanded_pick ps root n) at root) (ap (pick_of test p wires) (sym (constant_stays c n X)))
          ∙ h.is (expanded_pick ps root n) (expanded_within c bits n) leaves at b there.0 (Leaf (Fixed X))
          ∙ ap (λ t. pick_of test p wires (if t then with_leaves (expanded_within c bits n) (case_decision c b) else Leaf (OnWire b))) (sym there.1)

module _ (p : Path) (wires : List Wire) (bits : List WireBit) where
  -- the bits that a tree drives

  pub AreOutputs-kept : (ps qs : List Place) → Keeps ps qs → (os : List Output) (bs : List WireBit) → AreOutputs ps p wires bits os bs → AreOutputs qs p wires bits os bs
  AreOutputs-kept ps qs keeps [] [] h = tt
  AreOutputs-kept ps qs keeps [] (b ∷ bs) h = absurd h
  AreOutputs-kept ps qs keeps (o ∷ os) [] h = absurd h
  AreOutputs-kept ps qs keeps (o ∷ os) (b ∷ bs) h =
      (record { number = keeps o.number _ h.0.number; at = h.0.at }, AreOutputs-kept ps qs keeps os bs h.1)

  pub AreOutputs-end : (ps : List Place) (os : List Output) (bs : List WireBit) (o : Output) (b : WireBit) → AreOutputs ps p wires bits os bs → IsOutput ps p wires bits o b → AreOutputs ps p wires bits (os ++ o ∷ []) (bs ++ b ∷ [])
  AreOutputs-end ps [] [] o b h k = (k, tt)
  AreOutputs-end ps [] (c ∷ bs) o b h k = absurd h
  AreOutputs-end ps (x ∷ os) [] o b h k = absurd h
  AreOutputs-end ps (x ∷ os) (c ∷ bs) o b h k = (h.0, AreOutputs-end ps os bs o b h.1 k)

  -- one bit more, from the last one on
  pub AreOutputs-next : (ps qs : List Place) (os new : List Output) (number at : ℕ) (b : WireBit) (i : ℕ) → Keeps ps qs → 0 < i → i ≤ length bits → AreOutputs ps p wires bits os (reverse (drop i bits)) → slice_get qs number ≡ Some (bit_place p wires b)
      → slice_get bits (i - 1) ≡ Some b → at ≡ i - 1 → new ≡ os ++ record { number = number; at = at } ∷ [] → AreOutputs qs p wires bits new (reverse (drop (i - 1) bits))
  AreOutputs-next ps qs os new number at b i keeps above within h there here is put =
      let front : drop (i - 1) bits ≡ b ∷ drop i bits = drop_here bits i b above within ∙ ap (λ x. x ∷ drop i bits) (get_or_from_slice_get bits (i - 1) b b here) in
      let back : reverse (drop (i - 1) bits) ≡ reverse (drop i bits) ++ b ∷ [] = ap reverse front ∙ reverse-append (b ∷ []) (drop i bits) in
      let at_here : slice_get bits at ≡ Some b = subst (λ k. slice_get bits k ≡ Some b) (sym is) here in
      subst (AreOutputs qs p wires bits new) (sym back)
      (subst (λ z. AreOutputs qs p wires bits z (reverse (drop i bits) ++ b ∷ [])) (sym put) (AreOutputs-end qs os (reverse (drop i bits)) (record { number = number; at = at }) b (AreOutputs-kept ps qs keeps os (reverse (drop i bits)) h) (record { number = there; at = at_here })))

  -- they are the rows of the tree bits
  outputs_are : (start : SigBit → Bit) (ps : List Place) (root : BranchView) (c : CaseView) → IsBranch ps no_test p wires bits root c → (os : List Output) (bs : List WireBit) → AreOutputs ps p wires bits os bs
      → map (tree_row ps root) os ≡ tree_bit_rows start p wires c bs
  outputs_are start ps root c h [] [] k = refl
  outputs_are start ps root c h [] (b ∷ bs) k = absurd k
  outputs_are start ps root c h (o ∷ os) [] k = absurd k
  outputs_are start ps root c h (o ∷ os) (b ∷ bs) k =
      let place : place_at ps o.number ≡ bit_place p wires b = get_or_from_slice_get ps o.number _ _ k.0.number in
      let tree = root_is no_test p wires bits ps root c h o.at b k.0.at in
      let rest = outputs_are start ps root c h os bs k.1 in
      (λ i. record { place = place i; driver = Decided (tree i) } ∷ rest i)

  outputs_within : (ps : List Place) (os : List Output) (bs : List WireBit) → AreOutputs ps p wires bits os bs → AllByRecursion (IsOutputWithin (length ps) (length bits)) os
  outputs_within ps [] bs k = tt
  outputs_within ps (o ∷ os) [] k = absurd k
  outputs_within ps (o ∷ os) (b ∷ bs) k =
      ((slice_get_within ps o.number _ k.0.number, slice_get_within bits o.at _ k.0.at), outputs_within ps os bs k.1)

  pub tree_made : (start : SigBit → Bit) (ps qs : List Place) (root : BranchView) (width : ℕ) (os : List Output) (c : CaseView) (bs : List WireBit) → Keeps ps qs → IsBranch ps no_test p wires bits root c → AreOutputs qs p wires bits os bs → length bits ≡ width
      → IsTree qs (record { width = width; root = root; outputs = os }) (tree_bit_rows start p wires c bs)
  tree_made start ps qs root width os c bs keeps h k e =
      let here = IsBranch-kept no_test p wires bits ps qs keeps root c h in
      record {
        are = outputs_are start qs root c here os bs k;
        within = record { root = subst (λ w. IsBranchWithin (length qs) w root) e here.within; outputs = subst (λ w. AllByRecursion (IsOutputWithin (length qs) w) os) e (outputs_within qs os bs k) };
      }

-- the part of a tree
pub tree_part : (ps : List Place) (box : Box Tree) (t : Tree) (rows : List Driven) → box.value ≡ t → IsTree ps t rows → (part_rows ps (part.Tree box) ≡ rows) × IsPartWithin (length ps) (part.Tree box)
tree_part ps box t rows e h = (ap (λ (t : Tree). map (tree_row ps t.root) t.outputs) e ∙ h.are, subst (IsTreeWithin (length ps)) (sym e) h.within)

-- the bits in order, from the last place on
pub list_next : (bits list new : List WireBit) (b : WireBit) (i : ℕ) → 0 < i → i ≤ length bits → list ≡ reverse (drop i bits) → slice_get bits (i - 1) ≡ Some b → new ≡ list ++ b ∷ [] → new ≡ reverse (drop (i - 1) bits)
list_next bits list new b i above within h there put =
    let front : drop (i - 1) bits ≡ b ∷ drop i bits = drop_here bits i b above within ∙ ap (λ x. x ∷ drop i bits) (get_or_from_slice_get bits (i - 1) b b there) in
    put ∙ ap (λ xs. xs ++ b ∷ []) h ∙ sym (ap reverse front ∙ reverse-append (b ∷ []) (drop i bits))
