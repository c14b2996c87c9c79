-- The bits that rules update, with their sources, and the parts that they are.
use Rattle.std.proofs.Common.{◌≡◌, ℕ, zero, suc, ◌+◌, ◌<◌, Bool, true, false, if◌then◌else◌, List, [], ◌∷◌, ◌++◌, length, get_or, take, map, refl, sym, ◌∙◌, ap, subst}
use Rattle.std.specs.Prelude.{reverse}
use Rattle.std.specs.List.{AllByRecursion}
use Rattle.std.specs.Global.{Box}
use Rattle.std.proofs.lemmas.List.{take_more, length-reverse}
use Rattle.std.proofs.lemmas.Option.{get_or_from_slice_get, slice_get_within}
use Rattle.rtl_bits.specs.declared.bit.Bit.{Bit}
use Rattle.rtl_sig.specs.declared.sig.SigBit.{SigBit}
use Rattle.rtl_sig.specs.declared.sig.SigBit.TheVariants.{Fixed, Wire as OnWire}
use Rattle.rtl_sig.specs.declared.sig.WireBit.{WireBit}
use Rattle.rtl_ir.specs.declared.module.Module.{Module}
use Rattle.rtl_ir.specs.declared.wire.Wire.{Wire}
use Rattle.rtl_ir.specs.Decisions.{Leaf, case_decision, expanded, expanded_within, with_leaves}
use Rattle.rtl_ir.specs.EventTests.{switch_test}
use Rattle.rtl_ir.specs.Faults.TwoEdges.{EdgeBit, SwitchTest}
use Rattle.rtl_ir.specs.Flat.Driver.{Joined, Held as HeldBy, Raced as RacedBy}
use Rattle.rtl_ir.specs.Flat.Pick.{no_test, pick_of}
use Rattle.rtl_ir.specs.Flat.Place.{Path, Place}
use Rattle.rtl_ir.specs.Flat.Point as rtl
use Rattle.rtl_ir.specs.Flat.Point.{bit_place, point}
use Rattle.rtl_ir.specs.Flat.Process as flat
use Rattle.rtl_ir.specs.Flat.Process.{always_row, level_after, may_hold, no_modules}
use Rattle.rtl_ir.specs.declared.follow.Join.{Join}
use Rattle.rtl_ir.specs.Signals.{same_bit}
use Rattle.rtl_ir.specs.Tree.{CaseView}
use Rattle.flat_net.specs.declared.choices.Tree.{Tree}
use Rattle.flat_net.specs.declared.leaves.Held.{Held}
use Rattle.flat_net.specs.declared.leaves.HeldBit.{HeldBit}
use Rattle.flat_net.specs.declared.leaves.Raced.{Raced}
use Rattle.flat_net.specs.declared.leaves.Source.{Source}
use Rattle.flat_net.specs.declared.net.Part.TheVariants as part
use Rattle.flat_net.specs.Known.{Keeps}
use Rattle.flat_net.specs.Parts.{held_row, part_rows, raced_row}
use Rattle.flat_net.specs.Picks.{expanded_pick}
use Rattle.flat_net.specs.Points.{place_at}
use Rattle.flat_net.specs.Reads.{IsPoint}
use Rattle.flat_net.specs.Sources.{AreHeldBits, IsHeldBit, IsRoot}
use Rattle.flat_net.specs.Trees.{IsSource}
use Rattle.flat_net.specs.Within.{IsBranchWithin, IsHeldBitWithin, IsHeldWithin, IsOutputWithin, IsPartWithin, IsPlaceWithin, IsRacedWithin, IsTreeWithin}
use Rattle.flat_net.proofs.Branching.{IsBranch-kept}
use Rattle.flat_net.proofs.Reading.{IsSource-kept}
use Rattle.flat_net.proofs.Rooting.{expanded_is}
use Rattle.flat_net.proofs.TreeBits.{any-reverse, source_within}

module _ (start : SigBit → Bit) (p : Path) (wires : List Wire) (bits : List WireBit) where
  pub IsHeldBit-kept : (ps qs : List Place) → Keeps ps qs → (b : HeldBit) (j : Join) → IsHeldBit ps start p wires bits b j → IsHeldBit qs start p wires bits b j
  IsHeldBit-kept ps qs keeps b j h = record { number = keeps _ _ h.number; begins = h.begins; source = IsSource-kept ps qs keeps p wires bits b.source j.source h.source }

  pub AreHeldBits-kept : (ps qs : List Place) → Keeps ps qs → (bs : List HeldBit) (js : List Join) → AreHeldBits ps start p wires bits bs js → AreHeldBits qs start p wires bits bs js
  AreHeldBits-kept ps qs keeps [] [] h = tt
  AreHeldBits-kept ps qs keeps [] (j ∷ js) h = absurd h
  AreHeldBits-kept ps qs keeps (b ∷ bs) [] h = absurd h
  AreHeldBits-kept ps qs keeps (b ∷ bs) (j ∷ js) h = (IsHeldBit-kept ps qs keeps b j h.0, AreHeldBits-kept ps qs keeps bs js h.1)

  AreHeldBits-end : (ps : List Place) (bs : List HeldBit) (js : List Join) (b : HeldBit) (j : Join) → AreHeldBits ps start p wires bits bs js → IsHeldBit ps start p wires bits b j
      → AreHeldBits ps start p wires bits (bs ++ b ∷ []) (js ++ j ∷ [])
  AreHeldBits-end ps [] [] b j h k = (k, tt)
  AreHeldBits-end ps [] (x ∷ js) b j h k = absurd h
  AreHeldBits-end ps (x ∷ bs) [] b j h k = absurd h
  AreHeldBits-end ps (x ∷ bs) (y ∷ js) b j h k = (h.0, AreHeldBits-end ps bs js b j h.1 k)

  pub AreHeldBits-next : (ps qs : List Place) (bs new : List HeldBit) (b : HeldBit) (lines : List Join) (i : ℕ) (d : Join) → Keeps ps qs → i < length lines
      → AreHeldBits ps start p wires bits bs (take i lines) → IsHeldBit qs start p wires bits b (get_or lines i d) → new ≡ bs ++ b ∷ []
      → AreHeldBits qs start p wires bits new (take (i + 1) lines)
  AreHeldBits-next ps qs bs new b lines i d keeps lt h k put =
      let more : take (i + 1) lines ≡ take i lines ++ get_or lines i d ∷ [] = take_more lines i d lt in
      rw (put, more) (AreHeldBits-end qs bs (take i lines) b (get_or lines i d) (AreHeldBits-kept ps qs keeps bs (take i lines) h) k)

-- expanding goes by which bits there are, in whatever order
in_order : (c : CaseView) (bits : List WireBit) (n : ℕ) (s : SigBit) → expanded_within c bits n s ≡ expanded_within c (reverse bits) n s
in_order c bits zero s = refl
in_order c bits (suc n) (Fixed x) = refl
in_order c bits (suc n) (OnWire b) = λ i. if sym (any-reverse (same_bit b) bits) i then with_leaves (λ s. in_order c bits n s i) (case_decision c b) else Leaf (OnWire b)

module _ (ps : List Place) (test : SwitchTest) (start : SigBit → Bit) (p : Path) (wires : List Wire) (bits : List WireBit) (tree : Tree) (c : CaseView) where
  -- the value of a source by its leaves
  value_is : IsRoot ps test p wires bits tree c → (source : Source) (s : SigBit) → IsSource ps p wires bits source s
      → expanded_pick ps tree.root tree.width source ≡ pick_of test p wires (expanded c (reverse bits) s)
  value_is h source s is =
      expanded_is test p wires bits ps tree.root c h.branch tree.width source s is
      ∙ ap (pick_of test p wires) (in_order c bits tree.width s ∙ ap (λ n. expanded_within c (reverse bits) n s) (h.width ∙ sym (length-reverse bits)))

  root_within : IsRoot ps test p wires bits tree c → IsTreeWithin (length ps) tree
  root_within h = record {
    root = subst (λ w. IsBranchWithin (length ps) w tree.root) (sym h.width) h.branch.within;
    outputs = subst (AllByRecursion (IsOutputWithin (length ps) tree.width)) (sym h.outputs) tt;
  }

  helds_within : IsRoot ps test p wires bits tree c → (bs : List HeldBit) (js : List Join) → AreHeldBits ps start p wires bits bs js → AllByRecursion (IsHeldBitWithin (length ps) tree.width) bs
  helds_within h [] js k = tt
  helds_within h (b ∷ bs) [] k = absurd k
  helds_within h (b ∷ bs) (j ∷ js) k =
      let place = source_within bits j.source b.source.tree k.0.source.tree in (
        (slice_get_within ps b.number _ k.0.number, (k.0.source.from.within, subst (λ w. IsPlaceWithin w b.source.tree) (sym h.width) place)),
        helds_within h bs js k.1,
      )

-- bits that may hold
held_made : (ps : List Place) (start : SigBit → Bit) (p : Path) (wires : List Wire) (bits : List WireBit) (tree : Tree) (c : CaseView) → IsRoot ps no_test p wires bits tree c
    → (bs : List HeldBit) (js : List Join) → AreHeldBits ps start p wires bits bs js → AllByRecursion (λ (j : Join). may_hold c (reverse bits) j ≡ true) js
    → map (held_row ps tree) bs ≡ map (always_row start p wires c (reverse bits)) js
held_made ps start p wires bits tree c h [] [] k may = refl
held_made ps start p wires bits tree c h [] (j ∷ js) k may = absurd k
held_made ps start p wires bits tree c h (b ∷ bs) [] k may = absurd k
held_made ps start p wires bits tree c h (b ∷ bs) (j ∷ js) k may =
    let place : place_at ps b.number ≡ bit_place p wires j.bit = get_or_from_slice_get ps b.number _ _ k.0.number in
    let from = k.0.source.from.is in
    let value = value_is ps no_test start p wires bits tree c h b.source j.source k.0.source in
    let rest = held_made ps start p wires bits tree c h bs js k.1 may.1 in
    (λ i. record {
      place = place i;
      driver = if sym may.0 i then HeldBy (k.0.begins i) (from i) (value i) (place i) else Joined (point p wires j.source);
    } ∷ rest i)

-- their part
pub held_part : (ps : List Place) (box : Box Held) (held : Held) (start : SigBit → Bit) (p : Path) (wires : List Wire) (bits : List WireBit) (c : CaseView) (js : List Join) → box.value ≡ held
    → IsRoot ps no_test p wires bits held.tree c → AreHeldBits ps start p wires bits held.bits js → AllByRecursion (λ (j : Join). may_hold c (reverse bits) j ≡ true) js
    → (part_rows ps (part.Held box) ≡ map (always_row start p wires c (reverse bits)) js) × IsPartWithin (length ps) (part.Held box)
held_part ps box held start p wires bits c js e h k may = (
  ap (λ (x : Held). map (held_row ps x.tree) x.bits) e ∙ held_made ps start p wires bits held.tree c h held.bits js k may,
  subst (IsHeldWithin (length ps)) (sym e)
      (record { tree = root_within ps no_test start p wires bits held.tree c h; bits = helds_within ps no_test start p wires bits held.tree c h held.bits js k }),
)

-- the bits of a process with two edges
module _ (ps : List Place) (start : SigBit → Bit) (p : Path) (wires : List Wire) (bits : List WireBit) (m : Module) (c : CaseView) (clock reset : EdgeBit) (raced : Raced)
    (clock_is : IsPoint ps raced.clock (rtl.At (bit_place p wires clock.bit))) (clock_level : raced.clock_level ≡ level_after clock.level)
    (reset_is : IsPoint ps raced.reset (rtl.At (bit_place p wires reset.bit))) (reset_level : raced.reset_level ≡ level_after reset.level)
    (h : IsRoot ps (switch_test no_modules m reset.bit) p wires bits raced.tree c) where
  raced_made : (bs : List HeldBit) (js : List Join) → AreHeldBits ps start p wires bits bs js → map (raced_row ps raced) bs ≡ map (flat.raced_row start p wires m c (reverse bits) clock reset) js
  raced_made [] [] k = refl
  raced_made [] (j ∷ js) k = absurd k
  raced_made (b ∷ bs) [] k = absurd k
  raced_made (b ∷ bs) (j ∷ js) k =
      let place : place_at ps b.number ≡ bit_place p wires j.bit = get_or_from_slice_get ps b.number _ _ k.0.number in
      let value = value_is ps (switch_test no_modules m reset.bit) start p wires bits raced.tree c h b.source j.source k.0.source in
      let rest = raced_made bs js k.1 in
      (λ i. record { place = place i; driver = RacedBy (k.0.begins i) (clock_is.is i) (clock_level i) (reset_is.is i) (reset_level i) (value i) (place i) } ∷ rest i)

  pub raced_part : (box : Box Raced) (js : List Join) → box.value ≡ raced → AreHeldBits ps start p wires bits raced.bits js
      → (part_rows ps (part.Raced box) ≡ map (flat.raced_row start p wires m c (reverse bits) clock reset) js) × IsPartWithin (length ps) (part.Raced box)
  raced_part box js e k = (
    ap (λ (x : Raced). map (raced_row ps x) x.bits) e ∙ raced_made raced.bits js k,
    subst (IsRacedWithin (length ps)) (sym e)
        (record {
          tree = root_within ps (switch_test no_modules m reset.bit) start p wires bits raced.tree c h;
          clock = clock_is.within;
          reset = reset_is.within;
          bits = helds_within ps (switch_test no_modules m reset.bit) start p wires bits raced.tree c h raced.bits js k;
        }),
  )

pub IsRoot-kept : (ps qs : List Place) → Keeps ps qs → (test : SwitchTest) (p : Path) (wires : List Wire) (bits : List WireBit) (tree : Tree) (c : CaseView) → IsRoot ps test p wires bits tree c → IsRoot qs test p wires bits tree c
IsRoot-kept ps qs keeps test p wires bits tree c h = record { width = h.width; outputs = h.outputs; branch = IsBranch-kept test p wires bits ps qs keeps tree.root c h.branch }

-- a bit to which its own value may not come is its value
pub never_holds : (start : SigBit → Bit) (p : Path) (wires : List Wire) (c : CaseView) (bits : List WireBit) (j : Join) → may_hold c bits j ≡ false
    → record { place = bit_place p wires j.bit; driver = Joined (point p wires j.source) } ≡ always_row start p wires c bits j
never_holds start p wires c bits j h = λ i. record {
  place = bit_place p wires j.bit;
  driver =
      if sym h i
      then HeldBy (start (OnWire j.bit)) (point p wires j.source) (pick_of no_test p wires (expanded c bits j.source)) (bit_place p wires j.bit)
      else Joined (point p wires j.source);
}

-- whether a bit may hold goes by the bits that stand in a list
pub same_hold : (holds : Bool) (root : CaseView) (bits others : List WireBit) (j : Join) → bits ≡ others → holds ≡ may_hold root bits j → holds ≡ may_hold root others j
same_hold holds root bits others j same is = is ∙ ap (λ bs. may_hold root bs j) same
