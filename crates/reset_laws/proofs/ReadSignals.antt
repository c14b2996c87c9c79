-- What decisions read: their leaves, and the signals and patterns of their choices.
use Rattle.std.proofs.Common.{◌≡◌, Bool, true, false, List, [], ◌∷◌, ◌++◌, Option, Some, None, ◌⊎◌, inl, inr, ⊎_elim, refl, sym, subst}
use Rattle.std.specs.Prelude.{flat_map, if◌then◌else◌, map}
use Rattle.std.specs.Option.{option_map_or, option_to_list}
use Rattle.rtl_bits.specs.declared.bit.Bit.TheVariants.{X}
use Rattle.rtl_sig.specs.declared.sig.SigBit.{SigBit}
use Rattle.rtl_sig.specs.declared.sig.SigBit.TheVariants.{Fixed}
use Rattle.rtl_sig.specs.declared.sig.WireBit.{WireBit}
use Rattle.rtl_ir.specs.Assigns.{assigned, cases_assigns, left_bits, switches_assigns}
use Rattle.rtl_ir.specs.Decisions.{Branches, Choice, Decision, Leaf, NoBranch, OneBranch, after_assigns, after_switches, branches_of, branches_with_leaves, case_decision, with_leaves}
use Rattle.rtl_ir.specs.Faults.SelfReading.{assigns_read, cases_name, cases_read, switches_read}
use Rattle.rtl_ir.specs.Faults.TwoEdges.{SwitchTest, branch_patterns}
use Rattle.rtl_ir.specs.Flat.Pick.{Pick, pick_of, pick_points, picks_of, where_of}
use Rattle.rtl_ir.specs.Flat.Place.{Path}
use Rattle.rtl_ir.specs.Flat.Point.{Point, point, points}
use Rattle.rtl_ir.specs.Tree.{CaseView, Cases, NoCase, NoSwitch, OneCase, OneSwitch, Switches}
use Rattle.rtl_ir.specs.declared.module.Link.{Link}
use Rattle.rtl_ir.specs.declared.wire.Wire.{Wire}
use Rattle.net_model.proofs.Members.{In-cases, In-left, In-right}
use Rattle.net_model.specs.Lists.{In}
use Rattle.net_model.specs.Proc.Reset.{cases_signals, switches_signals}
use Rattle.net_model.specs.Within.{Each}
use Rattle.reset_laws.proofs.FreedBits.{assigned_in, in_has}
use Rattle.reset_laws.proofs.FrameStep.{has_in}

module _ (P S : SigBit → Type 0) where
  abbrev mutual
    -- each leaf is of the first sort, and each bit of a signal or a pattern of the second
    pub ReadsBy : Decision → Type 0
    ReadsBy (Leaf s) = P s
    ReadsBy (Choice signal branches last) = Each S signal × (ReadsBranches branches × ReadsBy last)

    pub ReadsBranches : Branches → Type 0
    ReadsBranches NoBranch = Unit {0}
    ReadsBranches (OneBranch qs value rest) = Each (λ (q : List SigBit). Each S q) qs × (ReadsBy value × ReadsBranches rest)

  -- what switches make of a decision reads, besides what it read, what the switches read for the bit
  named_left : (xs ys : List Link) (b : WireBit) → In b (left_bits xs) ⊎ In b (left_bits ys) → In b (left_bits (xs ++ ys))
  named_left [] ys b (inl i) = absurd i
  named_left [] ys b (inr i) = i
  named_left (x ∷ xs) ys b (inl i) =
      ⊎_elim (λ h. In-left b _ (left_bits (xs ++ ys)) h) (λ k. In-right b _ (left_bits (xs ++ ys)) (named_left xs ys b (inl k))) (In-cases b _ (left_bits xs) i)
  named_left (x ∷ xs) ys b (inr i) = In-right b _ (left_bits (xs ++ ys)) (named_left xs ys b (inr i))

  read_named : (b : WireBit) (switches : Switches) (s : SigBit) → In s (switches_read b switches) → In b (left_bits (switches_assigns switches))
  read_named b NoSwitch s i = absurd i
  read_named b (OneSwitch signal attributes cases rest) s i =
      ⊎_elim
      (λ h. named_left (cases_assigns cases) (switches_assigns rest) b (inl (by (cases_name b cases) refl h)))
      (λ k. named_left (cases_assigns cases) (switches_assigns rest) b (inr (read_named b rest s k)))
      (In-cases s (if cases_name b cases then signal ++ cases_read b cases else []) (switches_read b rest) i)
    where
      by : (t : Bool) → cases_name b cases ≡ t → In s (if t then signal ++ cases_read b cases else []) → In b (left_bits (cases_assigns cases))
      by true e j = has_in (left_bits (cases_assigns cases)) b e
      by false e j = absurd j

  assigned_reads : (b : WireBit) (assigns : List Link) (d : Decision) → ((s : SigBit) → assigned assigns b ≡ Some s → P s) → ReadsBy d → ReadsBy (after_assigns assigns b d)
  assigned_reads b assigns d h i = by (assigned assigns b) refl
    where
      by : (o : Option SigBit) → assigned assigns b ≡ o → ReadsBy (option_map_or (λ s. Leaf s) o d)
      by None e = i
      by (Some s) e = h s e

  listed : (o : Option SigBit) (s : SigBit) → o ≡ Some s → In s (option_to_list o)
  listed None s e = absurd (cc)
  listed (Some r) s e = let same : s ≡ r = cc in inl same

  mutual
    pub switches_reads : (b : WireBit) (switches : Switches) (d : Decision) → Each S (switches_signals switches) → ((s : SigBit) → In s (switches_read b switches) → P s) → ReadsBy d → ReadsBy (after_switches b switches d)
    switches_reads b NoSwitch d h k i = i
    switches_reads b (OneSwitch signal attributes cases rest) d h k i =
        let named : List SigBit = if cases_name b cases then signal ++ cases_read b cases else [] in
        switches_reads b rest (Choice signal (branches_of b cases d) d)
        (λ s j. h s (In-right s signal (cases_signals cases ++ switches_signals rest) (In-right s (cases_signals cases) (switches_signals rest) j)))
        (λ s j. k s (In-right s named (switches_read b rest) j)) (
          (λ s j. h s (In-left s signal (cases_signals cases ++ switches_signals rest) j)),
          (
            cases_reads b cases d
                (λ s j. h s (In-right s signal (cases_signals cases ++ switches_signals rest) (In-left s (cases_signals cases) (switches_signals rest) j)))
                (λ s j n. k s (In-left s named (switches_read b rest) (subst (λ t. In s (if t then signal ++ cases_read b cases else [])) (sym (in_has (left_bits (cases_assigns cases)) b n)) (In-right s signal (cases_read b cases) j)))) i,
            i,
          ),
        )

    cases_reads : (b : WireBit) (cases : Cases) (d : Decision) → Each S (cases_signals cases) → ((s : SigBit) → In s (cases_read b cases) → In b (left_bits (cases_assigns cases)) → P s) → ReadsBy d → ReadsBranches (branches_of b cases d)
    cases_reads b NoCase d h k i = tt
    cases_reads b (OneCase qs assigns attributes switches rest) d h k i =
        let own : List SigBit = assigns_read b assigns in
        let inner : List SigBit = switches_read b switches in
        let flat : List SigBit = flat_map (λ q. q) qs in
        let here : List Link = assigns ++ switches_assigns switches in (
          (λ q j s l. h s (In-left s flat (switches_signals switches ++ cases_signals rest) (in_flat qs q s j l))),
          (
            switches_reads b switches (after_assigns assigns b d)
                (λ s j. h s (In-right s flat (switches_signals switches ++ cases_signals rest) (In-left s (switches_signals switches) (cases_signals rest) j)))
                (λ s j. k s (In-left s (own ++ inner) (cases_read b rest) (In-right s own inner j)) (named_left here (cases_assigns rest) b (inl (named_left assigns (switches_assigns switches) b (inr (read_named b switches s j))))))
                (assigned_reads b assigns d (λ s e. k s (In-left s (own ++ inner) (cases_read b rest) (In-left s own inner (listed (assigned assigns b) s e))) (named_left here (cases_assigns rest) b (inl (named_left assigns (switches_assigns switches) b (inl (assigned_in assigns b s e)))))) i),
            cases_reads b rest d
                (λ s j. h s (In-right s flat (switches_signals switches ++ cases_signals rest) (In-right s (switches_signals switches) (cases_signals rest) j)))
                (λ s j n. k s (In-right s (own ++ inner) (cases_read b rest) j) (named_left here (cases_assigns rest) b (inr n))) i,
          ),
        )
      where
        in_flat : (qs : List (List SigBit)) (q : List SigBit) (s : SigBit) → In q qs → In s q → In s (flat_map (λ z. z) qs)
        in_flat [] q s j l = absurd j
        in_flat (r ∷ qs) q s (inl e) l = In-left s r (flat_map (λ z. z) qs) (subst (In s) e l)
        in_flat (r ∷ qs) q s (inr j) l = In-right s r (flat_map (λ z. z) qs) (in_flat qs q s j l)

  -- the decision of a tree bit
  pub case_reads : (root : CaseView) (b : WireBit) → Each S (switches_signals root.switches) → P (Fixed X) → ((s : SigBit) → In s (assigns_read b root.assigns ++ switches_read b root.switches) → P s) → ReadsBy (case_decision root b)
  case_reads root b h x k =
      switches_reads b root.switches (after_assigns root.assigns b (Leaf (Fixed X))) h
      (λ s j. k s (In-right s (assigns_read b root.assigns) (switches_read b root.switches) j))
      (assigned_reads b root.assigns (Leaf (Fixed X)) (λ s e. k s (In-left s (assigns_read b root.assigns) (switches_read b root.switches) (listed (assigned root.assigns b) s e))) x)

-- where leaves are replaced
module _ (P Q S : SigBit → Type 0) (f : SigBit → Decision) (h : (s : SigBit) → P s → ReadsBy Q S (f s)) where
  mutual
    pub replaced_reads : (d : Decision) → ReadsBy P S d → ReadsBy Q S (with_leaves f d)
    replaced_reads (Leaf s) i = h s i
    replaced_reads (Choice signal branches last) i = (i.0, (replaced_branches branches i.1.0, replaced_reads last i.1.1))

    replaced_branches : (branches : Branches) → ReadsBranches P S branches → ReadsBranches Q S (branches_with_leaves f branches)
    replaced_branches NoBranch i = tt
    replaced_branches (OneBranch qs value rest) i = (i.0, (replaced_reads value i.1.0, replaced_branches rest i.1.1))

-- the points that a pick reads are those of bits that its decision reads
module _ (test : SwitchTest) (p : Path) (wires : List Wire) (P S : SigBit → Type 0) (F : Point → Type 0) (leaf : (s : SigBit) → P s → F (point p wires s)) (seen : (s : SigBit) → S s → F (point p wires s)) where
  abbrev pub AllOf : List Point → Type 0
  AllOf ps = Each F ps

  both_of : (ps qs : List Point) → AllOf ps → AllOf qs → AllOf (ps ++ qs)
  both_of ps qs h k x i = ⊎_elim (h x) (k x) (In-cases x ps qs i)

  signal_of : (signal : List SigBit) → Each S signal → AllOf (points p wires signal)
  signal_of [] h x i = absurd i
  signal_of (s ∷ signal) h x (inl e) = subst F (sym e) (seen s (h s (inl refl)))
  signal_of (s ∷ signal) h x (inr i) = signal_of signal (λ r j. h r (inr j)) x i

  patterns_of : (qs : List (List SigBit)) → Each (λ (q : List SigBit). Each S q) qs → AllOf (flat_map (λ pattern. pattern) (map (points p wires) qs))
  patterns_of [] h x i = absurd i
  patterns_of (q ∷ qs) h x i =
      both_of (points p wires q) (flat_map (λ pattern. pattern) (map (points p wires) qs)) (signal_of q (h q (inl refl))) (patterns_of qs (λ r j. h r (inr j))) x i

  where_reads : (o : Option Bool) (signal : List SigBit) (qs : List (List SigBit)) (met other : Pick) → Each S signal → Each (λ (q : List SigBit). Each S q) qs → AllOf (pick_points met) → AllOf (pick_points other) → AllOf (pick_points (where_of o (points p wires signal) (map (points p wires) qs) met other))
  where_reads None signal qs met other h k i j =
      both_of (points p wires signal) (flat_map (λ pattern. pattern) (map (points p wires) qs) ++ (pick_points met ++ pick_points other)) (signal_of signal h)
      (both_of (flat_map (λ pattern. pattern) (map (points p wires) qs)) (pick_points met ++ pick_points other) (patterns_of qs k) (both_of (pick_points met) (pick_points other) i j))
  where_reads (Some inverse) signal qs met other h k i j =
      both_of (flat_map (λ pattern. pattern) (map (points p wires) qs)) (pick_points met ++ pick_points other) (patterns_of qs k) (both_of (pick_points met) (pick_points other) i j)

  mutual
    pub pick_reads : (d : Decision) → ReadsBy P S d → AllOf (pick_points (pick_of test p wires d))
    pick_reads (Leaf s) h = λ x i. ⊎_elim (λ e. subst F (sym e) (leaf s h)) (λ j. absurd j) i
    pick_reads (Choice signal branches last) h =
        picks_reads (test signal (branch_patterns branches)) signal branches (pick_of test p wires last) h.0 h.1.0 (pick_reads last h.1.1)

    picks_reads : (o : Option Bool) (signal : List SigBit) (branches : Branches) (last : Pick) → Each S signal → ReadsBranches P S branches → AllOf (pick_points last) → AllOf (pick_points (picks_of test p wires o signal branches last))
    picks_reads o signal NoBranch last h k i = i
    picks_reads o signal (OneBranch [] value rest) last h k i = pick_reads value k.1.0
    picks_reads o signal (OneBranch (q ∷ qs) value rest) last h k i =
        where_reads o signal (q ∷ qs) (pick_of test p wires value) (picks_of test p wires o signal rest last) h k.0 (pick_reads value k.1.0) (picks_reads o signal rest last h k.1.1 i)
