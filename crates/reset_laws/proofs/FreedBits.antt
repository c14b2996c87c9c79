-- The tree bits that are left once tests of a reset are decided, and the bits that nothing assigns any more.
use Rattle.std.proofs.Common.{◌≡◌, Bool, true, false, cond, ◌||◌, List, [], ◌∷◌, ◌++◌, Option, Some, None, ◌⊎◌, inl, inr, ⊎_elim, refl, sym, ◌∙◌, ap, subst, arith}
use Rattle.std.specs.Prelude.{if◌then◌else◌, map}
use Rattle.std.specs.Option.{option_map_or, option_or}
use Rattle.rtl_bits.specs.declared.bit.Bit.{Bit}
use Rattle.rtl_bits.specs.declared.bit.Bit.TheVariants.{X}
use Rattle.rtl_bits.specs.Knowledge.{Below}
use Rattle.rtl_sig.specs.declared.sig.SigBit.{SigBit}
use Rattle.rtl_sig.specs.declared.sig.SigBit.TheVariants.{Fixed, Wire as OnWire}
use Rattle.rtl_sig.specs.declared.sig.WireBit.{WireBit}
use Rattle.rtl_ir.specs.Assigns.{assigned, case_assigns, cases_assigns, each_once, last_source, left_bits, switches_assigns, tree_bits}
use Rattle.rtl_ir.specs.Decisions.{Choice, Decision, Leaf, after_assigns, after_switches, branches_of, case_decision}
use Rattle.rtl_ir.specs.Flat.Pick.{no_test, pick_of}
use Rattle.rtl_ir.specs.Flat.Place.{Path}
use Rattle.rtl_ir.specs.Flat.Point.{points}
use Rattle.rtl_ir.specs.Follow.{all_joins, joins}
use Rattle.rtl_ir.specs.declared.follow.Join.{Join}
use Rattle.rtl_ir.specs.Signals.{has_bit, same_bit, wire_bits}
use Rattle.rtl_ir.specs.SwitchRules.{root_by_rules}
use Rattle.rtl_ir.specs.Tree.{CaseView, Cases, NoCase, NoSwitch, OneCase, OneSwitch, Switches}
use Rattle.rtl_ir.specs.declared.module.Link.{Link}
use Rattle.rtl_ir.specs.declared.wire.Wire.{Wire}
use Rattle.net_model.proofs.Members.{In-cases, In-left, In-right, apart_from}
use Rattle.net_model.specs.Lists.{Distinct, In}
use Rattle.net_model.specs.Picked.{case_match, picked}
use Rattle.net_model.specs.Valuation.{Valuation, read_all}
use Rattle.follow_laws.proofs.Following.{same_bit-same}
use Rattle.pass_laws.proofs.Once.{same_bit-refl, count_in, count_or}
use Rattle.build_laws.proofs.CountingBits.{among, count_once}
use Rattle.build_laws.specs.Rebuilds.{AreAmong}
use Rattle.reset_laws.proofs.ChoiceValue.{branch_by, chosen_within, had, picked_is, value_by}
use Rattle.reset_laws.proofs.FrameStep.{has_in}

pub in_has : (bits : List WireBit) (b : WireBit) → In b bits → has_bit bits b ≡ true
in_has [] b i = absurd i
in_has (c ∷ bits) b (inl e) = ap (λ t. t || has_bit bits b) (ap (same_bit b) (sym e) ∙ same_bit-refl b)
in_has (c ∷ bits) b (inr i) = by (same_bit b c) (in_has bits b i)
  where
    by : (t : Bool) → has_bit bits b ≡ true → (t || has_bit bits b) ≡ true
    by true h = refl
    by false h = h

-- bits that stand once
pub once_in : (bits : List WireBit) (b : WireBit) → In b (each_once bits) → In b bits
once_in [] b i = absurd i
once_in (c ∷ bits) b i = by (has_bit bits c) i (once_in bits b)
  where
    by : (t : Bool) → In b (if t then each_once bits else c ∷ each_once bits) → (In b (each_once bits) → In b bits) → In b (c ∷ bits)
    by true j later = inr (later j)
    by false (inl e) later = inl e
    by false (inr j) later = inr (later j)

pub in_once : (bits : List WireBit) (b : WireBit) → In b bits → In b (each_once bits)
in_once [] b i = absurd i
in_once (c ∷ bits) b i = by (has_bit bits c) refl i (in_once bits b)
  where
    by : (t : Bool) → has_bit bits c ≡ t → (b ≡ c) ⊎ In b bits → (In b bits → In b (each_once bits)) → In b (if t then each_once bits else c ∷ each_once bits)
    by true e (inl f) later = later (subst (λ z. In z bits) (sym f) (has_in bits c e))
    by true e (inr j) later = later j
    by false e (inl f) later = inl f
    by false e (inr j) later = inr (later j)

once_distinct : (bits : List WireBit) → Distinct (each_once bits)
once_distinct [] = tt
once_distinct (c ∷ bits) = by (has_bit bits c) refl (once_distinct bits)
  where
    by : (t : Bool) → has_bit bits c ≡ t → Distinct (each_once bits) → Distinct (if t then each_once bits else c ∷ each_once bits)
    by true e h = h
    by false e h = (
      apart_from c (each_once bits) (λ y i f. absurd (let no : true ≡ false = sym (in_has bits c (subst (λ z. In z bits) (sym f) (once_in bits y i))) ∙ e in cc)),
      h,
    )

-- distinct bits of some bits are among them
pub among_once : (xs ys : List WireBit) → Distinct xs → ((b : WireBit) → In b xs → In b ys) → AreAmong xs ys
among_once xs ys d h = among xs ys (λ b. ⊎_elim (λ e. omega (arith, e)) (λ i. omega (arith, count_once xs d b, count_in b ys (h b i))) (count_or b xs))

pub tree_distinct : (root : CaseView) → Distinct (tree_bits root)
tree_distinct root = once_distinct (left_bits (case_assigns (root_by_rules root)))

-- the tree bits of a root that is read by the rules are those that it assigns
pub tree_in : (root : CaseView) → root_by_rules root ≡ root → (b : WireBit) → In b (tree_bits root) → In b (left_bits (case_assigns root))
tree_in root ruled b i = subst (λ z. In b (left_bits (case_assigns z))) ruled (once_in (left_bits (case_assigns (root_by_rules root))) b i)

pub in_tree : (root : CaseView) → root_by_rules root ≡ root → (b : WireBit) → In b (left_bits (case_assigns root)) → In b (tree_bits root)
in_tree root ruled b i = in_once (left_bits (case_assigns (root_by_rules root))) b (subst (λ z. In b (left_bits (case_assigns z))) (sym ruled) i)

-- what is given to a bit is given by an assign of it
join_left : (ls rs : List SigBit) (b : WireBit) (s : SigBit) → last_source (joins ls rs) b ≡ Some s → In b (wire_bits ls)
join_left [] rs b s e = absurd (cc)
join_left (l ∷ ls) [] b s e = absurd (cc)
join_left (Fixed c ∷ ls) (r ∷ rs) b s e = join_left ls rs b s e
join_left (OnWire c ∷ ls) (r ∷ rs) b s e = by (last_source (joins ls rs) b) refl (join_left ls rs b)
  where
    here : (t : Bool) → same_bit c b ≡ t → cond t (Some r) None ≡ Some s → In b (c ∷ wire_bits ls)
    here true h f = inl (sym (same_bit-same c b h))
    here false h f = absurd (let g : None ≡ Some s = f in cc)

    by : (o : Option SigBit) → last_source (joins ls rs) b ≡ o → ((t : SigBit) → last_source (joins ls rs) b ≡ Some t → In b (wire_bits ls)) → In b (c ∷ wire_bits ls)
    by (Some t) h rest = inr (rest t h)
    by None h rest = here (same_bit c b) refl (sym (ap (λ o. option_or o (cond (same_bit c b) (Some r) None)) h) ∙ e)

pub last_more : (xs ys : List Join) (b : WireBit) → last_source (xs ++ ys) b ≡ option_or (last_source ys b) (last_source xs b)
last_more [] ys b = by (last_source ys b)
  where
    by : (o : Option SigBit) → o ≡ option_or o None
    by None = refl
    by (Some s) = refl
last_more (x ∷ xs) ys b =
    ap (λ o. option_or o (if same_bit x.bit b then Some x.source else None)) (last_more xs ys b)
    ∙ by (last_source ys b) (last_source xs b) (if same_bit x.bit b then Some x.source else None)
  where
    by : (o p q : Option SigBit) → option_or (option_or o p) q ≡ option_or o (option_or p q)
    by None p q = refl
    by (Some s) p q = refl

pub assigned_in : (lines : List Link) (b : WireBit) (s : SigBit) → assigned lines b ≡ Some s → In b (left_bits lines)
assigned_in [] b s e = absurd (cc)
assigned_in (l ∷ lines) b s e = by (last_source (all_joins lines) b) refl (assigned_in lines b) (sym (last_more (joins l.left l.right) (all_joins lines) b) ∙ e)
  where
    by : (o : Option SigBit) → last_source (all_joins lines) b ≡ o → ((t : SigBit) → last_source (all_joins lines) b ≡ Some t → In b (left_bits lines)) → option_or (last_source (all_joins lines) b) (last_source (joins l.left l.right) b) ≡ Some s → In b (wire_bits l.left ++ left_bits lines)
    by (Some t) h rest f = In-right b (wire_bits l.left) (left_bits lines) (rest t h)
    by None h rest f =
        In-left b (wire_bits l.left) (left_bits lines) (join_left l.left l.right b s (sym (ap (λ o. option_or o (last_source (joins l.left l.right) b)) h) ∙ f))

left_more : (xs ys : List Link) (b : WireBit) → In b (left_bits xs) ⊎ In b (left_bits ys) → In b (left_bits (xs ++ ys))
left_more [] ys b (inl i) = absurd i
left_more [] ys b (inr i) = i
left_more (x ∷ xs) ys b (inl i) =
    ⊎_elim (λ h. In-left b (wire_bits x.left) (left_bits (xs ++ ys)) h) (λ k. In-right b (wire_bits x.left) (left_bits (xs ++ ys)) (left_more xs ys b (inl k))) (In-cases b (wire_bits x.left) (left_bits xs) i)
left_more (x ∷ xs) ys b (inr i) = In-right b (wire_bits x.left) (left_bits (xs ++ ys)) (left_more xs ys b (inr i))

-- switches that do not assign a bit leave its value
module _ (p : Path) (wires : List Wire) (w : Valuation) (b : WireBit) (k : Bit) where
  abbrev value : Decision → Bit
  value d = value_by p wires w no_test X (had p wires w) d

  unassigned : (assigns : List Link) (d : Decision) → (In b (left_bits assigns) → ⊥) → Below (value d) k → Below (value (after_assigns assigns b d)) k
  unassigned assigns d h i = by (assigned assigns b) refl
    where
      by : (o : Option SigBit) → assigned assigns b ≡ o → Below (value (option_map_or (λ s. Leaf s) o d)) k
      by None e = i
      by (Some s) e = absurd (h (assigned_in assigns b s e))

  mutual
    unnamed : (switches : Switches) (d : Decision) → (In b (left_bits (switches_assigns switches)) → ⊥) → Below (value d) k → Below (value (after_switches b switches d)) k
    unnamed NoSwitch d h i = i
    unnamed (OneSwitch signal attributes cases rest) d h i =
        unnamed rest (Choice signal (branches_of b cases d) d) (λ j. h (left_more (cases_assigns cases) (switches_assigns rest) b (inr j)))
        (unnamed_cases (read_all w (points p wires signal)) cases d (λ j. h (left_more (cases_assigns cases) (switches_assigns rest) b (inl j))) i)

    unnamed_cases : (seen : List Bit) (cases : Cases) (d : Decision) → (In b (left_bits (cases_assigns cases)) → ⊥) → Below (value d) k → Below (branch_by p wires w no_test X (had p wires w) seen (branches_of b cases d) (value d)) k
    unnamed_cases seen NoCase d h i = i
    unnamed_cases seen (OneCase [] assigns attributes switches rest) d h i =
        unnamed switches (after_assigns assigns b d)
        (λ j. h (left_more (assigns ++ switches_assigns switches) (cases_assigns rest) b (inl (left_more assigns (switches_assigns switches) b (inr j)))))
        (unassigned assigns d (λ j. h (left_more (assigns ++ switches_assigns switches) (cases_assigns rest) b (inl (left_more assigns (switches_assigns switches) b (inl j))))) i)
    unnamed_cases seen (OneCase (q ∷ qs) assigns attributes switches rest) d h i =
        chosen_within (case_match w seen (map (points p wires) (q ∷ qs))) (value (after_switches b switches (after_assigns assigns b d))) (branch_by p wires w no_test X (had p wires w) seen (branches_of b rest d) (value d)) k
        (unnamed switches (after_assigns assigns b d)
        (λ j. h (left_more (assigns ++ switches_assigns switches) (cases_assigns rest) b (inl (left_more assigns (switches_assigns switches) b (inr j)))))
        (unassigned assigns d (λ j. h (left_more (assigns ++ switches_assigns switches) (cases_assigns rest) b (inl (left_more assigns (switches_assigns switches) b (inl j))))) i))
        (unnamed_cases seen rest d (λ j. h (left_more (assigns ++ switches_assigns switches) (cases_assigns rest) b (inr j))) i)

  -- a bit that nothing assigns has an unknown decision
  pub unnamed_unknown : (root : CaseView) → (In b (left_bits (case_assigns root)) → ⊥) → Below (picked w X (pick_of no_test p wires (case_decision root b))) k
  unnamed_unknown root h =
      subst (λ z. Below z k) (sym (picked_is p wires w no_test X (case_decision root b)))
      (unnamed root.switches (after_assigns root.assigns b (Leaf (Fixed X))) (λ j. h (left_more root.assigns (switches_assigns root.switches) b (inr j)))
      (unassigned root.assigns (Leaf (Fixed X)) (λ j. h (left_more root.assigns (switches_assigns root.switches) b (inl j))) tt))
