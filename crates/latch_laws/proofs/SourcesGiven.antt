-- What is so of each value that a root case and its switches give to a bit.
use Rattle.std.proofs.Common.{◌≡◌, Bool, true, false, if◌then◌else◌, List, [], ◌∷◌, ◌++◌, Option, Some, None, inl, refl, sym, ◌∙◌, ap, subst}
use Rattle.std.specs.Option.{option_map_or, option_or, option_to_list}
use Rattle.std.proofs.lemmas.Bool.{or_parts}
use Rattle.std.proofs.lemmas.Grind.{flat_map-append}
use Rattle.std.proofs.lemmas.List.Folds.{list_any-append}
use Rattle.rtl_bits.specs.declared.bit.Bit.TheVariants.{X}
use Rattle.rtl_ir.specs.Assigns.{assigned, cases_assigns, last_source, left_bits, switches_assigns}
use Rattle.rtl_ir.specs.Decisions.{Choice, Decision, Leaf, after_assigns, after_switches, branches_of, case_decision}
use Rattle.rtl_ir.specs.Faults.SelfReading.{assigns_read, cases_name, cases_read, switches_read}
use Rattle.rtl_ir.specs.Follow.{all_joins, joins}
use Rattle.rtl_ir.specs.declared.follow.Join.{Join}
use Rattle.rtl_ir.specs.Signals.{has_bit, same_bit, wire_bits}
use Rattle.rtl_ir.specs.Tree.{CaseView, Cases, NoCase, OneCase, NoSwitch, OneSwitch, Switches}
use Rattle.rtl_ir.specs.declared.module.Link.{Link}
use Rattle.rtl_sig.specs.declared.sig.SigBit.{SigBit}
use Rattle.rtl_sig.specs.declared.sig.SigBit.TheVariants.{Fixed, Wire as OnWire}
use Rattle.rtl_sig.specs.declared.sig.WireBit.{WireBit}
use Rattle.pass_laws.proofs.Once.{same_bit-refl, same_bit-true}
use Rattle.net_model.proofs.Members.{In-left, In-right}
use Rattle.net_model.specs.Lists.{In}
use Rattle.latch_laws.proofs.LeavesGiven.{EachBranchLeaf, EachLeaf}

-- a bit that is found among two lists in neither
neither : (xs ys : List WireBit) (b : WireBit) → has_bit (xs ++ ys) b ≡ false → (has_bit xs b ≡ false) × (has_bit ys b ≡ false)
neither xs ys b e = or_parts (has_bit xs b) (has_bit ys b) (sym (list_any-append (same_bit b) xs ys) ∙ e)

not_turned : (b c : WireBit) → same_bit b c ≡ false → same_bit c b ≡ false
not_turned b c e = by (same_bit c b) refl
  where
    by : (t : Bool) → same_bit c b ≡ t → t ≡ false
    by false f = refl
    by true f = absurd (let g : same_bit b c ≡ true = ap (same_bit b) (same_bit-true c b f) ∙ same_bit-refl b in cc)

-- places that do not have the bit give it nothing
none_joined : (js ks : List Join) (b : WireBit) → last_source js b ≡ None → last_source ks b ≡ None → last_source (js ++ ks) b ≡ None
none_joined [] ks b e f = f
none_joined (j ∷ js) ks b e f = by (last_source js b) (same_bit j.bit b) (λ g. none_joined js ks b g f) refl e
  where
    by : (o : Option SigBit) (t : Bool) → (last_source js b ≡ None → last_source (js ++ ks) b ≡ None) → last_source js b ≡ o → option_or o (if t then Some j.source else None) ≡ None → option_or (last_source (js ++ ks) b) (if t then Some j.source else None) ≡ None
    by (Some s) t later g h = absurd (cc)
    by None true later g h = absurd (cc)
    by None false later g h = ap (λ o. option_or o None) (later g)

none_placed : (ls rs : List SigBit) (b : WireBit) → has_bit (wire_bits ls) b ≡ false → last_source (joins ls rs) b ≡ None
none_placed [] rs b e = refl
none_placed (l ∷ ls) [] b e = refl
none_placed (Fixed c ∷ ls) (r ∷ rs) b e = none_placed ls rs b e
none_placed (OnWire c ∷ ls) (r ∷ rs) b e =
    let parts = or_parts (same_bit b c) (has_bit (wire_bits ls) b) e in
    (λ i. option_or (none_placed ls rs b parts.1 i) (if not_turned b c parts.0 i then Some r else None))

none_assigned : (lines : List Link) (b : WireBit) → has_bit (left_bits lines) b ≡ false → assigned lines b ≡ None
none_assigned [] b e = refl
none_assigned (l ∷ lines) b e =
    let parts = neither (wire_bits l.left) (left_bits lines) b e in
    none_joined (joins l.left l.right) (all_joins lines) b (none_placed l.left l.right b parts.0) (none_assigned lines b parts.1)

left_both : (xs ys : List Link) (b : WireBit) → has_bit (left_bits (xs ++ ys)) b ≡ false → (has_bit (left_bits xs) b ≡ false) × (has_bit (left_bits ys) b ≡ false)
left_both xs ys b e =
    neither (left_bits xs) (left_bits ys) b (ap (λ z. has_bit z b) (sym (flat_map-append (λ (l : Link). wire_bits l.left) xs ys)) ∙ e)

module _ (P : SigBit → Type 0) (b : WireBit) where
  -- it is so of what assigns give to the bit
  abbrev pub AssignsGive : List Link → Type 0
  AssignsGive assigns = (s : SigBit) → assigned assigns b ≡ Some s → P s

  abbrev mutual
    -- of what switches give to it
    pub SwitchesGive : Switches → Type 0
    SwitchesGive NoSwitch = Unit {0}
    SwitchesGive (OneSwitch signal attributes cases rest) = CasesGive cases × SwitchesGive rest

    -- of what cases give to it
    pub CasesGive : Cases → Type 0
    CasesGive NoCase = Unit {0}
    CasesGive (OneCase patterns assigns attributes switches rest) =
        AssignsGive assigns × (SwitchesGive switches × CasesGive rest)

  -- of what a root case gives to it
  pub record CaseGives (root : CaseView) : Type 0 where
    pub assigns : AssignsGive root.assigns
    pub switches : SwitchesGive root.switches

  -- so it is of the leaves of its decision
  assigns_leaf : (assigns : List Link) (d : Decision) → AssignsGive assigns → EachLeaf P d → EachLeaf P (after_assigns assigns b d)
  assigns_leaf assigns d h i = by (assigned assigns b) refl
    where
      by : (o : Option SigBit) → assigned assigns b ≡ o → EachLeaf P (option_map_or (λ s. Leaf s) o d)
      by (Some s) e = h s e
      by None e = i

  mutual
    switches_leaf : (switches : Switches) (d : Decision) → SwitchesGive switches → EachLeaf P d → EachLeaf P (after_switches b switches d)
    switches_leaf NoSwitch d h i = i
    switches_leaf (OneSwitch signal attributes cases rest) d h i =
        switches_leaf rest (Choice signal (branches_of b cases d) d) h.1 (cases_leaf cases d h.0 i, i)

    cases_leaf : (cases : Cases) (d : Decision) → CasesGive cases → EachLeaf P d → EachBranchLeaf P (branches_of b cases d)
    cases_leaf NoCase d h i = tt
    cases_leaf (OneCase patterns assigns attributes switches rest) d h i =
        (switches_leaf switches (after_assigns assigns b d) h.1.0 (assigns_leaf assigns d h.0 i), cases_leaf rest d h.1.1 i)

  pub case_leaf : (root : CaseView) → CaseGives root → P (Fixed X) → EachLeaf P (case_decision root b)
  case_leaf root h x =
      switches_leaf root.switches (after_assigns root.assigns b (Leaf (Fixed X))) h.switches (assigns_leaf root.assigns (Leaf (Fixed X)) h.assigns x)

  -- what names the bit nowhere gives it nothing
  free_assigns : (assigns : List Link) → has_bit (left_bits assigns) b ≡ false → AssignsGive assigns
  free_assigns assigns e s f = absurd (let none : assigned assigns b ≡ None = none_assigned assigns b e in cc)

  mutual
    free_switches : (switches : Switches) → has_bit (left_bits (switches_assigns switches)) b ≡ false → SwitchesGive switches
    free_switches NoSwitch e = tt
    free_switches (OneSwitch signal attributes cases rest) e =
        let both = left_both (cases_assigns cases) (switches_assigns rest) b e in
        (free_cases cases both.0, free_switches rest both.1)

    free_cases : (cases : Cases) → has_bit (left_bits (cases_assigns cases)) b ≡ false → CasesGive cases
    free_cases NoCase e = tt
    free_cases (OneCase patterns assigns attributes switches rest) e =
        let both = left_both (assigns ++ switches_assigns switches) (cases_assigns rest) b e in
        let first = left_both assigns (switches_assigns switches) b both.0 in
        (free_assigns assigns first.0, (free_switches switches first.1, free_cases rest both.1))

  -- it is so of what a root case gives, where it is of all that the bit reads
  assigns_give : (assigns : List Link) → ((s : SigBit) → In s (assigns_read b assigns) → P s) → AssignsGive assigns
  assigns_give assigns h s e =
      h s (subst (λ (o : Option SigBit). In s (option_to_list o)) (sym e) (inl refl))

  mutual
    switches_give : (switches : Switches) → ((s : SigBit) → In s (switches_read b switches) → P s) → SwitchesGive switches
    switches_give NoSwitch h = tt
    switches_give (OneSwitch signal attributes cases rest) h =
        (switch_gives (cases_name b cases) refl (cases_give cases) (λ s i. h s (In-left s _ (switches_read b rest) i)), switches_give rest (λ s i. h s (In-right s (if cases_name b cases then signal ++ cases_read b cases else []) (switches_read b rest) i)))
      where
        switch_gives : (t : Bool) → cases_name b cases ≡ t → (((s : SigBit) → In s (cases_read b cases) → P s) → CasesGive cases) → ((s : SigBit) → In s (if t then signal ++ cases_read b cases else []) → P s) → CasesGive cases
        switch_gives true e below k = below (λ s i. k s (In-right s signal (cases_read b cases) i))
        switch_gives false e below k = free_cases cases e

    cases_give : (cases : Cases) → ((s : SigBit) → In s (cases_read b cases) → P s) → CasesGive cases
    cases_give NoCase h = tt
    cases_give (OneCase patterns assigns attributes switches rest) h = (
      assigns_give assigns (λ s i. h s (In-left s (assigns_read b assigns ++ switches_read b switches) (cases_read b rest) (In-left s (assigns_read b assigns) (switches_read b switches) i))),
      (
        switches_give switches (λ s i. h s (In-left s (assigns_read b assigns ++ switches_read b switches) (cases_read b rest) (In-right s (assigns_read b assigns) (switches_read b switches) i))),
        cases_give rest (λ s i. h s (In-right s (assigns_read b assigns ++ switches_read b switches) (cases_read b rest) i)),
      ),
    )

  pub case_gives : (root : CaseView) → ((s : SigBit) → In s (assigns_read b root.assigns ++ switches_read b root.switches) → P s) → CaseGives root
  case_gives root h = record {
    assigns = assigns_give root.assigns (λ s i. h s (In-left s (assigns_read b root.assigns) (switches_read b root.switches) i));
    switches = switches_give root.switches (λ s i. h s (In-right s (assigns_read b root.assigns) (switches_read b root.switches) i));
  }

-- what follows from it
module _ (P Q : SigBit → Type 0) (b : WireBit) where
  mutual
    switches_map : ((s : SigBit) → P s → Q s) → (switches : Switches) → SwitchesGive P b switches → SwitchesGive Q b switches
    switches_map f NoSwitch h = tt
    switches_map f (OneSwitch signal attributes cases rest) h = (cases_map f cases h.0, switches_map f rest h.1)

    cases_map : ((s : SigBit) → P s → Q s) → (cases : Cases) → CasesGive P b cases → CasesGive Q b cases
    cases_map f NoCase h = tt
    cases_map f (OneCase patterns assigns attributes switches rest) h =
        (λ s e. f s (h.0 s e), (switches_map f switches h.1.0, cases_map f rest h.1.1))

  pub case_map : (root : CaseView) → ((s : SigBit) → P s → Q s) → CaseGives P b root → CaseGives Q b root
  case_map root f h =
      record { assigns = λ s e. f s (h.assigns s e); switches = switches_map f root.switches h.switches }
