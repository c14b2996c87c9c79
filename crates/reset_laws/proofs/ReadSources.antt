-- What is given to bits stands on right sides, and so decisions read no more than the signals of a process.
use Rattle.std.proofs.Common.{◌≡◌, ℕ, zero, suc, Bool, true, false, cond, List, [], ◌∷◌, ◌++◌, Option, Some, None, inl, inr, ⊎_elim, refl, sym, ◌∙◌, ap, subst}
use Rattle.std.specs.Prelude.{flat_map, if◌then◌else◌}
use Rattle.std.specs.Option.{option_or, option_to_list}
use Rattle.rtl_bits.specs.declared.bit.Bit.TheVariants.{X}
use Rattle.rtl_sig.specs.declared.sig.SigBit.{SigBit}
use Rattle.rtl_sig.specs.declared.sig.SigBit.TheVariants.{Fixed, Wire as OnWire}
use Rattle.rtl_sig.specs.declared.sig.WireBit.{WireBit}
use Rattle.rtl_ir.specs.Assigns.{assigned, case_assigns, cases_assigns, last_source, switches_assigns}
use Rattle.rtl_ir.specs.Decisions.{Leaf, case_decision, expanded_within, with_leaves}
use Rattle.rtl_ir.specs.Faults.SelfReading.{assigns_read, cases_name, cases_read, switches_read}
use Rattle.rtl_ir.specs.Follow.{all_joins, joins}
use Rattle.rtl_ir.specs.declared.follow.Join.{Join}
use Rattle.rtl_ir.specs.Signals.{has_bit, same_bit}
use Rattle.rtl_ir.specs.Tree.{CaseView, Cases, NoCase, NoSwitch, OneCase, OneSwitch, Switches}
use Rattle.rtl_ir.specs.declared.module.Link.{Link}
use Rattle.net_model.proofs.Members.{In-cases, In-left, In-right}
use Rattle.net_model.specs.Lists.{In}
use Rattle.net_model.specs.Proc.Reset.{cases_signals, switches_signals}
use Rattle.net_model.specs.Within.{Each}
use Rattle.reset_laws.proofs.FreedBits.{last_more}
use Rattle.reset_laws.proofs.ReadSignals.{ReadsBy, case_reads, replaced_reads}

-- what is given is on a right side
given_right : (ls rs : List SigBit) (b : WireBit) (s : SigBit) → last_source (joins ls rs) b ≡ Some s → In s rs
given_right [] rs b s e = absurd (cc)
given_right (l ∷ ls) [] b s e = absurd (cc)
given_right (Fixed c ∷ ls) (r ∷ rs) b s e = inr (given_right ls rs b s e)
given_right (OnWire c ∷ ls) (r ∷ rs) b s e = by (last_source (joins ls rs) b) refl (given_right ls rs b)
  where
    here : (t : Bool) → cond t (Some r) None ≡ Some s → In s (r ∷ rs)
    here true f = let same : s ≡ r = cc in inl same
    here false f = absurd (let g : None ≡ Some s = f in cc)

    by : (o : Option SigBit) → last_source (joins ls rs) b ≡ o → ((t : SigBit) → last_source (joins ls rs) b ≡ Some t → In t rs) → In s (r ∷ rs)
    by (Some t) h rest = let same : Some t ≡ Some s = (sym (ap (λ o. option_or o (cond (same_bit c b) (Some r) None)) h) ∙ e) in
        let is : t ≡ s = cc in
        inr (subst (λ z. In z rs) is (rest t h))
    by None h rest = here (same_bit c b) (sym (ap (λ o. option_or o (cond (same_bit c b) (Some r) None)) h) ∙ e)

given_in : (lines : List Link) (b : WireBit) (s : SigBit) → assigned lines b ≡ Some s → (l : Link) × In l lines × In s l.right
given_in [] b s e = absurd (cc)
given_in (l ∷ lines) b s e = by (last_source (all_joins lines) b) refl (given_in lines b) (sym (last_more (joins l.left l.right) (all_joins lines) b) ∙ e)
  where
    by : (o : Option SigBit) → last_source (all_joins lines) b ≡ o → ((t : SigBit) → last_source (all_joins lines) b ≡ Some t → (k : Link) × In k lines × In t k.right) → option_or (last_source (all_joins lines) b) (last_source (joins l.left l.right) b) ≡ Some s → (k : Link) × In k (l ∷ lines) × In s k.right
    by (Some t) h rest f =
        let whole : Some t ≡ Some s = ap (λ o. option_or o (last_source (joins l.left l.right) b)) (sym h) ∙ f in
        let same : t ≡ s = cc in
        let k = rest t h in
        (k.0, inr k.1, subst (λ z. In z k.0.right) same k.2)
    by None h rest f =
        (l, inl refl, given_right l.left l.right b s (ap (λ o. option_or o (last_source (joins l.left l.right) b)) (sym h) ∙ f))

join_right : (ls rs : List SigBit) (j : Join) → In j (joins ls rs) → In j.source rs
join_right [] rs j i = absurd i
join_right (l ∷ ls) [] j i = absurd i
join_right (Fixed c ∷ ls) (r ∷ rs) j i = inr (join_right ls rs j i)
join_right (OnWire c ∷ ls) (r ∷ rs) j (inl e) = inl (ap (λ (z : Join). z.source) e)
join_right (OnWire c ∷ ls) (r ∷ rs) j (inr i) = inr (join_right ls rs j i)

pub join_source : (lines : List Link) (j : Join) → In j (all_joins lines) → (l : Link) × In l lines × In j.source l.right
join_source [] j i = absurd i
join_source (l ∷ lines) j i =
    ⊎_elim (λ h. (l, inl refl, join_right l.left l.right j h)) (λ k. let z = join_source lines j k in (z.0, inr z.1, z.2)) (In-cases j (joins l.left l.right) (all_joins lines) i)

-- what the assigns of a tree give, and the signals and patterns of its switches, are of a sort
module _ (Ok : SigBit → Type 0) where
  of_assigns : (assigns : List Link) → ((l : Link) → In l assigns → Each Ok l.right) → (b : WireBit) → Each Ok (assigns_read b assigns)
  of_assigns assigns h b s i = by (assigned assigns b) refl i
    where
      by : (o : Option SigBit) → assigned assigns b ≡ o → In s (option_to_list o) → Ok s
      by None e j = absurd j
      by (Some r) e (inl f) = let k = given_in assigns b r e in subst Ok (sym f) (h k.0 k.1 r k.2)
      by (Some r) e (inr j) = absurd j

  mutual
    of_switches : (switches : Switches) → Each Ok (switches_signals switches) → ((l : Link) → In l (switches_assigns switches) → Each Ok l.right) → (b : WireBit) → Each Ok (switches_read b switches)
    of_switches NoSwitch h k b s i = absurd i
    of_switches (OneSwitch signal attributes cases rest) h k b s i =
        ⊎_elim
        (λ l. by (cases_name b cases) l (of_cases cases (λ r j. h r (In-right r signal (cases_signals cases ++ switches_signals rest) (In-left r (cases_signals cases) (switches_signals rest) j))) (λ z j. k z (In-left z (cases_assigns cases) (switches_assigns rest) j)) b))
        (λ l. of_switches rest (λ r j. h r (In-right r signal (cases_signals cases ++ switches_signals rest) (In-right r (cases_signals cases) (switches_signals rest) j))) (λ z j. k z (In-right z (cases_assigns cases) (switches_assigns rest) j)) b s l)
        (In-cases s (if cases_name b cases then signal ++ cases_read b cases else []) (switches_read b rest) i)
      where
        by : (t : Bool) → In s (if t then signal ++ cases_read b cases else []) → Each Ok (cases_read b cases) → Ok s
        by false j inner = absurd j
        by true j inner =
            ⊎_elim (λ l. h s (In-left s signal (cases_signals cases ++ switches_signals rest) l)) (λ l. inner s l) (In-cases s signal (cases_read b cases) j)

    of_cases : (cases : Cases) → Each Ok (cases_signals cases) → ((l : Link) → In l (cases_assigns cases) → Each Ok l.right) → (b : WireBit) → Each Ok (cases_read b cases)
    of_cases NoCase h k b s i = absurd i
    of_cases (OneCase qs assigns attributes switches rest) h k b s i =
        let flat : List SigBit = flat_map (λ q. q) qs in
        let here : List Link = assigns ++ switches_assigns switches in
        ⊎_elim
        (λ l. ⊎_elim
        (λ a. of_assigns assigns (λ z j. k z (In-left z here (cases_assigns rest) (In-left z assigns (switches_assigns switches) j))) b s a)
        (λ a. of_switches switches (λ r j. h r (In-right r flat (switches_signals switches ++ cases_signals rest) (In-left r (switches_signals switches) (cases_signals rest) j))) (λ z j. k z (In-left z here (cases_assigns rest) (In-right z assigns (switches_assigns switches) j))) b s a)
        (In-cases s (assigns_read b assigns) (switches_read b switches) l))
        (λ l. of_cases rest (λ r j. h r (In-right r flat (switches_signals switches ++ cases_signals rest) (In-right r (switches_signals switches) (cases_signals rest) j))) (λ z j. k z (In-right z here (cases_assigns rest) j)) b s l)
        (In-cases s (assigns_read b assigns ++ switches_read b switches) (cases_read b rest) i)

  module _ (root : CaseView) (signals : Each Ok (switches_signals root.switches)) (rights : (l : Link) → In l (case_assigns root) → Each Ok l.right) (unknown : Ok (Fixed X)) where
    pub decision_reads : (b : WireBit) → ReadsBy Ok Ok (case_decision root b)
    decision_reads b =
        case_reads Ok Ok root b signals unknown (λ s i. ⊎_elim
        (λ l. of_assigns root.assigns (λ z j. rights z (In-left z root.assigns (switches_assigns root.switches) j)) b s l)
        (λ l. of_switches root.switches signals (λ z j. rights z (In-right z root.assigns (switches_assigns root.switches) j)) b s l)
        (In-cases s (assigns_read b root.assigns) (switches_read b root.switches) i))

    pub source_reads : (bits : List WireBit) (n : ℕ) (s : SigBit) → Ok s → ReadsBy Ok Ok (expanded_within root bits n s)
    source_reads bits zero s h = h
    source_reads bits (suc n) (Fixed c) h = h
    source_reads bits (suc n) (OnWire b) h = by (has_bit bits b) (replaced_reads Ok Ok Ok (expanded_within root bits n) (source_reads bits n) (case_decision root b) (decision_reads b))
      where
        by : (t : Bool) → ReadsBy Ok Ok (with_leaves (expanded_within root bits n) (case_decision root b)) → ReadsBy Ok Ok (if t then with_leaves (expanded_within root bits n) (case_decision root b) else Leaf (OnWire b))
        by true k = k
        by false k = h
