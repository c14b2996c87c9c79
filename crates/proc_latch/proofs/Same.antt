-- Chains by the numbers of nodes are chains by places.
use Rattle.std.proofs.Common.{◌≡◌, ℕ, zero, suc, ◌+◌, Bool, true, false, List, [], ◌∷◌, ◌++◌, Option, Some, None, if◌then◌else◌, refl, sym, ◌∙◌, ap, subst, arith}
use Rattle.std.specs.Option.{option_map_or, option_or}
use Rattle.rtl_sig.specs.declared.sig.SigBit.{SigBit}
use Rattle.rtl_sig.specs.declared.sig.SigBit.TheVariants.{Fixed, Wire as OnWire}
use Rattle.rtl_sig.specs.declared.sig.WireBit.{WireBit}
use Rattle.rtl_ir.specs.declared.module.Link.{Link}
use Rattle.rtl_ir.specs.Assigns.{assigned, cases_assigns}
use Rattle.rtl_ir.specs.Signals.{has_bit, same_bit}
use Rattle.rtl_ir.specs.Tree.{CaseView, Switches, NoSwitch, OneSwitch, Cases, NoCase, OneCase}
use Rattle.net_model.specs.Proc.Latch.{Chains, Leaves, Side, made_chain, missing_leaf, other_leaf, own_leaf}
use Rattle.net_model.specs.Proc.Latch as by_places
use Rattle.net_model.specs.Proc.Mux.{assigns_run, lowest}
use Rattle.match_cells.specs.Numbers.{behind_case, behind_switch}
use Rattle.match_cells.proofs.Places.{IsInSwitches, case_number, switch_number}
use Rattle.match_cells.proofs.Same.{IsMade, case_same_value}
use Rattle.match_cells.proofs.Standing.{AtCases, AtSwitches, Stands, below_place, next_place, own_place}
use Rattle.proc_latch.specs.Chains.{Chained, Leaf, cases_chain, chain_at, chain_of, leaf_within, new_chain, put_chain, start_leaf, switches_chain, with_case_bit}
use Rattle.proc_latch.specs.Givens.{case_given, has_between, value_at}
use Rattle.proc_latch.specs.declared.given.Given.{Given}
use Rattle.proc_latch.proofs.Fitting.{FitsCases, FitsSwitches, root_fits, root_value}
use Rattle.proc_latch.proofs.Putting.{chain_more, put_more}

module _ (root : Switches) where
  -- what is built is the same, and so are the matches and the chains that are made
  pub record AreSame (d : Chains) (f : Chained) : Type 0 where
    pub building : d.trees.building ≡ f.trees.building
    pub made : IsMade root d.trees.made f.trees.made
    pub chains : (b : WireBit) → made_chain d.chains b ≡ chain_at f.chains b

  -- and the bit that is given
  pub record Agrees (d : SigBit × Chains) (f : SigBit × Chained) : Type 0 where
    pub bit : d.0 ≡ f.0
    pub same : AreSame d.1 f.1

  -- leaves are read alike
  abbrev pub LeavesAgree : Leaves → Leaf → Type 0
  LeavesAgree by_place by_number = (s : SigBit) (d : Chains) (f : Chained) → AreSame d f → Agrees (by_place s d) (by_number s f)

  case_bit_same : (p : List ℕ) (n : ℕ) → Stands root p n → (signal : List SigBit) (patterns : List (List SigBit)) (body acc : SigBit) (d : Chains) (f : Chained) → AreSame d f → Agrees (by_places.with_case_bit p signal patterns body acc d) (with_case_bit n signal patterns body acc f)
  unfolding with_case_bit
  case_bit_same p n stands signal patterns body acc d f s =
      let a = case_same_value root p stands.0 n (sym stands.1) signal patterns 1 (body ∷ []) (acc ∷ []) d.trees f.trees refl refl s.building s.made in
      record { bit = ap lowest a.value; same = record { building = a.building; made = a.made; chains = s.chains } }

  either_same : (t u : Bool) → u ≡ t → (r : SigBit × Chains) (q : SigBit × Chained) → Agrees r q → (r' : SigBit × Chains) (q' : SigBit × Chained) → Agrees r' q' → Agrees (if t then r else r') (if u then q else q')
  either_same t u e r q a r' q' b = subst (λ v. Agrees (if t then r else r') (if v then q else q')) (sym e) (by t)
    where
      by : (t : Bool) → Agrees (if t then r else r') (if t then q else q')
      by true = a
      by false = b

  module _ (by_place : Leaves) (by_number : Leaf) (agree : LeavesAgree by_place by_number) (b : WireBit) (given : List Given) where
    start_same : (assigns : List Link) (o : Option SigBit) → o ≡ assigned assigns b → (prior : SigBit) (d : Chains) (f : Chained) → AreSame d f → Agrees (by_places.assigned_leaf by_place assigns b prior d) (start_leaf by_number o prior f)
    start_same assigns o is prior d f s =
        subst (λ x. Agrees (by_places.assigned_leaf by_place assigns b prior d) (start_leaf by_number x prior f)) (sym is) (by (assigned assigns b))
      where
        by : (o : Option SigBit) → Agrees (option_map_or {T = SigBit} {U = SigBit × Chains} (λ s. by_place s d) o (prior, d)) (option_map_or {T = SigBit} {U = SigBit × Chained} (λ s. by_number s f) o (prior, f))
        by None = record { bit = refl; same = s }
        by (Some x) = agree x d f s

    mutual
      unfolding switches_chain

      pub switches_same : (above : List ℕ) (k n : ℕ) (ss : Switches) (prior : SigBit) (d : Chains) (f : Chained) → FitsSwitches b given n ss → AtSwitches root above k n ss → AreSame d f → Agrees (by_places.switches_chain by_place b above k ss prior d) (switches_chain by_number given n ss prior f)
      switches_same above k n NoSwitch prior d f fits at s = record { bit = refl; same = s }
      switches_same above k n (OneSwitch signal attributes cases rest) prior d f fits at s =
          let inner =
          cases_same (above ++ k ∷ []) 0 (n + 1) signal cases prior d f fits.1.0
          (λ j q i. subst (λ p. Stands root p (case_number (n + 1) cases (j ∷ q))) (below_place above k j q) (at 0 (j ∷ q) i)) s in
          let a =
          either_same (assigns_run (cases_assigns cases) (b ∷ [])) (has_between given n (behind_switch n cases)) fits.0
          (by_places.cases_chain by_place b (above ++ k ∷ []) 0 signal cases prior d) (cases_chain by_number given (n + 1) signal cases prior f) inner
          (prior, d) (prior, f) (record { bit = refl; same = s }) in
          let then_d : SigBit × Chains = (if assigns_run (cases_assigns cases) (b ∷ []) then by_places.cases_chain by_place b (above ++ k ∷ []) 0 signal cases prior d else (prior, d)) in
          let then_f : SigBit × Chained = (if has_between given n (behind_switch n cases) then cases_chain by_number given (n + 1) signal cases prior f else (prior, f)) in
          let rest_same =
          switches_same above (k + 1) (behind_switch n cases) rest then_f.0 then_d.1 then_f.1 fits.1.1
          (λ j q i. subst (λ p. Stands root p (switch_number (behind_switch n cases) rest (j ∷ q))) (next_place above k j q) (at (suc j) q i)) a.same in
          subst (λ v. Agrees (by_places.switches_chain by_place b above (k + 1) rest v then_d.1) (switches_chain by_number given (behind_switch n cases) rest then_f.0 then_f.1)) (sym a.bit) rest_same

      pub cases_same : (above : List ℕ) (k n : ℕ) (signal : List SigBit) (cs : Cases) (prior : SigBit) (d : Chains) (f : Chained) → FitsCases b given n cs → AtCases root above k n cs → AreSame d f → Agrees (by_places.cases_chain by_place b above k signal cs prior d) (cases_chain by_number given n signal cs prior f)
      cases_same above k n signal NoCase prior d f fits at s = record { bit = refl; same = s }
      cases_same above k n signal (OneCase patterns assigns attributes switches rest) prior d f fits at s =
          let acc_d = by_places.cases_chain by_place b above (k + 1) signal rest prior d in
          let acc_f = cases_chain by_number given (behind_case n switches) signal rest prior f in
          let acc =
          cases_same above (k + 1) (behind_case n switches) signal rest prior d f fits.1.1
          (λ j q i. subst (λ p. Stands root p (case_number (behind_case n switches) rest (j ∷ q))) (next_place above k j q) (at (suc j) q i)) s in
          let start_d = by_places.assigned_leaf by_place assigns b prior acc_d.1 in
          let start_f = start_leaf by_number (value_at given n) prior acc_f.1 in
          let start = start_same assigns (value_at given n) fits.0 prior acc_d.1 acc_f.1 acc.same in
          let body_d = by_places.switches_chain by_place b (above ++ k ∷ []) 0 switches start_d.0 start_d.1 in
          let body_f = switches_chain by_number given (n + 1) switches start_f.0 start_f.1 in
          let body : Agrees body_d body_f =
          subst (λ v. Agrees (by_places.switches_chain by_place b (above ++ k ∷ []) 0 switches v start_d.1) body_f) (sym start.bit)
          (switches_same (above ++ k ∷ []) 0 (n + 1) switches start_f.0 start_d.1 start_f.1 fits.1.0
          (λ j q i. subst (λ p. Stands root p (switch_number (n + 1) switches (j ∷ q))) (below_place above k j q) (at 0 (j ∷ q) i)) start.same) in
          let own = subst (λ p. Stands root p n) (own_place above k) (at 0 [] tt) in
          let last = case_bit_same (above ++ k ∷ []) n own signal patterns body_f.0 acc_f.0 body_d.1 body_f.1 body.same in
          subst (λ v. Agrees (by_places.with_case_bit (above ++ k ∷ []) signal patterns v acc_d.0 body_d.1) (with_case_bit n signal patterns body_f.0 acc_f.0 body_f.1)) (sym body.bit)
          (subst (λ v. Agrees (by_places.with_case_bit (above ++ k ∷ []) signal patterns body_f.0 v body_d.1) (with_case_bit n signal patterns body_f.0 acc_f.0 body_f.1)) (sym acc.bit) last)

module _ (root : CaseView) (side : Side) where
  module _ (by_place : Leaves) (by_number : Leaf) (agree : LeavesAgree root.switches by_place by_number) (b : WireBit) where
    -- a chain that is made now
    abbrev made_now : Chains → SigBit × Chains
    made_now d =
        let start = by_places.assigned_leaf by_place root.assigns b (missing_leaf side) d in
        let value = by_places.switches_chain by_place b [] 0 root.switches start.0 start.1 in
        (value.0, record { trees = value.1.trees; chains = value.1.chains ++ record { bit = b; result = value.0 } ∷ [] })

    -- .. goes among the others
    put_same : (value : SigBit) (d : Chains) (f : Chained) → AreSame root.switches d f → AreSame root.switches (record { trees = d.trees; chains = d.chains ++ record { bit = b; result = value } ∷ [] }) (put_chain b value f)
    unfolding put_chain
    put_same value d f s = record {
      building = s.building;
      made = s.made;
      chains = λ c.
          chain_more d.chains (record { bit = b; result = value }) c
          ∙ (λ i. option_or (s.chains c i) (if same_bit b c then Some value else None))
          ∙ sym (put_more b value f.chains c);
    }

    new_same : (d : Chains) (f : Chained) → AreSame root.switches d f → Agrees root.switches (made_now d) (new_chain by_number side root b f)
    unfolding new_chain
    new_same d f s =
        let given = case_given b 0 root in
        let start_d = by_places.assigned_leaf by_place root.assigns b (missing_leaf side) d in
        let start_f = start_leaf by_number (value_at given 0) (missing_leaf side) f in
        let start = start_same root.switches by_place by_number agree b given root.assigns (value_at given 0) (root_value root b) (missing_leaf side) d f s in
        let value_d = by_places.switches_chain by_place b [] 0 root.switches start_d.0 start_d.1 in
        let value_f = switches_chain by_number given 1 root.switches start_f.0 start_f.1 in
        let value : Agrees root.switches value_d value_f =
        subst (λ v. Agrees root.switches (by_places.switches_chain by_place b [] 0 root.switches v start_d.1) value_f) (sym start.bit)
        (switches_same root.switches by_place by_number agree b given [] 0 1 root.switches start_f.0 start_d.1 start_f.1 (root_fits root b)
        (λ j q i. let e : j ≡ 0 + j = omega arith in subst (λ m. IsInSwitches root.switches (m ∷ q) × (switch_number 1 root.switches (m ∷ q) ≡ switch_number 1 root.switches (j ∷ q))) e (i, refl))
        start.same) in
        record {
          bit = value.bit;
          same =
              subst (λ v. AreSame root.switches (record { trees = value_d.1.trees; chains = value_d.1.chains ++ record { bit = b; result = v } ∷ [] }) (put_chain b value_f.0 value_f.1)) (sym value.bit)
              (put_same value_f.0 value_d.1 value_f.1 value.same);
        }

    pub chain_same : (d : Chains) (f : Chained) → AreSame root.switches d f → Agrees root.switches (by_places.chain_of by_place side root b d) (chain_of by_number side root b f)
    unfolding chain_of
    chain_same d f s =
        subst (λ o. Agrees root.switches (option_map_or {T = SigBit} {U = SigBit × Chains} (λ r. (r, d)) o (made_now d)) (chain_of by_number side root b f)) (sym (s.chains b))
        (by (chain_at f.chains b))
      where
        by : (o : Option SigBit) → Agrees root.switches (option_map_or {T = SigBit} {U = SigBit × Chains} (λ r. (r, d)) o (made_now d)) (option_map_or {T = SigBit} {U = SigBit × Chained} (λ r. (r, f)) o (new_chain by_number side root b f))
        by (Some r) = record { bit = refl; same = s }
        by None = new_same d f s

  deeper : (by_place : Leaves) (by_number : Leaf) (b : WireBit) (d : Chains) (f : Chained) → AreSame root.switches d f → (o h : Bool) (s : SigBit × SigBit)
      → Agrees root.switches (by_places.chain_of by_place side root b d) (chain_of by_number side root b f)
      → Agrees root.switches (if o then (s.0, d) else if h then by_places.chain_of by_place side root b d else (s.1, d)) (if o then (s.0, f) else if h then chain_of by_number side root b f else (s.1, f))
  deeper by_place by_number b d f same true h s chain = record { bit = refl; same = same }
  deeper by_place by_number b d f same false true s chain = chain
  deeper by_place by_number b d f same false false s chain = record { bit = refl; same = same }

  pub leaves_same : (bits : List WireBit) (q : WireBit) (n : ℕ) → LeavesAgree root.switches (by_places.leaf_within n side root bits q) (leaf_within n side root bits q)
  unfolding leaf_within
  leaves_same bits q n (Fixed c) d f s = record { bit = refl; same = s }
  leaves_same bits q zero (OnWire b) d f s = by (same_bit b q)
    where
      by : (o : Bool) → Agrees root.switches (if o then (own_leaf side, d) else (other_leaf side (OnWire b), d)) (if o then (own_leaf side, f) else (other_leaf side (OnWire b), f))
      by true = record { bit = refl; same = s }
      by false = record { bit = refl; same = s }
  leaves_same bits q (suc n) (OnWire b) d f s =
      deeper (by_places.leaf_within n side root bits q) (leaf_within n side root bits q) b d f s (same_bit b q) (has_bit bits b) (own_leaf side, other_leaf side (OnWire b))
      (chain_same (by_places.leaf_within n side root bits q) (leaf_within n side root bits q) (leaves_same bits q n) b d f s)
