-- The rules of a process may stand together once the reset's is a level.
use Rattle.std.proofs.Common.{◌≡◌, ℕ, ◌≤◌, Bool, true, false, cond, ◌&&◌, ◌||◌, List, [], ◌∷◌, Some, None, inl, inr, refl, sym, ◌∙◌, ap, subst, arith}
use Rattle.std.specs.Prelude.{if◌then◌else◌, not}
use Rattle.std.specs.List.{list_all, list_any}
use Rattle.std.specs.Option.{is_some}
use Rattle.rtl_sig.specs.declared.sig.SigBit.{SigBit}
use Rattle.rtl_sig.specs.declared.sig.SigBit.TheVariants.{Fixed, Wire as OnWire}
use Rattle.rtl_sig.specs.declared.sig.WireBit.{WireBit}
use Rattle.rtl_ir.specs.Faults.RuleKinds.{AtEdge, AtLevel, edges_agree, has_one_bit, is_edge, is_one_edge, kind_of_event, kinds_of, may_stand, rules_stand, same_updates, writes, writes_stand}
use Rattle.rtl_ir.specs.Faults.TwoEdges.{EdgeBit, edge_bit, events_reset, two_edges_stand}
use Rattle.rtl_ir.specs.Flat.Process.{edge_trigger}
use Rattle.rtl_ir.specs.Follow.{all_joins}
use Rattle.rtl_ir.specs.declared.follow.Join.{Join}
use Rattle.rtl_ir.specs.Rules.{acting_rules, has_item, is_init}
use Rattle.rtl_ir.specs.Tree.{CaseView}
use Rattle.rtl_ir.specs.Types.{Ports}
use Rattle.rtl_ir.specs.declared.module.Link.{Link}
use Rattle.rtl_ir.specs.declared.module.Module.{Module}
use Rattle.rtl_ir.specs.declared.process.Event.{Event}
use Rattle.rtl_ir.specs.declared.process.Event.TheVariants.{Low, High, Posedge, Negedge, Edge, Global, Init, Always}
use Rattle.rtl_ir.specs.declared.process.SyncRule.{SyncRule}
use Rattle.net_model.specs.Proc.Reset.{reset_rule}
use Rattle.reset_laws.proofs.AfterRace.{ActsAfter, edge_count}
use Rattle.reset_laws.proofs.FrameRows.{WriteNothing}
use Rattle.reset_laws.proofs.FreeReads.{acting_in}

-- an event at one edge of a bit
edge_is : (e : Event) (x : EdgeBit) → edge_bit e ≡ Some x → (kind_of_event e ≡ AtEdge) × (has_one_bit e ≡ true)
edge_is (Posedge (OnWire b ∷ [])) x h = (refl, refl)
edge_is (Negedge (OnWire b ∷ [])) x h = (refl, refl)
edge_is (Posedge []) x h = absurd (cc)
edge_is (Posedge (Fixed c ∷ signal)) x h = absurd (cc)
edge_is (Posedge (OnWire b ∷ s ∷ signal)) x h = absurd (cc)
edge_is (Negedge []) x h = absurd (cc)
edge_is (Negedge (Fixed c ∷ signal)) x h = absurd (cc)
edge_is (Negedge (OnWire b ∷ s ∷ signal)) x h = absurd (cc)
edge_is (Low signal) x h = absurd (cc)
edge_is (High signal) x h = absurd (cc)
edge_is (Edge signal) x h = absurd (cc)
edge_is Global x h = absurd (cc)
edge_is Always x h = absurd (cc)
edge_is Init x h = absurd (cc)

module _ (leaves : Join → List SigBit) (reset : EdgeBit) (lines : List Link) where
  abbrev rule : SyncRule
  rule = reset_rule leaves reset lines

  -- the level of the reset
  level_is : (kind_of_event rule.event ≡ AtLevel) × ((has_one_bit rule.event ≡ true) × ((edge_bit rule.event ≡ None) × (edge_trigger rule.event ≡ None)))
  level_is = by reset.level
    where
      event : Bool → Event
      event t = if t then High (OnWire reset.bit ∷ []) else Low (OnWire reset.bit ∷ [])

      by : (t : Bool) → (kind_of_event (event t) ≡ AtLevel) × ((has_one_bit (event t) ≡ true) × ((edge_bit (event t) ≡ None) × (edge_trigger (event t) ≡ None)))
      by true = (refl, (refl, (refl, refl)))
      by false = (refl, (refl, (refl, refl)))

  module _ (other : SyncRule) (clock : EdgeBit) (at : edge_bit other.event ≡ Some clock) where
    parts : (rules : List SyncRule) → ActsAfter rule other rules → ((may_stand (kinds_of rules) && edges_agree rules && list_all (λ (r : SyncRule). has_one_bit r.event) rules) ≡ true)
    parts rules (inl e) =
        let is = edge_is other.event clock at in
        ap (λ z. may_stand (kinds_of z) && edges_agree z && list_all (λ (r : SyncRule). has_one_bit r.event) z) e
        ∙ (λ i. (may_stand (is.0 i ∷ []) && true) && (is.1 i && true))
    parts rules (inr (inl e)) =
        let is = edge_is other.event clock at in
        ap (λ z. may_stand (kinds_of z) && edges_agree z && list_all (λ (r : SyncRule). has_one_bit r.event) z) e
        ∙ (λ i. (may_stand (level_is.0 i ∷ is.0 i ∷ []) && (not (is_edge (level_is.0 i) && is_edge (is.0 i)) || same_updates rule other)) && (level_is.1.0 i && (is.1 i && true)))
    parts rules (inr (inr e)) =
        let is = edge_is other.event clock at in
        ap (λ z. may_stand (kinds_of z) && edges_agree z && list_all (λ (r : SyncRule). has_one_bit r.event) z) e
        ∙ (λ i. (may_stand (is.0 i ∷ level_is.0 i ∷ []) && (not (is_edge (is.0 i) && is_edge (level_is.0 i)) || same_updates other rule)) && (is.1 i && (level_is.1.0 i && true)))

    pub edges_after : (ports : Ports) (m : Module) (root : CaseView) (bits : List WireBit) (rules : List SyncRule) → ActsAfter rule other rules → two_edges_stand ports m root bits rules ≡ true
    edges_after ports m root bits rules (inl e) = ap (two_edges_stand ports m root bits) e
    edges_after ports m root bits rules (inr (inl e)) =
        ap (two_edges_stand ports m root bits) e
        ∙ (λ i. events_reset ports m root bits (all_joins rule.updates) (level_is.1.1.0 i) (edge_bit other.event))
    edges_after ports m root bits rules (inr (inr e)) =
        ap (two_edges_stand ports m root bits) e
        ∙ (λ i. events_reset ports m root bits (all_joins other.updates) (at i) (level_is.1.1.0 i))

    pub few_edges : (rules : List SyncRule) → ActsAfter rule other rules → edge_count rules ≤ 1
    few_edges rules (inl e) = subst (λ z. edge_count z ≤ 1) (sym e) (omega (arith, one (is_some (edge_trigger other.event))))
      where
        one : (t : Bool) → cond t 1 0 ≤ 1
        one true = omega arith
        one false = omega arith
    few_edges rules (inr (inl e)) = subst (λ z. edge_count z ≤ 1) (sym e) (by (is_some (edge_trigger other.event)))
      where
        none : ◌≡◌ {A = ℕ} (cond (is_some (edge_trigger rule.event)) 1 0) 0
        none = ap {B = ℕ} (λ o. cond (is_some o) 1 0) level_is.1.1.1

        by : (t : Bool) → edge_count (rule ∷ other ∷ []) ≤ 1
        by t = omega (arith, none, one (is_some (edge_trigger other.event)))
          where
            one : (t : Bool) → cond t 1 0 ≤ 1
            one true = omega arith
            one false = omega arith
    few_edges rules (inr (inr e)) = subst (λ z. edge_count z ≤ 1) (sym e) (by (is_some (edge_trigger other.event)))
      where
        none : ◌≡◌ {A = ℕ} (cond (is_some (edge_trigger rule.event)) 1 0) 0
        none = ap {B = ℕ} (λ o. cond (is_some o) 1 0) level_is.1.1.1

        by : (t : Bool) → edge_count (other ∷ rule ∷ []) ≤ 1
        by t = omega (arith, none, one (is_some (edge_trigger other.event)))
          where
            one : (t : Bool) → cond t 1 0 ≤ 1
            one true = omega arith
            one false = omega arith

    pub rules_after : (rules : List SyncRule) → ActsAfter rule other (acting_rules rules) → WriteNothing rules → rules_stand rules ≡ true
    rules_after rules acts none =
        λ i. parts (acting_rules rules) acts i && write i
      where
        no_line : (rs : List SyncRule) → WriteNothing rs → list_any writes rs ≡ false
        no_line [] h = refl
        no_line (r ∷ rs) h = λ i. has_item (h r (inl refl) i) || no_line rs (λ x j. h x (inr j)) i

        no_start : (rs : List SyncRule) → WriteNothing rs → list_any (λ (r : SyncRule). is_init r.event && writes r) rs ≡ false
        no_start [] h = refl
        no_start (r ∷ rs) h =
            (λ i. (is_init r.event && has_item (h r (inl refl) i)) || no_start rs (λ x j. h x (inr j)) i) ∙ by (is_init r.event)
          where
            by : (t : Bool) → ((t && false) || false) ≡ false
            by true = refl
            by false = refl

        write : writes_stand rules ≡ true
        write = λ i. not (no_start rules none i) && (not (no_line (acting_rules rules) (λ r j. none r (acting_in rules r j)) i) || is_one_edge (kinds_of (acting_rules rules)))
