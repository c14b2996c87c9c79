-- The bits that the rules of a process drive are the same ones once the reset's is a level.
use Rattle.std.proofs.Common.{◌≡◌, Bool, true, false, cond, List, [], ◌∷◌, ◌++◌, Some, None, inl, inr, ⊎_elim, refl, sym, ◌∙◌, ap, subst}
use Rattle.std.specs.Prelude.{filter, if◌then◌else◌, map, not, take}
use Rattle.std.specs.Option.{is_some}
use Rattle.std.proofs.lemmas.List.{append-nil}
use Rattle.rtl_bits.specs.declared.bit.Bit.{Bit}
use Rattle.rtl_sig.specs.declared.sig.SigBit.{SigBit}
use Rattle.rtl_ir.specs.Faults.TwoEdges.{EdgeBit, are_one_constant, edge_bit}
use Rattle.rtl_bits.specs.declared.bit.Bit.TheVariants.{X}
use Rattle.rtl_ir.specs.Flat.Place.{Path}
use Rattle.rtl_ir.specs.Tree.{CaseView}
use Rattle.rtl_ir.specs.declared.module.Module.{Module}
use Rattle.rtl_ir.specs.Flat.Process.{edge_trigger, level_trigger}
use Rattle.rtl_ir.specs.Follow.{all_joins, source_at}
use Rattle.rtl_ir.specs.declared.follow.Join.{Join}
use Rattle.rtl_ir.specs.Rules.{acting_rules, has_line}
use Rattle.rtl_ir.specs.Signals.{same_bit}
use Rattle.rtl_ir.specs.declared.module.Link.{Link}
use Rattle.rtl_ir.specs.declared.process.Event.{Event}
use Rattle.rtl_ir.specs.declared.process.Event.TheVariants.{Low, High, Posedge, Negedge, Edge, Global, Init, Always}
use Rattle.rtl_ir.specs.declared.process.SyncRule.{SyncRule}
use Rattle.net_model.proofs.Members.{In-cases, In-mapped}
use Rattle.net_model.specs.Lists.{In}
use Rattle.net_model.specs.Proc.Reset.{reset_places, reset_rule, with_reset}
use Rattle.pass_laws.proofs.Once.{same_bit-refl}
use Rattle.build_laws.specs.Rebuilds.{join_bits, loaded_bits, one_rule_bits, raced_bits, rules_bits, two_rules_bits}
use Rattle.reset_laws.proofs.AfterRows.{acting_first, acting_last, at_edge, rule_level, rule_no_edge}
use Rattle.reset_laws.proofs.AfterRules.{reset_joins}
use Rattle.reset_laws.proofs.RaceRows.{trigger}

-- each place of the reset's rule is of a bit that is updated
pub place_from : (leaves : Join → List SigBit) (js : List Join) (k : Join) → In k (reset_places leaves js) → (j : Join) × In j js × (k.bit ≡ j.bit)
place_from leaves [] k i = absurd i
place_from leaves (j ∷ js) k i = by (are_one_constant (leaves j)) i (place_from leaves js k)
  where
    later : (In k (reset_places leaves js) → (z : Join) × In z js × (k.bit ≡ z.bit)) → In k (reset_places leaves js) → (z : Join) × In z (j ∷ js) × (k.bit ≡ z.bit)
    later go l = let z = go l in (z.0, inr z.1, z.2)

    by : (t : Bool) → In k (if t then map (λ s. record { bit = j.bit; source = s }) (take 1 (leaves j)) ++ reset_places leaves js else reset_places leaves js) → (In k (reset_places leaves js) → (z : Join) × In z js × (k.bit ≡ z.bit)) → (z : Join) × In z (j ∷ js) × (k.bit ≡ z.bit)
    by false l go = later go l
    by true l go =
        ⊎_elim
        (λ h. let z = In-mapped (λ (s : SigBit). record { bit = j.bit; source = s }) k (take 1 (leaves j)) h in (j, inl refl, ap (λ (y : Join). y.bit) z.2))
        (later go)
        (In-cases k (map (λ s. record { bit = j.bit; source = s }) (take 1 (leaves j))) (reset_places leaves js) l)

source_some : (js : List Join) (j : Join) → In j js → is_some (source_at js j.bit) ≡ true
source_some [] j i = absurd i
source_some (k ∷ js) j (inl e) = ap (λ t. is_some (if t then Some k.source else source_at js j.bit)) (ap (λ (z : Join). same_bit z.bit j.bit) (sym e) ∙ same_bit-refl j.bit)
source_some (k ∷ js) j (inr i) = by (same_bit k.bit j.bit) (source_some js j i)
  where
    by : (t : Bool) → is_some (source_at js j.bit) ≡ true → is_some (if t then Some k.source else source_at js j.bit) ≡ true
    by true h = refl
    by false h = h

filter_none : (test : Join → Bool) (ks : List Join) → ((k : Join) → In k ks → test k ≡ false) → filter test ks ≡ []
filter_none test [] h = refl
filter_none test (k ∷ ks) h = ap (λ t. cond t (k ∷ filter test ks) (filter test ks)) (h k (inl refl)) ∙ filter_none test ks (λ z i. h z (inr i))

one_bits : (e : Event) (x : EdgeBit) → edge_bit e ≡ Some x → (updates : List Join) → one_rule_bits updates e ≡ join_bits updates
one_bits (Posedge signal) x h updates = refl
one_bits (Negedge signal) x h updates = refl
one_bits (Low signal) x h updates = refl
one_bits (High signal) x h updates = refl
one_bits (Edge signal) x h updates = absurd (cc)
one_bits Global x h updates = refl
one_bits Always x h updates = refl
one_bits Init x h updates = absurd (cc)

-- two edges
pub edges_bits : (a b : SyncRule) (x y : EdgeBit) → edge_bit a.event ≡ Some x → edge_bit b.event ≡ Some y → rules_bits (a ∷ b ∷ []) ≡ join_bits (all_joins a.updates)
edges_bits a b x y h k =
    let ta = at_edge a.event x h in
    let tb = at_edge b.event y k in
    (λ i. two_rules_bits a b (ta.edge i) (tb.edge i) (ta.level i) (tb.level i))
    ∙ (λ i. raced_bits (all_joins a.updates) (h i) (k i))

module _ (p : Path) (leaves : Join → List SigBit) (reset : EdgeBit) (lines : List Link) (m : Module) (root : CaseView) where
  abbrev rule : SyncRule
  rule = reset_rule leaves reset lines

  no_start : SigBit → Bit
  no_start s = X

  abbrev level : level_trigger rule.event ≡ Some (trigger reset)
  level = rule_level no_start p m.wires m root [] leaves reset lines

  abbrev no_edge : edge_trigger rule.event ≡ None
  no_edge = rule_no_edge no_start p m.wires m root [] leaves reset lines

  loaded : (edges : List Join) → edges ≡ all_joins lines → loaded_bits edges (all_joins rule.updates) ≡ join_bits edges
  loaded edges e =
      ap (λ z. join_bits edges ++ join_bits z) (filter_none (λ (k : Join). not (is_some (source_at edges k.bit))) (all_joins rule.updates) each)
      ∙ append-nil (join_bits edges)
    where
      each : (k : Join) → In k (all_joins rule.updates) → not (is_some (source_at edges k.bit)) ≡ false
      each k i =
          let z = place_from leaves (all_joins lines) k (subst (In k) (reset_joins leaves reset lines) i) in
          ap not ((λ j. is_some (source_at (e j) (z.2 j))) ∙ source_some (all_joins lines) z.0 z.1)

  -- the reset's rule first, or last
  pub first_bits : (rules : List SyncRule) (a b : SyncRule) (clock : EdgeBit) → acting_rules rules ≡ a ∷ b ∷ [] → edge_bit a.event ≡ Some reset → edge_bit b.event ≡ Some clock → same_bit clock.bit reset.bit ≡ false → all_joins b.updates ≡ all_joins lines → rules_bits (acting_rules (with_reset reset.bit rule rules)) ≡ join_bits (all_joins b.updates)
  first_bits rules a b clock acting at_a at_b apart same =
      ap rules_bits (acting_first no_start p m.wires m root [] leaves reset lines rules a b clock acting at_a at_b apart)
      ∙ by (has_line rule)
    where
      by : (t : Bool) → rules_bits ((if t then rule ∷ [] else []) ++ (b ∷ [])) ≡ join_bits (all_joins b.updates)
      by false = one_bits b.event clock at_b (all_joins b.updates)
      by true =
          let tb = at_edge b.event clock at_b in
          (λ i. two_rules_bits rule b (no_edge i) (tb.edge i) (level i) (tb.level i)) ∙ loaded (all_joins b.updates) same

  pub last_bits : (rules : List SyncRule) (a b : SyncRule) (clock : EdgeBit) → acting_rules rules ≡ a ∷ b ∷ [] → edge_bit a.event ≡ Some clock → edge_bit b.event ≡ Some reset → same_bit clock.bit reset.bit ≡ false → all_joins a.updates ≡ all_joins lines → rules_bits (acting_rules (with_reset reset.bit rule rules)) ≡ join_bits (all_joins a.updates)
  last_bits rules a b clock acting at_a at_b apart same =
      ap rules_bits (acting_last no_start p m.wires m root [] leaves reset lines rules a b clock acting at_a at_b apart)
      ∙ by (has_line rule)
    where
      by : (t : Bool) → rules_bits ((a ∷ []) ++ ((if t then rule ∷ [] else []) ++ [])) ≡ join_bits (all_joins a.updates)
      by false = one_bits a.event clock at_a (all_joins a.updates)
      by true =
          let ta = at_edge a.event clock at_a in
          (λ i. two_rules_bits a rule (ta.edge i) (no_edge i) (ta.level i) (level i)) ∙ loaded (all_joins a.updates) same
