-- The rows of the rules of a process with two edges, and those once the reset's is a level.
use Rattle.std.proofs.Common.{◌≡◌, Bool, true, false, List, [], ◌∷◌, ◌++◌, Some, None, refl, sym, ◌∙◌, ap, subst}
use Rattle.std.specs.Prelude.{filter, flat_map, if◌then◌else◌, map, not}
use Rattle.std.specs.Cmp.Lexicographic.{pointwise}
use Rattle.std.specs.Option.{is_some}
use Rattle.std.proofs.lemmas.Bool.{and_parts, or_parts}
use Rattle.rtl_bits.specs.declared.bit.Bit.{Bit}
use Rattle.rtl_sig.specs.declared.sig.SigBit.{SigBit}
use Rattle.rtl_sig.specs.declared.sig.SigBit.TheVariants.{Fixed, Wire as OnWire}
use Rattle.rtl_sig.specs.declared.sig.WireBit.{WireBit}
use Rattle.rtl_ir.specs.Faults.RuleKinds.{same_line, same_updates}
use Rattle.rtl_ir.specs.Faults.TwoEdges.{EdgeBit, edge_bit}
use Rattle.rtl_ir.specs.Flat.Driver.{Driven}
use Rattle.rtl_ir.specs.Flat.Place.{Path}
use Rattle.rtl_ir.specs.Flat.Process.{edge_row, edge_trigger, level_after, level_row, level_trigger, loaded_row, loaded_rows, one_rule_rows, rules_rows, two_rules_rows, pair_by}
use Rattle.rtl_ir.specs.Follow.{all_joins, source_at}
use Rattle.rtl_ir.specs.declared.follow.Join.{Join}
use Rattle.rtl_ir.specs.Rules.{acting_rules, has_item, has_line}
use Rattle.rtl_ir.specs.Signals.{same_bit, same_signal}
use Rattle.rtl_ir.specs.Tree.{CaseView}
use Rattle.rtl_ir.specs.declared.module.Link.{Link}
use Rattle.rtl_ir.specs.declared.module.Module.{Module}
use Rattle.rtl_ir.specs.declared.process.Event.{Event}
use Rattle.rtl_ir.specs.declared.process.Event.TheVariants.{Low, High, Posedge, Negedge, Edge, Global, Init, Always}
use Rattle.rtl_ir.specs.declared.process.SyncRule.{SyncRule}
use Rattle.rtl_ir.specs.declared.wire.Wire.{Wire}
use Rattle.net_model.proofs.Members.{In-left, In-map}
use Rattle.net_model.specs.Lists.{In}
use Rattle.net_model.specs.Proc.Reset.{is_edge_of, reset_rule, with_reset}
use Rattle.pass_laws.proofs.Once.{same_bit-refl}
use Rattle.reset_laws.proofs.AfterRules.{acting_after, kept, reset_plain}
use Rattle.reset_laws.proofs.RaceRows.{trigger}
use Rattle.rtl_ir.proofs.SamePlaces.{signal_is}

lines_are : (a b : List Link) → pointwise same_line a b ≡ true → a ≡ b
lines_are [] [] e = refl
lines_are (k ∷ a) (l ∷ b) e =
    let both = and_parts (same_line k l) (pointwise same_line a b) e in
    let sides = and_parts (same_signal k.left l.left) (same_signal k.right l.right) both.0 in
    let left : k.left ≡ l.left = signal_is k.left l.left sides.0 in
    let right : k.right ≡ l.right = signal_is k.right l.right sides.1 in
    λ i. record { left = left i; right = right i } ∷ lines_are a b both.1 i
lines_are [] (l ∷ b) e = absurd (cc)
lines_are (k ∷ a) [] e = absurd (cc)

pub updates_are : (a b : SyncRule) → same_updates a b ≡ true → a.updates ≡ b.updates
updates_are a b e = lines_are a.updates b.updates e

-- an event at an edge of one bit
pub record IsAtEdge (e : Event) (x : EdgeBit) : Type 0 where
  pub edge : edge_trigger e ≡ Some (trigger x)
  pub level : level_trigger e ≡ None
  pub alone :
      (start : SigBit → Bit) (p : Path) (wires : List Wire) (root : CaseView) (bits : List WireBit) (updates : List Join) →
      one_rule_rows start p wires root bits updates e ≡ map (edge_row start p wires (trigger x)) updates

pub at_edge : (e : Event) (x : EdgeBit) → edge_bit e ≡ Some x → IsAtEdge e x
at_edge (Posedge (OnWire b ∷ [])) x h =
    let same : record { bit = b; level = true } ≡ x = cc in
    subst (IsAtEdge (Posedge (OnWire b ∷ []))) same (record { edge = refl; level = refl; alone = λ start p wires root bits updates. refl })
at_edge (Negedge (OnWire b ∷ [])) x h =
    let same : record { bit = b; level = false } ≡ x = cc in
    subst (IsAtEdge (Negedge (OnWire b ∷ []))) same (record { edge = refl; level = refl; alone = λ start p wires root bits updates. refl })
at_edge (Posedge []) x h = absurd (cc)
at_edge (Posedge (Fixed c ∷ signal)) x h = absurd (cc)
at_edge (Posedge (OnWire b ∷ s ∷ signal)) x h = absurd (cc)
at_edge (Negedge []) x h = absurd (cc)
at_edge (Negedge (Fixed c ∷ signal)) x h = absurd (cc)
at_edge (Negedge (OnWire b ∷ s ∷ signal)) x h = absurd (cc)
at_edge (Low signal) x h = absurd (cc)
at_edge (High signal) x h = absurd (cc)
at_edge (Edge signal) x h = absurd (cc)
at_edge Global x h = absurd (cc)
at_edge Always x h = absurd (cc)
at_edge Init x h = absurd (cc)

module _ (start : SigBit → Bit) (p : Path) (wires : List Wire) (m : Module) (root : CaseView) (bits : List WireBit) (leaves : Join → List SigBit) (reset : EdgeBit) (lines : List Link) where
  abbrev pub rule : SyncRule
  rule = reset_rule leaves reset lines

  pub rule_level : level_trigger rule.event ≡ Some (trigger reset)
  rule_level = by reset.level
    where
      by : (t : Bool) → level_trigger (if t then High (OnWire reset.bit ∷ []) else Low (OnWire reset.bit ∷ [])) ≡ Some (record { signal = OnWire reset.bit ∷ []; level = level_after t })
      by true = refl
      by false = refl

  pub rule_no_edge : edge_trigger rule.event ≡ None
  rule_no_edge = by reset.level
    where
      by : (t : Bool) → edge_trigger (if t then High (OnWire reset.bit ∷ []) else Low (OnWire reset.bit ∷ [])) ≡ None
      by true = refl
      by false = refl

  -- the row of a bit of the clock's rule
  abbrev pub register : EdgeBit → Join → Driven
  register clock j = loaded_row start p wires (trigger clock) (trigger reset) (source_at (all_joins rule.updates) j.bit) j

  in_loaded : (clock : EdgeBit) (edges : List Join) (j : Join) → In j edges → In (register clock j) (loaded_rows start p wires (trigger clock) edges (trigger reset) (all_joins rule.updates))
  in_loaded clock edges j i =
      In-left (register clock j) (map (λ (k : Join). loaded_row start p wires (trigger clock) (trigger reset) (source_at (all_joins rule.updates) k.bit) k) edges)
      (map (level_row start p wires (trigger reset)) (filter (λ (k : Join). not (is_some (source_at edges k.bit))) (all_joins rule.updates)))
      (In-map (register clock) j edges i)

  pub empty_rule : has_line rule ≡ false → all_joins rule.updates ≡ []
  empty_rule e = ap all_joins (none rule.updates (or_parts (has_item rule.updates) false e).0)
    where
      none : (xs : List Link) → has_item xs ≡ false → xs ≡ []
      none [] f = refl
      none (x ∷ xs) f = absurd (cc)

  alone_row : (clock : EdgeBit) (r : SyncRule) → edge_bit r.event ≡ Some clock → has_line rule ≡ false → (j : Join) → In j (all_joins r.updates) → In (register clock j) (rules_rows start p wires m root bits (r ∷ []))
  alone_row clock r at e j i =
      let row : register clock j ≡ edge_row start p wires (trigger clock) j = ap (λ z. loaded_row start p wires (trigger clock) (trigger reset) (source_at z j.bit) j) (empty_rule e) in
      subst (λ z. In z (rules_rows start p wires m root bits (r ∷ []))) (sym row)
      (subst (In (edge_row start p wires (trigger clock) j)) (sym ((at_edge r.event clock at).alone start p wires root bits (all_joins r.updates)))
      (In-map (edge_row start p wires (trigger clock)) j (all_joins r.updates) i))

  -- the reset's rule first
  first_row : (clock : EdgeBit) (r : SyncRule) → edge_bit r.event ≡ Some clock → (j : Join) → In j (all_joins r.updates) → In (register clock j) (rules_rows start p wires m root bits (rule ∷ r ∷ []))
  first_row clock r at j i =
      let is = at_edge r.event clock at in
      subst (In (register clock j)) (λ k. two_rules_rows start p wires m root bits (pair_by rule r (sym rule_no_edge k) (sym is.edge k) (sym rule_level k) (sym is.level k)))
      (in_loaded clock (all_joins r.updates) j i)

  -- or last
  last_row : (clock : EdgeBit) (r : SyncRule) → edge_bit r.event ≡ Some clock → (j : Join) → In j (all_joins r.updates) → In (register clock j) (rules_rows start p wires m root bits (r ∷ rule ∷ []))
  last_row clock r at j i =
      let is = at_edge r.event clock at in
      subst (In (register clock j)) (λ k. two_rules_rows start p wires m root bits (pair_by r rule (sym is.edge k) (sym rule_no_edge k) (sym is.level k) (sym rule_level k)))
      (in_loaded clock (all_joins r.updates) j i)

  abbrev rows_after : List SyncRule → List Driven
  rows_after rules = rules_rows start p wires m root bits rules

  kept_reset : (r : SyncRule) → edge_bit r.event ≡ Some reset → kept reset.bit rule (reset_plain leaves reset lines) r ≡ (if has_line rule then rule ∷ [] else [])
  kept_reset r at =
      (λ i. if is_edge_of reset.bit (at i) then (if has_line rule then rule ∷ [] else []) else r ∷ [])
      ∙ ap (λ t. if t then (if has_line rule then rule ∷ [] else []) else r ∷ []) (same_bit-refl reset.bit)

  kept_clock : (clock : EdgeBit) (r : SyncRule) → edge_bit r.event ≡ Some clock → same_bit clock.bit reset.bit ≡ false → kept reset.bit rule (reset_plain leaves reset lines) r ≡ r ∷ []
  kept_clock clock r at apart =
      (λ i. if is_edge_of reset.bit (at i) then (if has_line rule then rule ∷ [] else []) else r ∷ [])
      ∙ ap (λ t. if t then (if has_line rule then rule ∷ [] else []) else r ∷ []) apart

  -- the rules that act
  pub acting_first : (rules : List SyncRule) (a b : SyncRule) (clock : EdgeBit) → acting_rules rules ≡ a ∷ b ∷ [] → edge_bit a.event ≡ Some reset → edge_bit b.event ≡ Some clock → same_bit clock.bit reset.bit ≡ false → acting_rules (with_reset reset.bit rule rules) ≡ (if has_line rule then rule ∷ [] else []) ++ (b ∷ [])
  acting_first rules a b clock acting at_a at_b apart =
      acting_after reset.bit rule (reset_plain leaves reset lines) rules
      ∙ ap (flat_map (kept reset.bit rule (reset_plain leaves reset lines))) acting
      ∙ (λ k. kept_reset a at_a k ++ (kept_clock clock b at_b apart k ++ []))

  pub acting_last : (rules : List SyncRule) (a b : SyncRule) (clock : EdgeBit) → acting_rules rules ≡ a ∷ b ∷ [] → edge_bit a.event ≡ Some clock → edge_bit b.event ≡ Some reset → same_bit clock.bit reset.bit ≡ false → acting_rules (with_reset reset.bit rule rules) ≡ (a ∷ []) ++ ((if has_line rule then rule ∷ [] else []) ++ [])
  acting_last rules a b clock acting at_a at_b apart =
      acting_after reset.bit rule (reset_plain leaves reset lines) rules
      ∙ ap (flat_map (kept reset.bit rule (reset_plain leaves reset lines))) acting
      ∙ (λ k. kept_clock clock a at_a apart k ++ (kept_reset b at_b k ++ []))

  -- each bit of the clock's rule has its row
  pub reset_first : (rules : List SyncRule) (a b : SyncRule) (clock : EdgeBit) → acting_rules rules ≡ a ∷ b ∷ [] → edge_bit a.event ≡ Some reset → edge_bit b.event ≡ Some clock → same_bit clock.bit reset.bit ≡ false → (j : Join) → In j (all_joins b.updates) → In (register clock j) (rows_after (acting_rules (with_reset reset.bit rule rules)))
  reset_first rules a b clock acting at_a at_b apart j i =
      subst (λ z. In (register clock j) (rows_after z)) (sym (acting_first rules a b clock acting at_a at_b apart)) (by (has_line rule) refl)
    where
      by : (t : Bool) → has_line rule ≡ t → In (register clock j) (rows_after ((if t then rule ∷ [] else []) ++ (b ∷ [])))
      by true e = first_row clock b at_b j i
      by false e = alone_row clock b at_b e j i

  pub reset_last : (rules : List SyncRule) (a b : SyncRule) (clock : EdgeBit) → acting_rules rules ≡ a ∷ b ∷ [] → edge_bit a.event ≡ Some clock → edge_bit b.event ≡ Some reset → same_bit clock.bit reset.bit ≡ false → (j : Join) → In j (all_joins a.updates) → In (register clock j) (rows_after (acting_rules (with_reset reset.bit rule rules)))
  reset_last rules a b clock acting at_a at_b apart j i =
      subst (λ z. In (register clock j) (rows_after z)) (sym (acting_last rules a b clock acting at_a at_b apart)) (by (has_line rule) refl)
    where
      by : (t : Bool) → has_line rule ≡ t → In (register clock j) (rows_after ((a ∷ []) ++ ((if t then rule ∷ [] else []) ++ [])))
      by true e = last_row clock a at_a j i
      by false e = alone_row clock a at_a e j i
