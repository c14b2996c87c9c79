-- A process with two edges: its clock and its reset, and its rows before and after.
use Rattle.std.proofs.Common.{◌≡◌, ℕ, ◌≤◌, Bool, true, false, cond, ◌&&◌, ◌||◌, List, [], ◌∷◌, ◌++◌, Option, Some, None, ◌⊎◌, inl, inr, refl, sym, ◌∙◌, ap, subst, arith}
use Rattle.std.specs.Prelude.{count_by, if◌then◌else◌, map, not}
use Rattle.std.specs.Option.{is_some}
use Rattle.std.specs.List.{list_all}
use Rattle.std.proofs.lemmas.Bool.{and_parts}
use Rattle.rtl_bits.specs.declared.bit.Bit.{Bit}
use Rattle.rtl_bits.specs.declared.bit.Bit.TheVariants.{X}
use Rattle.rtl_sig.specs.declared.sig.SigBit.{SigBit}
use Rattle.rtl_sig.specs.declared.sig.SigBit.TheVariants.{Fixed, Wire as OnWire}
use Rattle.rtl_sig.specs.declared.sig.WireBit.{WireBit}
use Rattle.rtl_ir.specs.Assigns.{tree_bits}
use Rattle.rtl_ir.specs.EventTests.{differs, switch_test}
use Rattle.rtl_ir.specs.Faults.RuleKinds.{AtEdge, AtLevel, RuleKind, edges_agree, has_one_bit, is_edge, kind_of_event, kinds_of, may_stand, same_updates, writes_stand}
use Rattle.rtl_ir.specs.Faults.TwoEdges.{EdgeBit, edge_bit, events_reset, is_tested, one_resets, resets_well, switches_test, two_edges_stand}
use Rattle.rtl_ir.specs.Flat.Place.{Path}
use Rattle.rtl_ir.specs.Flat.Process.{edge_trigger, no_modules, raced_row, raced_rows, rules_rows, two_rules_rows, pair_by}
use Rattle.rtl_ir.specs.Follow.{all_joins}
use Rattle.rtl_ir.specs.declared.follow.Join.{Join}
use Rattle.rtl_ir.specs.Rules.{acting_rules, has_line}
use Rattle.rtl_ir.specs.Signals.{same_bit}
use Rattle.rtl_ir.specs.SwitchRules.{root_by_rules}
use Rattle.rtl_ir.specs.Tree.{CaseView}
use Rattle.rtl_ir.specs.Types.{Ports}
use Rattle.rtl_ir.specs.WritePorts.{EventLine}
use Rattle.rtl_ir.specs.declared.module.Link.{Link}
use Rattle.rtl_ir.specs.declared.module.Module.{Module}
use Rattle.rtl_ir.specs.declared.process.Event.{Event}
use Rattle.rtl_ir.specs.declared.process.Event.TheVariants.{Low, High, Posedge, Negedge, Edge, Global, Init, Always}
use Rattle.rtl_ir.specs.declared.process.Process.{Process}
use Rattle.rtl_ir.specs.declared.process.SyncRule.{SyncRule}
use Rattle.rtl_ir.specs.declared.wire.Wire.{Wire}
use Rattle.net_model.specs.Lists.{In}
use Rattle.net_model.specs.Proc.Reset.{reset_by, reset_process, reset_rule, with_level, with_reset}
use Rattle.follow_laws.proofs.Following.{same_bit-same}
use Rattle.proc_laws.proofs.RebuildProcesses.{IsGoodProcess}
use Rattle.build_laws.specs.Rebuilds.{join_bits, rules_bits}
use Rattle.reset_laws.proofs.AfterBits.{edges_bits, first_bits, last_bits}
use Rattle.reset_laws.proofs.AfterRows.{acting_first, acting_last, at_edge, register, reset_first, reset_last, updates_are}

-- the tests of bits do not look at the ports of modules
abbrev pub SameTests : Ports → Module → Type 0
SameTests ports m = (b : WireBit) → switch_test ports m b ≡ switch_test no_modules m b

-- how many rules are at one edge of a signal
abbrev pub edge_count : List SyncRule → ℕ
edge_count rules = count_by (λ (r : SyncRule). is_some (edge_trigger r.event)) rules

-- the rules that act are the clock's, with the reset's before it or behind it where that has a line
abbrev pub ActsAfter : SyncRule → SyncRule → List SyncRule → Type 0
ActsAfter rule other rules = (rules ≡ other ∷ []) ⊎ ((rules ≡ rule ∷ other ∷ []) ⊎ (rules ≡ other ∷ rule ∷ []))

-- a process with two edges
pub record IsRace (ports : Ports) (m : Module) (others : List Process) (q : Process) : Type 0 where
  pub clock : EdgeBit
  pub reset : EdgeBit
  pub lines : List Link
  pub first : SyncRule
  pub second : SyncRule
  pub acting : acting_rules q.syncs ≡ first ∷ second ∷ []
  pub given : lines ≡ first.updates
  pub events :
      ((edge_bit first.event ≡ Some reset) × (edge_bit second.event ≡ Some clock))
      ⊎ ((edge_bit first.event ≡ Some clock) × (edge_bit second.event ≡ Some reset))
  pub apart : same_bit clock.bit reset.bit ≡ false
  -- its reset becomes a level
  pub process : reset_process ports m others q (acting_rules q.syncs) ≡ with_level ports m others q reset lines
  -- its bits have races
  pub before :
      (start : SigBit → Bit) (p : Path) (wires : List Wire) →
      rules_rows start p wires m q.root (tree_bits q.root) (acting_rules q.syncs)
      ≡ map (raced_row start p wires m q.root (tree_bits q.root) clock reset) (all_joins lines)
  -- and then registers
  pub after :
      (start : SigBit → Bit) (p : Path) (wires : List Wire) (root : CaseView) (bits : List WireBit)
      (leaves : Join → List SigBit) (j : Join) → In j (all_joins lines) →
      In (register start p wires m root bits leaves reset lines clock j)
      (rules_rows start p wires m root bits (acting_rules (with_reset reset.bit (reset_rule leaves reset lines) q.syncs)))
  -- which drive the same bits
  pub bits_before : rules_bits (acting_rules q.syncs) ≡ join_bits (all_joins lines)
  pub bits_after :
      (leaves : Join → List SigBit) →
      rules_bits (acting_rules (with_reset reset.bit (reset_rule leaves reset lines) q.syncs)) ≡ join_bits (all_joins lines)
  -- which are those of two rules, or one
  pub other : SyncRule
  pub other_acts : In other (acting_rules q.syncs)
  pub other_edge : edge_bit other.event ≡ Some clock
  pub other_lines : other.updates ≡ lines
  pub acts_after :
      (leaves : Join → List SigBit) →
      ActsAfter (reset_rule leaves reset lines) other (acting_rules (with_reset reset.bit (reset_rule leaves reset lines) q.syncs))
  pub resets : resets_well ports m q.root (tree_bits q.root) (all_joins lines) reset ≡ true

edge_kind : (e : Event) (x : EdgeBit) → edge_bit e ≡ Some x → is_edge (kind_of_event e) ≡ true
edge_kind (Posedge signal) x h = refl
edge_kind (Negedge signal) x h = refl
edge_kind (Low signal) x h = absurd (cc)
edge_kind (High signal) x h = absurd (cc)
edge_kind (Edge signal) x h = absurd (cc)
edge_kind Global x h = absurd (cc)
edge_kind Always x h = absurd (cc)
edge_kind Init x h = absurd (cc)

differs_self : (t : Bool) → differs t t ≡ false
differs_self true = refl
differs_self false = refl

module _ (ports : Ports) (m : Module) (others : List Process) (q : Process) (before : List EventLine) (good : IsGoodProcess ports m before q) (ruled : root_by_rules q.root ≡ q.root) (tests : SameTests ports m) where
  abbrev bits : List WireBit
  bits = tree_bits q.root

  tested_same : (e : EdgeBit) → is_tested ports m q.root e ≡ is_tested no_modules m q.root e
  tested_same e = ap (λ z. switches_test z q.root.switches) (tests e.bit)

  abbrev OrNot : List SyncRule → Type 0
  OrNot rules = ((reset_process ports m others q rules ≡ q) × (edge_count rules ≤ 1)) ⊎ IsRace ports m others q

  module _ (a b : SyncRule) (acting : acting_rules q.syncs ≡ a ∷ b ∷ []) (ea eb : EdgeBit) (at_a : edge_bit a.event ≡ Some ea) (at_b : edge_bit b.event ≡ Some eb) where
    stands : one_resets ports m q.root bits (all_joins a.updates) ea eb ≡ true
    stands =
        (λ i. events_reset ports m q.root bits (all_joins a.updates) (sym at_a i) (sym at_b i))
        ∙ (λ i. two_edges_stand ports m (sym ruled i) bits (sym acting i))
        ∙ good.edges

    equal : a.updates ≡ b.updates
    equal =
        let rules = and_parts (may_stand (kinds_of (acting_rules q.syncs)) && edges_agree (acting_rules q.syncs) && list_all (λ (r : SyncRule). has_one_bit r.event) (acting_rules q.syncs)) (writes_stand q.syncs) good.rules in
        let two = and_parts (may_stand (kinds_of (acting_rules q.syncs)) && edges_agree (acting_rules q.syncs)) (list_all (λ (r : SyncRule). has_one_bit r.event) (acting_rules q.syncs)) rules.0 in
        let agree : edges_agree (a ∷ b ∷ []) ≡ true = ap edges_agree (sym acting) ∙ (and_parts (may_stand (kinds_of (acting_rules q.syncs))) (edges_agree (acting_rules q.syncs)) two.0).1 in
        updates_are a b (ap (λ t. not t || same_updates a b) (sym both) ∙ agree)
      where
        both : (is_edge (kind_of_event a.event) && is_edge (kind_of_event b.event)) ≡ true
        both = λ i. edge_kind a.event ea at_a i && edge_kind b.event eb at_b i

    abbrev a_tested : Bool
    a_tested = is_tested ports m q.root ea

    parts : (differs a_tested (is_tested ports m q.root eb) ≡ true) × (resets_well ports m q.root bits (all_joins a.updates) (if a_tested then ea else eb) ≡ true)
    parts = and_parts (differs a_tested (is_tested ports m q.root eb)) (resets_well ports m q.root bits (all_joins a.updates) (if a_tested then ea else eb)) stands

    two_bits : (same_bit ea.bit eb.bit ≡ false) × (same_bit eb.bit ea.bit ≡ false)
    two_bits = (by ea eb (same_bit ea.bit eb.bit) refl (λ e. ap (λ z. switches_test (switch_test ports m z) q.root.switches) e), by eb ea (same_bit eb.bit ea.bit) refl (λ e. ap (λ z. switches_test (switch_test ports m z) q.root.switches) (sym e)))
      where
        by : (x y : EdgeBit) (t : Bool) → same_bit x.bit y.bit ≡ t → (x.bit ≡ y.bit → a_tested ≡ is_tested ports m q.root eb) → t ≡ false
        by x y false e h = refl
        by x y true e h =
            let same : a_tested ≡ is_tested ports m q.root eb = h (same_bit-same x.bit y.bit e) in
            absurd (let no : true ≡ false = sym parts.0 ∙ ap (differs a_tested) (sym same) ∙ differs_self a_tested in cc)

    raced : (start : SigBit → Bit) (p : Path) (wires : List Wire) → rules_rows start p wires m q.root bits (acting_rules q.syncs) ≡ raced_rows start p wires m q.root bits (all_joins a.updates) (Some ea) (Some eb)
    raced start p wires =
        let ta = at_edge a.event ea at_a in
        let tb = at_edge b.event eb at_b in
        (λ i. rules_rows start p wires m q.root bits (acting i))
        ∙ (λ i. two_rules_rows start p wires m q.root bits (pair_by a b (ta.edge i) (tb.edge i) (ta.level i) (tb.level i)))
        ∙ (λ i. raced_rows start p wires m q.root bits (all_joins a.updates) (at_a i) (at_b i))

    chosen : (start : SigBit → Bit) (p : Path) (wires : List Wire) (t : Bool) → a_tested ≡ t → rules_rows start p wires m q.root bits (acting_rules q.syncs) ≡ (if t then map (raced_row start p wires m q.root bits eb ea) (all_joins a.updates) else map (raced_row start p wires m q.root bits ea eb) (all_joins a.updates))
    chosen start p wires t e =
        raced start p wires
        ∙ ap (λ z. if z then map (raced_row start p wires m q.root bits eb ea) (all_joins a.updates) else map (raced_row start p wires m q.root bits ea eb) (all_joins a.updates)) (sym (tested_same ea) ∙ e)

    becomes : (t : Bool) → a_tested ≡ t → reset_process ports m others q (acting_rules q.syncs) ≡ (if t then with_level ports m others q ea a.updates else with_level ports m others q eb a.updates)
    becomes t e =
        ap (reset_process ports m others q) acting
        ∙ (λ i. reset_by ports m others q a.updates (at_a i) (at_b i))
        ∙ ap (λ z. if z then with_level ports m others q ea a.updates else with_level ports m others q eb a.updates) e

    no_start : SigBit → Bit
    no_start s = X

    by_first : (leaves : Join → List SigBit) (t : Bool) → has_line (reset_rule leaves ea a.updates) ≡ t → ActsAfter (reset_rule leaves ea a.updates) b (acting_rules (with_reset ea.bit (reset_rule leaves ea a.updates) q.syncs))
    by_first leaves t e =
        sort t (acting_first no_start [] m.wires m q.root [] leaves ea a.updates q.syncs a b eb acting at_a at_b two_bits.1 ∙ ap (λ z. (if z then reset_rule leaves ea a.updates ∷ [] else []) ++ (b ∷ [])) e)
      where
        sort : (t : Bool) → acting_rules (with_reset ea.bit (reset_rule leaves ea a.updates) q.syncs) ≡ (if t then reset_rule leaves ea a.updates ∷ [] else []) ++ (b ∷ []) → ActsAfter (reset_rule leaves ea a.updates) b (acting_rules (with_reset ea.bit (reset_rule leaves ea a.updates) q.syncs))
        sort true f = inr (inl f)
        sort false f = inl f

    by_last : (leaves : Join → List SigBit) (t : Bool) → has_line (reset_rule leaves eb a.updates) ≡ t → ActsAfter (reset_rule leaves eb a.updates) a (acting_rules (with_reset eb.bit (reset_rule leaves eb a.updates) q.syncs))
    by_last leaves t e =
        sort t (acting_last no_start [] m.wires m q.root [] leaves eb a.updates q.syncs a b ea acting at_a at_b two_bits.0 ∙ ap (λ z. (a ∷ []) ++ ((if z then reset_rule leaves eb a.updates ∷ [] else []) ++ [])) e)
      where
        sort : (t : Bool) → acting_rules (with_reset eb.bit (reset_rule leaves eb a.updates) q.syncs) ≡ (a ∷ []) ++ ((if t then reset_rule leaves eb a.updates ∷ [] else []) ++ []) → ActsAfter (reset_rule leaves eb a.updates) a (acting_rules (with_reset eb.bit (reset_rule leaves eb a.updates) q.syncs))
        sort true f = inr (inr f)
        sort false f = inl f

    race : (t : Bool) → a_tested ≡ t → IsRace ports m others q
    race true e = record {
      clock = eb;
      reset = ea;
      lines = a.updates;
      first = a;
      second = b;
      acting = acting;
      given = refl;
      events = inl (at_a, at_b);
      apart = two_bits.1;
      process = becomes true e;
      before = λ start p wires. chosen start p wires true e;
      after = λ start p wires root bits leaves j i. reset_first start p wires m root bits leaves ea a.updates q.syncs a b eb acting at_a at_b two_bits.1 j (subst (λ z. In j (all_joins z)) equal i);
      bits_before = ap rules_bits acting ∙ edges_bits a b ea eb at_a at_b;
      bits_after = λ leaves. first_bits [] leaves ea a.updates m q.root q.syncs a b eb acting at_a at_b two_bits.1 (ap all_joins (sym equal)) ∙ ap (λ z. join_bits (all_joins z)) (sym equal);
      other = b;
      other_acts = subst (In b) (sym acting) (inr (inl refl));
      other_edge = at_b;
      other_lines = sym equal;
      acts_after = λ leaves. by_first leaves (has_line (reset_rule leaves ea a.updates)) refl;
      resets = ap (λ z. resets_well ports m q.root bits (all_joins a.updates) (if z then ea else eb)) (sym e) ∙ parts.1;
    }
    race false e = record {
      clock = ea;
      reset = eb;
      lines = a.updates;
      first = a;
      second = b;
      acting = acting;
      given = refl;
      events = inr (at_a, at_b);
      apart = two_bits.0;
      process = becomes false e;
      before = λ start p wires. chosen start p wires false e;
      after = λ start p wires root bits leaves j i. reset_last start p wires m root bits leaves eb a.updates q.syncs a b ea acting at_a at_b two_bits.0 j i;
      bits_before = ap rules_bits acting ∙ edges_bits a b ea eb at_a at_b;
      bits_after = λ leaves. last_bits [] leaves eb a.updates m q.root q.syncs a b ea acting at_a at_b two_bits.0 refl;
      other = a;
      other_acts = subst (In a) (sym acting) (inl refl);
      other_edge = at_a;
      other_lines = refl;
      acts_after = λ leaves. by_last leaves (has_line (reset_rule leaves eb a.updates)) refl;
      resets = ap (λ z. resets_well ports m q.root bits (all_joins a.updates) (if z then ea else eb)) (sym e) ∙ parts.1;
    }

  -- a process stays, and has one edge at most, or it has two
  pub race_or : ((reset_process ports m others q (acting_rules q.syncs) ≡ q) × (edge_count (acting_rules q.syncs) ≤ 1)) ⊎ IsRace ports m others q
  race_or = by (acting_rules q.syncs) refl
    where
      one : (t : Bool) → cond t 1 0 ≤ 1
      one true = omega arith
      one false = omega arith

      stand : may_stand (kinds_of (acting_rules q.syncs)) ≡ true
      stand =
          let rules = and_parts (may_stand (kinds_of (acting_rules q.syncs)) && edges_agree (acting_rules q.syncs) && list_all (λ (r : SyncRule). has_one_bit r.event) (acting_rules q.syncs)) (writes_stand q.syncs) good.rules in
          let two = and_parts (may_stand (kinds_of (acting_rules q.syncs)) && edges_agree (acting_rules q.syncs)) (list_all (λ (r : SyncRule). has_one_bit r.event) (acting_rules q.syncs)) rules.0 in
          (and_parts (may_stand (kinds_of (acting_rules q.syncs))) (edges_agree (acting_rules q.syncs)) two.0).0

      bits_one : list_all (λ (r : SyncRule). has_one_bit r.event) (acting_rules q.syncs) ≡ true
      bits_one =
          let rules = and_parts (may_stand (kinds_of (acting_rules q.syncs)) && edges_agree (acting_rules q.syncs) && list_all (λ (r : SyncRule). has_one_bit r.event) (acting_rules q.syncs)) (writes_stand q.syncs) good.rules in
          (and_parts (may_stand (kinds_of (acting_rules q.syncs)) && edges_agree (acting_rules q.syncs)) (list_all (λ (r : SyncRule). has_one_bit r.event) (acting_rules q.syncs)) rules.0).1

      no_edge : (e : Event) → edge_bit e ≡ None → has_one_bit e ≡ true → ◌≡◌ {A = ℕ} (cond (is_some (edge_trigger e)) 1 0) 0
      no_edge (Posedge (OnWire b ∷ [])) f g = absurd (cc)
      no_edge (Negedge (OnWire b ∷ [])) f g = absurd (cc)
      no_edge (Posedge []) f g = absurd (cc)
      no_edge (Posedge (Fixed c ∷ signal)) f g = absurd (cc)
      no_edge (Posedge (OnWire b ∷ s ∷ signal)) f g = absurd (cc)
      no_edge (Negedge []) f g = absurd (cc)
      no_edge (Negedge (Fixed c ∷ signal)) f g = absurd (cc)
      no_edge (Negedge (OnWire b ∷ s ∷ signal)) f g = absurd (cc)
      no_edge (Low signal) f g = refl
      no_edge (High signal) f g = refl
      no_edge (Edge signal) f g = refl
      no_edge Global f g = refl
      no_edge Always f g = refl
      no_edge Init f g = refl

      two : (a b : SyncRule) → acting_rules q.syncs ≡ a ∷ b ∷ [] → (x y : Option EdgeBit) → edge_bit a.event ≡ x → edge_bit b.event ≡ y → ((reset_by ports m others q a.updates x y ≡ q) × (edge_count (a ∷ b ∷ []) ≤ 1)) ⊎ IsRace ports m others q
      two a b e (Some x) (Some y) f g = inr (race a b e x y f g (is_tested ports m q.root x) refl)
      two a b e None y f g =
          let ones = and_parts (has_one_bit a.event) (has_one_bit b.event && true) (ap (list_all (λ (r : SyncRule). has_one_bit r.event)) (sym e) ∙ bits_one) in
          inl (refl, omega (arith, no_edge a.event f ones.0, one (is_some (edge_trigger b.event))))
      two a b e (Some x) None f g =
          let ones = and_parts (has_one_bit a.event) (has_one_bit b.event && true) (ap (list_all (λ (r : SyncRule). has_one_bit r.event)) (sym e) ∙ bits_one) in
          let last = and_parts (has_one_bit b.event) true ones.1 in
          inl (refl, omega (arith, no_edge b.event g last.0, one (is_some (edge_trigger a.event))))

      by : (rules : List SyncRule) → acting_rules q.syncs ≡ rules → OrNot rules
      by [] e = inl (refl, omega arith)
      by (a ∷ []) e = inl (refl, omega (arith, one (is_some (edge_trigger a.event))))
      by (a ∷ b ∷ []) e = two a b e (edge_bit a.event) (edge_bit b.event) refl refl
      by (a ∷ b ∷ c ∷ rules) e =
          absurd (let no : may_stand (kind_of_event a.event ∷ kind_of_event b.event ∷ kind_of_event c.event ∷ kinds_of rules) ≡ true = ap (λ z. may_stand (kinds_of z)) (sym e) ∙ stand in
          let yes = three (kind_of_event a.event) (kind_of_event b.event) (kind_of_event c.event) (kinds_of rules) in
          let wrong : true ≡ false = sym no ∙ yes in cc)
        where
          three : (x y z : RuleKind) (rest : List RuleKind) → may_stand (x ∷ y ∷ z ∷ rest) ≡ false
          three AtEdge AtEdge z rest = refl
          three AtEdge AtLevel z rest = refl
          three AtLevel AtEdge z rest = refl
          three x y z rest = refl
