-- One process at a time: a module in which its reset becomes a level refines the module, and no bit gets a second driver.
use Rattle.std.proofs.Common.{◌≡◌, ◌<◌, Bool, true, false, ◌&&◌, List, [], ◌∷◌, length, Some, inl, inr, ⊎_elim, refl, sym, ◌∙◌, ap, subst, arith}
use Rattle.std.specs.Prelude.{if◌then◌else◌, not}
use Rattle.std.specs.List.{list_all}
use Rattle.std.proofs.lemmas.Bool.{and_parts}
use Rattle.rtl_sig.specs.declared.sig.SigBit.{SigBit}
use Rattle.rtl_sig.specs.declared.sig.SigBit.TheVariants.{Fixed, Wire as OnWire}
use Rattle.rtl_sig.specs.declared.sig.WireBit.{WireBit}
use Rattle.rtl_ir.specs.Assigns.{tree_bits}
use Rattle.rtl_ir.specs.EventTests.{switch_test}
use Rattle.rtl_ir.specs.declared.process.Event.TheVariants.{Low, High}
use Rattle.rtl_ir.specs.Flat.Place.{Frame}
use Rattle.reset_laws.proofs.AfterBits.{place_from}
use Rattle.rtl_ir.specs.Faults.RuleKinds.{edges_agree, has_one_bit, kinds_of, may_stand, writes_stand}
use Rattle.rtl_ir.specs.Faults.TwoEdges.{EdgeBit, edge_bit}
use Rattle.rtl_ir.specs.Flat.Cell as flat
use Rattle.rtl_ir.specs.Follow.{all_joins, joins}
use Rattle.rtl_ir.specs.declared.follow.Join.{Join}
use Rattle.rtl_ir.specs.Rules.{acting_rules, is_init}
use Rattle.rtl_ir.specs.Scope.{with_processes}
use Rattle.rtl_ir.specs.SwitchRules.{root_by_rules}
use Rattle.rtl_ir.specs.Tree.{CaseView}
use Rattle.rtl_ir.specs.Types.{Ports}
use Rattle.rtl_ir.specs.WritePorts.{EventLine}
use Rattle.rtl_ir.specs.declared.module.Link.{Link}
use Rattle.rtl_ir.specs.declared.module.Module.{Module}
use Rattle.rtl_ir.specs.declared.process.Process.{Process}
use Rattle.rtl_ir.specs.declared.process.SyncRule.{SyncRule}
use Rattle.net_model.proofs.Members.{In-mapped}
use Rattle.net_model.specs.Lists.{In}
use Rattle.net_model.specs.Proc.Reset.{active_leaves, is_free, reset_places, reset_rule, switches_at, with_level, line_of_places}
use Rattle.net_model.specs.Refine.{AgreeOn, IsWellDriven, RefinesOver}
use Rattle.net_model.specs.Within.{BitIn, Each, EventIn, LinkIn, ProcessIn, RuleIn, SwitchesIn}
use Rattle.pass_laws.proofs.Counting.{count, count_more}
use Rattle.pass_laws.proofs.Faultless.{AreFit, all_fine, fits, no_cell_faults, no_faults}
use Rattle.build_laws.proofs.CountingBits.{among, fewer}
use Rattle.proc_laws.proofs.RebuildProcesses.{IsGoodProcess, each_good}
use Rattle.proc_laws.specs.Ready.{HasItsBits, HaveNoStarts, IsReady}
use Rattle.build_laws.specs.Rebuilds.{AreAmong, driven_bits, rules_bits}
use Rattle.reset_laws.specs.Trees.{TreesHaveBits}
use Rattle.reset_laws.proofs.AfterRace.{IsRace, SameTests}
use Rattle.reset_laws.proofs.AfterRules.{reset_plain, rule_after}
use Rattle.reset_laws.proofs.FrameRows.{WriteNothing}
use Rattle.reset_laws.proofs.FreeReads.{acting_in, event_in}
use Rattle.reset_laws.proofs.FreeStep.{edge_in}
use Rattle.reset_laws.proofs.FreedBits.{among_once, tree_distinct, tree_in, in_tree}
use Rattle.reset_laws.proofs.FreedTrees.{bits_fewer, switches_ruled}
use Rattle.reset_laws.proofs.ReadMemories.{from_flat}
use Rattle.reset_laws.proofs.StepWrites.{place_fixed, race_writes, switches_at_in}
use Rattle.reset_laws.proofs.TestOnce.{cells_once}
use Rattle.reset_laws.proofs.TestPorts.{same_tests}

-- a process that is read by the rules, and whose signals are of wires of the module
pub record IsKept (m : Module) (s : Process) : Type 0 where
  pub ruled : root_by_rules s.root ≡ s.root
  pub within : ProcessIn (length m.wires) s

pub agree_refl : (ports : flat.Ports) (frames : List Frame) → AgreeOn ports ports frames
agree_refl ports [] = tt
agree_refl ports (f ∷ frames) = (refl, agree_refl ports frames)

-- one body goes for another, and no bit gets a second driver
pub record IsGood (over : flat.Ports) (b c : Module) : Type 0 where
  pub driven : (own : flat.Ports) → IsWellDriven own b → IsWellDriven own c
  pub refines : RefinesOver b c over

module _ (ports : Ports) (m : Module) (ready : IsReady with_processes ports m) (placed : HasItsBits m) (trees : TreesHaveBits m) (no_starts : HaveNoStarts m) where
  pub fit : AreFit m.cells
  fit c i kind own =
      let f = all_fine with_processes ports m [] m.cells (no_faults with_processes ports m ready.faultless).cells c i in
      fits _ c kind (no_cell_faults with_processes ports m f.0 c kind own f.1).shape

  pub tests : SameTests ports m
  tests = same_tests ports m (cells_once ports m ready placed.pins)

  pub good : (q : Process) → In q m.processes → (before : List EventLine) × IsGoodProcess ports m before q
  good q i = each_good ports m [] m.processes (no_faults with_processes ports m ready.faultless).processes q i

  module _ (q : Process) (there : In q m.processes) (ruled : root_by_rules q.root ≡ q.root) (within : ProcessIn (length m.wires) q) (others : List Process) (race : IsRace ports m others q) where
    abbrev pub r : Process
    r = with_level ports m others q race.reset race.lines

    abbrev js : List Join
    js = all_joins race.lines

    abbrev pub leaves : Join → List SigBit
    leaves = active_leaves ports m q.root (tree_bits q.root) race.reset

    abbrev pub rule : SyncRule
    rule = reset_rule leaves race.reset race.lines

    abbrev pub root : CaseView
    root = record q.root { switches = switches_at (switch_test ports m race.reset.bit) (not race.reset.level) q.root.switches }

    -- the root that it has
    pub by_root : (P : CaseView → Type 0) → P root → P q.root → P r.root
    by_root P h k = by (is_free ports m others q race.reset js)
      where
        by : (t : Bool) → P (if t then root else q.root)
        by true = h
        by false = k

    pub root_ruled : root_by_rules root ≡ root
    root_ruled = λ i. record root { switches = switches_ruled (switch_test ports m race.reset.bit) (not race.reset.level) q.root.switches (ap (λ (z : CaseView). z.switches) ruled) i }

    pub after_ruled : root_by_rules r.root ≡ r.root
    after_ruled = by_root (λ z. root_by_rules z ≡ z) root_ruled ruled

    pub trees_among : AreAmong (tree_bits r.root) (tree_bits q.root)
    trees_among =
        among_once (tree_bits r.root) (tree_bits q.root) (tree_distinct r.root)
        (by_root (λ z. (b : WireBit) → In b (tree_bits z) → In b (tree_bits q.root))
        (λ b i. in_tree q.root ruled b (bits_fewer (switch_test ports m race.reset.bit) (not race.reset.level) q.root b (tree_in root root_ruled b i)))
        (λ b i. i))

    -- it drives no more
    pub drives_among : AreAmong (driven_bits r) (driven_bits q)
    drives_among =
        among (driven_bits r) (driven_bits q) (λ b.
        let same : rules_bits (acting_rules r.syncs) ≡ rules_bits (acting_rules q.syncs) = race.bits_after leaves ∙ sym race.bits_before in
        omega (arith, count_more b (tree_bits r.root) (rules_bits (acting_rules r.syncs)), count_more b (tree_bits q.root) (rules_bits (acting_rules q.syncs)), ap (count b) same, fewer (tree_bits r.root) (tree_bits q.root) trees_among b))

    -- its rules
    pub writes_before : WriteNothing q.syncs
    writes_before =
        let g = (good q there).1 in
        race_writes q.syncs race.first race.second race.acting (and_parts (may_stand (kinds_of (acting_rules q.syncs)) && edges_agree (acting_rules q.syncs) && list_all (λ (z : SyncRule). has_one_bit z.event) (acting_rules q.syncs)) (writes_stand q.syncs) g.rules).1

    pub rule_cases : (P : SyncRule → Type 0) → P rule → Each P q.syncs → Each P r.syncs
    rule_cases P h k z i =
        ⊎_elim (λ e. subst P (sym e) h) (λ j. k z j) (rule_after race.reset.bit rule (reset_plain leaves race.reset race.lines) q.syncs z i)

    pub writes_after : WriteNothing r.syncs
    writes_after = rule_cases (λ z. z.writes ≡ []) refl writes_before

    pub starts_after : Each (λ (z : SyncRule). is_init z.event ≡ false) r.syncs
    starts_after = rule_cases (λ z. is_init z.event ≡ false) (reset_plain leaves race.reset race.lines) (no_starts q there)

    -- its signals
    event_wire : (z : SyncRule) → In z (acting_rules q.syncs) → (x : EdgeBit) → edge_bit z.event ≡ Some x → x.bit.wire < length m.wires
    event_wire z i x e =
        event_in (length m.wires) z.event (within.syncs z (acting_in q.syncs z i)).event (OnWire x.bit) (edge_in z.event x e)

    reset_low : race.reset.bit.wire < length m.wires
    reset_low =
        ⊎_elim
        (λ h. event_wire race.first (subst (In race.first) (sym race.acting) (inl refl)) race.reset h.0)
        (λ h. event_wire race.second (subst (In race.second) (sym race.acting) (inr (inl refl))) race.reset h.1)
        race.events

    rule_event : EventIn (length m.wires) rule.event
    rule_event = by race.reset.level
      where
        by : (t : Bool) → EventIn (length m.wires) (if t then High (OnWire race.reset.bit ∷ []) else Low (OnWire race.reset.bit ∷ []))
        by true = λ x i. ⊎_elim (λ e. subst (BitIn (length m.wires)) (sym e) reset_low) (λ j. absurd j) i
        by false = λ x i. ⊎_elim (λ e. subst (BitIn (length m.wires)) (sym e) reset_low) (λ j. absurd j) i

    line_in : (l : Link) → In l race.lines → LinkIn (length m.wires) l
    line_in l i =
        let first : In race.first (acting_rules q.syncs) = subst (In race.first) (sym race.acting) (inl refl) in
        (within.syncs race.first (acting_in q.syncs race.first first)).updates l (subst (In l) race.given i)

    rule_updates : Each (LinkIn (length m.wires)) rule.updates
    rule_updates l i =
        let z = from_flat (λ (x : Link). line_of_places (reset_places leaves (joins x.left x.right))) race.lines l i in
        of_places (reset_places leaves (joins z.0.left z.0.right)) (λ k j. place_in z.0 z.1 k j) l z.2
      where
        joined_left : (ls rs : List SigBit) (j : Join) → In j (joins ls rs) → In (OnWire j.bit) ls
        joined_left [] rs j k = absurd k
        joined_left (x ∷ ls) [] j k = absurd k
        joined_left (Fixed c ∷ ls) (y ∷ rs) j k = inr (joined_left ls rs j k)
        joined_left (OnWire b ∷ ls) (y ∷ rs) j (inl e) = inl (ap (λ (x : Join). OnWire x.bit) e)
        joined_left (OnWire b ∷ ls) (y ∷ rs) j (inr k) = inr (joined_left ls rs j k)

        place_in : (x : Link) → In x race.lines → (k : Join) → In k (reset_places leaves (joins x.left x.right)) → BitIn (length m.wires) (OnWire k.bit) × BitIn (length m.wires) k.source
        place_in x j k l =
            let of = place_from leaves (joins x.left x.right) k l in
            let low : BitIn (length m.wires) (OnWire of.0.bit) = (line_in x j).0 (OnWire of.0.bit) (joined_left x.left x.right of.0 of.1) in
            (subst (λ b. BitIn (length m.wires) (OnWire b)) (sym of.2) low, subst (BitIn (length m.wires)) (sym (place_fixed leaves (joins x.left x.right) k l).1) tt)

        of_places : (ks : List Join) → ((k : Join) → In k ks → BitIn (length m.wires) (OnWire k.bit) × BitIn (length m.wires) k.source) → (l : Link) → In l (line_of_places ks) → LinkIn (length m.wires) l
        of_places [] h l j = absurd j
        of_places (k ∷ ks) h l (inr j) = absurd j
        of_places (k ∷ ks) h l (inl e) =
            subst (LinkIn (length m.wires)) (sym e)
            ((λ x j. let y = In-mapped (λ (z : Join). OnWire z.bit) x (k ∷ ks) j in subst (BitIn (length m.wires)) (sym y.2) (h y.0 y.1).0), (λ x j. let y = In-mapped (λ (z : Join). z.source) x (k ∷ ks) j in subst (BitIn (length m.wires)) (sym y.2) (h y.0 y.1).1))

    pub after_within : ProcessIn (length m.wires) r
    after_within =
        let both = by_root (λ z. Each (LinkIn (length m.wires)) z.assigns × SwitchesIn (length m.wires) z.switches) (within.assigns, switches_at_in (length m.wires) (switch_test ports m race.reset.bit) (not race.reset.level) q.root.switches within.switches) (within.assigns, within.switches) in
        record {
          assigns = both.0;
          switches = both.1;
          syncs = rule_cases (RuleIn (length m.wires)) (record { event = rule_event; updates = rule_updates; writes = λ x i. absurd i }) within.syncs;
        }
