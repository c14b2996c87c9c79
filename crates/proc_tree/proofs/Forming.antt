-- A module without faults has none once its switches are read by the rules and its start values are moved.
use Rattle.std.proofs.Common.{◌≡◌, ℕ, ◌+◌, Bool, true, false, if◌then◌else◌, ◌&&◌, ◌||◌, List, [], ◌∷◌, ◌++◌, length, inl, inr, ⊎_elim, refl, sym, ◌∙◌, ap, subst}
use Rattle.std.specs.Prelude.{◌==◌, flat_map, map, not}
use Rattle.std.specs.List.{list_all, list_any}
use Rattle.std.proofs.lemmas.Bool.{or_parts}
use Rattle.rtl_ir.specs.declared.module.Link.{Link}
use Rattle.rtl_ir.specs.declared.module.Module.{Module}
use Rattle.rtl_ir.specs.declared.process.Process.{Process}
use Rattle.rtl_ir.specs.declared.process.SyncRule.{SyncRule}
use Rattle.rtl_ir.specs.declared.process.WriteLine.{WriteLine}
use Rattle.rtl_ir.specs.declared.wire.Wire.{Wire}
use Rattle.rtl_ir.specs.Assigns.{case_assigns, tree_bits}
use Rattle.rtl_ir.specs.Decisions.{expanded, leaves_of}
use Rattle.rtl_ir.specs.Drivers.{FromRules, FromTree, all_by, cell_drives, drives_of, link_drives, rule_drives, tree_drives}
use Rattle.rtl_ir.specs.Faults.{module_faults}
use Rattle.rtl_ir.specs.Faults.Bits.{bits_faults}
use Rattle.rtl_ir.specs.Faults.Links.{is_uneven}
use Rattle.rtl_ir.specs.Faults.ProcessLimits.{gives_to_constant, has_uneven, is_too_wide, memory_lines, passes_limit, switches_pass, switches_uneven, update_lines}
use Rattle.rtl_ir.specs.Faults.Processes.{faults_of_process, has_bad_line, process_faults, starts_stand}
use Rattle.rtl_ir.specs.Faults.RuleKinds.{edges_agree, has_one_bit, is_one_edge, kinds_of, may_stand, rules_stand, writes, writes_stand}
use Rattle.rtl_ir.specs.Faults.SelfReading.{reads_itself}
use Rattle.rtl_ir.specs.Faults.TwoEdges.{are_one_constant, two_edges_stand}
use Rattle.rtl_ir.specs.Follow.{all_joins}
use Rattle.rtl_ir.specs.declared.follow.Join.{Join}
use Rattle.rtl_ir.specs.Rules.{acting_rules, is_init, updated_by}
use Rattle.rtl_ir.specs.Scope.{Scope}
use Rattle.rtl_ir.specs.Signals.{has_constant}
use Rattle.rtl_ir.specs.SwitchRules.{root_by_rules}
use Rattle.rtl_ir.specs.Types.{Ports}
use Rattle.rtl_ir.specs.WritePorts.{EventLine, write_lines}
use Rattle.net_model.specs.Lists.{In}
use Rattle.net_model.specs.Within.{Each}
use Rattle.net_model.specs.Proc.Start.{begun_wires, proc_tree_of, ruled_process}
use Rattle.net_model.proofs.Members.{In-cases, In-left, In-right, map-append}
use Rattle.net_model.proofs.Ranges.{each_both, each_more, each_none}
use Rattle.proc_tree.proofs.Faultless.{IsFine, fine_again, is_fine, no_more, stand_write}
use Rattle.proc_tree.proofs.Lines.{begun_lines, same_bits_faults, same_port_drives, same_wire_faults}
use Rattle.proc_tree.proofs.Ruled.{WritesNoStart, acting_left, no_lines_left, rules_left}
use Rattle.proc_tree.proofs.Ruling.{root_again, tree_bits_again}
use Rattle.proc_tree.proofs.Trees.{none_among, ruled_assigns, ruled_pass, ruled_uneven}
use Rattle.pass_laws.proofs.Faultless.{no_faults, none_left, none_right}

-- the lines of rules that are left are lines of the rules
lines_left : {B : Type 0} (f : SyncRule → List B) (rules : List SyncRule) (x : B) → In x (flat_map f (rules_left rules)) → In x (flat_map f rules)
lines_left f [] x i = i
lines_left f (r ∷ rules) x i = by (not (is_init r.event)) (lines_left f rules x) i
  where
    by : (t : Bool) → (In x (flat_map f (rules_left rules)) → In x (flat_map f rules)) → In x (flat_map f (if t then r ∷ rules_left rules else rules_left rules)) → In x (f r ++ flat_map f rules)
    by true g i = ⊎_elim (λ l. In-left x (f r) (flat_map f rules) l) (λ q. In-right x (f r) (flat_map f rules) (g q)) (In-cases x (f r) (flat_map f (rules_left rules)) i)
    by false g i = In-right x (f r) (flat_map f rules) (g i)

pub rules_among : (rules : List SyncRule) (x : SyncRule) → In x (rules_left rules) → In x rules
rules_among [] x i = i
rules_among (r ∷ rules) x i = by (not (is_init r.event)) (rules_among rules x) i
  where
    by : (t : Bool) → (In x (rules_left rules) → In x rules) → In x (if t then r ∷ rules_left rules else rules_left rules) → In x (r ∷ rules)
    by true g (inl i) = inl i
    by true g (inr i) = inr (g i)
    by false g i = inr (g i)

abbrev event_lines : SyncRule → List EventLine
event_lines r = map (λ (l : WriteLine). record { event = r.event; line = l }) r.writes

-- the lines that write are those of the rules that are left
written_left : (rules : List SyncRule) → Each WritesNoStart rules → flat_map event_lines (rules_left rules) ≡ flat_map event_lines rules
written_left [] h = refl
written_left (r ∷ rules) h = by (is_init r.event) refl (h r (inl refl)) (written_left rules (λ x i. h x (inr i)))
  where
    by : (t : Bool) → is_init r.event ≡ t → WritesNoStart r → flat_map event_lines (rules_left rules) ≡ flat_map event_lines rules
        → flat_map event_lines (if not t then r ∷ rules_left rules else rules_left rules) ≡ event_lines r ++ flat_map event_lines rules
    by true e w g = g ∙ ap (λ ws. map (λ (l : WriteLine). record { event = r.event; line = l }) ws ++ flat_map event_lines rules) (sym (w e))
    by false e w g = ap (λ z. event_lines r ++ z) g

abbrev IsQuiet : Process → Type 0
IsQuiet p = Each WritesNoStart p.syncs

all_written_left : (ps : List Process) → Each IsQuiet ps → flat_map write_lines (map ruled_process ps) ≡ flat_map write_lines ps
all_written_left [] h = refl
all_written_left (p ∷ ps) h =
    λ i. written_left p.syncs (h p (inl refl)) i ++ all_written_left ps (λ q j. h q (inr j)) i

-- rules that stand together do so without those that give start values
split_and : (a b : Bool) → (a && b) ≡ true → (a ≡ true) × (b ≡ true)
split_and true true e = (refl, refl)
split_and true false e = absurd (cc)
split_and false b e = absurd (cc)

join_and : (a b : Bool) → a ≡ true → b ≡ true → (a && b) ≡ true
join_and a b e f = λ i. e i && f i

negated : (t : Bool) → not t ≡ true → t ≡ false
negated false e = refl
negated true e = absurd (cc)

stand_left : (rules : List SyncRule) → rules_stand rules ≡ true → rules_stand (rules_left rules) ≡ true
stand_left rules e =
    let starts : SyncRule → Bool = λ (r : SyncRule). is_init r.event && writes r in
    let together : List SyncRule → Bool = λ (rs : List SyncRule). (may_stand (kinds_of rs) && edges_agree rs) && list_all (λ (r : SyncRule). has_one_bit r.event) rs in
    let written : List SyncRule → Bool = λ (rs : List SyncRule). not (list_any writes rs) || is_one_edge (kinds_of rs) in
    let two = split_and (together (acting_rules rules)) (writes_stand rules) e in
    let one = split_and (not (list_any starts rules)) (written (acting_rules rules)) two.1 in
    let none : list_any starts (rules_left rules) ≡ false = none_among starts (rules_left rules) rules (rules_among rules) (negated (list_any starts rules) one.0) in
    join_and (together (acting_rules (rules_left rules))) (writes_stand (rules_left rules))
    (ap together (acting_left rules) ∙ two.0)
    (join_and (not (list_any starts (rules_left rules))) (written (acting_rules (rules_left rules))) (ap not none) (ap written (acting_left rules) ∙ one.1))

module _ (scope : Scope) (ports : Ports) (m : Module) (takes : (p : Process) → scope.processes p ≡ true → scope.processes (ruled_process p) ≡ true) where
  narrow_stays : (p : Process) → is_too_wide p ≡ false → is_too_wide (ruled_process p) ≡ false
  narrow_stays p e =
      let wide : WriteLine → Bool = λ (l : WriteLine). passes_limit l.value in
      let parts = or_parts (switches_pass p.root.switches) (list_any wide (memory_lines p)) e in
      λ i. ruled_pass p.root.switches parts.0 i || none_among wide (memory_lines (ruled_process p)) (memory_lines p) (lines_left (λ (r : SyncRule). r.writes) p.syncs) parts.1 i

  even_stays : (p : Process) → has_uneven p ≡ false → has_uneven (ruled_process p) ≡ false
  even_stays p e =
      let odd : WriteLine → Bool = λ (l : WriteLine). not (length l.enable == length l.value) in
      let three = or_parts ((switches_uneven p.root.switches || list_any is_uneven (case_assigns p.root)) || list_any is_uneven (update_lines p)) (list_any odd (memory_lines p)) e in
      let two = or_parts (switches_uneven p.root.switches || list_any is_uneven (case_assigns p.root)) (list_any is_uneven (update_lines p)) three.0 in
      let one = or_parts (switches_uneven p.root.switches) (list_any is_uneven (case_assigns p.root)) two.0 in
      λ i. ((ruled_uneven p.root.switches one.0 i
      || none_among is_uneven (case_assigns (root_by_rules p.root)) (case_assigns p.root) (λ x j. ruled_assigns x p.root j) one.1 i)
      || none_among is_uneven (update_lines (ruled_process p)) (update_lines p) (lines_left (λ (r : SyncRule). r.updates) p.syncs) two.1 i)
      || none_among odd (memory_lines (ruled_process p)) (memory_lines p) (lines_left (λ (r : SyncRule). r.writes) p.syncs) three.1 i

  given_stays : (p : Process) → gives_to_constant p ≡ false → gives_to_constant (ruled_process p) ≡ false
  given_stays p e =
      let to : Link → Bool = λ (l : Link). has_constant l.left in
      let parts = or_parts (list_any to (case_assigns p.root)) (list_any to (update_lines p)) e in
      λ i. none_among to (case_assigns (root_by_rules p.root)) (case_assigns p.root) (λ x j. ruled_assigns x p.root j) parts.0 i
      || none_among to (update_lines (ruled_process p)) (update_lines p) (lines_left (λ (r : SyncRule). r.updates) p.syncs) parts.1 i

  starts_stay : (p : Process) → starts_stand (root_by_rules (root_by_rules p.root)) (tree_bits (root_by_rules p.root)) (ruled_process p) ≡ true
  starts_stay p =
      ap (λ lines. list_all (λ (j : Join). are_one_constant (leaves_of (expanded (root_by_rules (root_by_rules p.root)) (tree_bits (root_by_rules p.root)) j.source))) (all_joins lines)) (no_lines_left p.syncs)

  process_stays : (earlier : List Process) → Each IsQuiet earlier → (p : Process) → IsFine scope ports m earlier p → IsFine scope ports (proc_tree_of m) (map ruled_process earlier) (ruled_process p)
  process_stays earlier quiet p h = record {
    taken = takes p h.taken;
    narrow = narrow_stays p h.narrow;
    even = even_stays p h.even;
    given = given_stays p h.given;
    rules = stand_left p.syncs h.rules;
    reading = (λ i. reads_itself (root_again p.root i) (tree_bits_again p.root i)) ∙ h.reading;
    starts = starts_stay p;
    edges = (λ i. two_edges_stand ports m (root_again p.root i) (tree_bits_again p.root i) (acting_left p.syncs i)) ∙ h.edges;
    lines = (λ i. has_bad_line scope.clocks m (all_written_left earlier quiet i) (written_left p.syncs (stand_write p.syncs h.rules) i)) ∙ h.lines;
  }

  processes_stay : (earlier ps : List Process) → Each IsQuiet earlier → process_faults scope ports m earlier ps ≡ [] → process_faults scope ports (proc_tree_of m) (map ruled_process earlier) (map ruled_process ps) ≡ []
  processes_stay earlier [] quiet e = refl
  processes_stay earlier (p ∷ ps) quiet e =
      let fine = is_fine scope ports m earlier p (none_left (faults_of_process scope ports m earlier p) (process_faults scope ports m (earlier ++ p ∷ []) ps) e) in
      let here : faults_of_process scope ports (proc_tree_of m) (map ruled_process earlier) (ruled_process p) ≡ [] = fine_again scope ports (proc_tree_of m) (map ruled_process earlier) (ruled_process p) (process_stays earlier quiet p fine) in
      let more : Each IsQuiet (earlier ++ p ∷ []) = each_both IsQuiet earlier (p ∷ []) quiet (each_more IsQuiet p [] (stand_write p.syncs fine.rules) (each_none IsQuiet)) in
      let later : process_faults scope ports (proc_tree_of m) (map ruled_process (earlier ++ p ∷ [])) (map ruled_process ps) ≡ [] = processes_stay (earlier ++ p ∷ []) ps more (none_right (faults_of_process scope ports m earlier p) (process_faults scope ports m (earlier ++ p ∷ []) ps) e) in
      let behind : process_faults scope ports (proc_tree_of m) (map ruled_process earlier ++ ruled_process p ∷ []) (map ruled_process ps) ≡ [] = subst (λ z. process_faults scope ports (proc_tree_of m) z (map ruled_process ps) ≡ []) (map-append ruled_process earlier (p ∷ [])) later in
      λ i. here i ++ behind i

  trees_stay : (at : ℕ) (ps : List Process) → tree_drives at (map ruled_process ps) ≡ tree_drives at ps
  trees_stay at [] = refl
  trees_stay at (p ∷ ps) = λ i. all_by (FromTree at) (tree_bits_again p.root i) ++ trees_stay (at + 1) ps i

  rules_stay : (at : ℕ) (ps : List Process) → rule_drives at (map ruled_process ps) ≡ rule_drives at ps
  rules_stay at [] = refl
  rules_stay at (p ∷ ps) = λ i. all_by (FromRules at) (updated_by (acting_left p.syncs i)) ++ rules_stay (at + 1) ps i

  pub drives_stay : drives_of ports (proc_tree_of m) ≡ drives_of ports m
  drives_stay =
      λ i. (((same_port_drives 0 (begun_wires m 0 m.wires) m.wires (begun_lines m 0 m.wires) i ++ cell_drives ports 0 m.cells) ++ link_drives m.links) ++ trees_stay 0 m.processes i) ++ rules_stay 0 m.processes i

  pub tree_faultless : module_faults scope ports m ≡ [] → module_faults scope ports (proc_tree_of m) ≡ []
  tree_faultless e =
      let none = no_faults scope ports m e in
      let vs : List Wire = begun_wires m 0 m.wires in
      no_more scope ports (proc_tree_of m) (record {
        wires = same_wire_faults m.id [] vs m.wires (begun_lines m 0 m.wires) ∙ none.wires;
        stores = none.stores;
        cells = none.cells;
        processes = processes_stay [] m.processes (each_none IsQuiet) none.processes;
        links = none.links;
        bits = (λ i. bits_faults m.id (drives_stay i) 0 vs) ∙ same_bits_faults m.id (drives_of ports m) 0 vs m.wires (begun_lines m 0 m.wires) ∙ none.bits;
      })
