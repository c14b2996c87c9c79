-- The faults of a module, and those of its processes, one by one.
use Rattle.std.proofs.Common.{◌≡◌, Bool, true, false, ◌&&◌, ◌||◌, List, [], ◌∷◌, ◌++◌, inl, inr, refl, sym, ◌∙◌, ap, subst}
use Rattle.std.specs.Prelude.{flat_map, not}
use Rattle.std.specs.List.{list_any}
use Rattle.std.proofs.lemmas.Bool.{or_parts}
use Rattle.rtl_ir.specs.declared.module.Module.{Module}
use Rattle.rtl_ir.specs.declared.process.Process.{Process}
use Rattle.rtl_ir.specs.declared.process.SyncRule.{SyncRule}
use Rattle.rtl_ir.specs.declared.process.WriteLine.{WriteLine}
use Rattle.rtl_ir.specs.Fault.{Fault, BadMemory, BadPort, BadProcess, TooWide, UnsupportedCell, Width, fault_if, spot}
use Rattle.rtl_ir.specs.Faults.{module_faults}
use Rattle.rtl_ir.specs.Faults.ProcessLimits.{gives_to_constant, has_uneven, is_too_wide}
use Rattle.rtl_ir.specs.Faults.Processes.{faults_of_process, has_bad_line, is_bad_process, process_faults, starts_stand}
use Rattle.rtl_ir.specs.Faults.RuleKinds.{rules_stand, writes, writes_stand}
use Rattle.rtl_ir.specs.Faults.SelfReading.{reads_itself}
use Rattle.rtl_ir.specs.Faults.TwoEdges.{two_edges_stand}
use Rattle.rtl_ir.specs.Assigns.{tree_bits}
use Rattle.rtl_ir.specs.Rules.{acting_rules, has_item, is_init}
use Rattle.rtl_ir.specs.Scope.{Scope}
use Rattle.rtl_ir.specs.SwitchRules.{root_by_rules}
use Rattle.rtl_ir.specs.Types.{Ports}
use Rattle.rtl_ir.specs.WritePorts.{write_lines}
use Rattle.net_model.specs.Lists.{In}
use Rattle.net_model.specs.Within.{Each}
use Rattle.net_model.proofs.Ranges.{each_flat_map}
use Rattle.proc_tree.proofs.Ruled.{WritesNoStart, syncs_of}
use Rattle.pass_laws.proofs.Faultless.{HasNoFaults, none_left, none_right}

no_fault : (t : Bool) (f : Fault) → fault_if t f ≡ [] → t ≡ false
no_fault false f e = refl
no_fault true f e = absurd (cc)

pub no_more : (scope : Scope) (ports : Ports) (m : Module) → HasNoFaults scope ports m → module_faults scope ports m ≡ []
no_more scope ports m h = λ i. ((((h.wires i ++ h.stores i) ++ h.cells i) ++ h.processes i) ++ h.links i) ++ h.bits i

-- a process without faults, behind these processes
pub record IsFine (scope : Scope) (ports : Ports) (m : Module) (earlier : List Process) (p : Process) : Type 0 where
  pub taken : scope.processes p ≡ true
  pub narrow : is_too_wide p ≡ false
  pub even : has_uneven p ≡ false
  pub given : gives_to_constant p ≡ false
  pub rules : rules_stand p.syncs ≡ true
  pub reading : reads_itself (root_by_rules p.root) (tree_bits p.root) ≡ false
  pub starts : starts_stand (root_by_rules p.root) (tree_bits p.root) p ≡ true
  pub edges : two_edges_stand ports m (root_by_rules p.root) (tree_bits p.root) (acting_rules p.syncs) ≡ true
  pub lines : has_bad_line scope.clocks m (flat_map write_lines earlier) (write_lines p) ≡ false

is_so : (t : Bool) → not t ≡ false → t ≡ true
is_so true e = refl
is_so false e = absurd (cc)

pub is_fine : (scope : Scope) (ports : Ports) (m : Module) (earlier : List Process) (p : Process) → faults_of_process scope ports m earlier p ≡ [] → IsFine scope ports m earlier p
is_fine scope ports m earlier p e =
    let here = spot m.id p.name in
    let u : List Fault = fault_if (not (scope.processes p)) (UnsupportedCell here) in
    let w : List Fault = fault_if (is_too_wide p) (TooWide here) in
    let v : List Fault = fault_if (has_uneven p) (Width here) in
    let g : List Fault = fault_if (gives_to_constant p) (BadPort here) in
    let b : List Fault = fault_if (is_bad_process ports m p) (BadProcess here) in
    let l : List Fault = fault_if (has_bad_line scope.clocks m (flat_map write_lines earlier) (write_lines p)) (BadMemory here) in
    let eb : (((u ++ w) ++ v) ++ g) ++ b ≡ [] = none_left ((((u ++ w) ++ v) ++ g) ++ b) l e in
    let eg : ((u ++ w) ++ v) ++ g ≡ [] = none_left (((u ++ w) ++ v) ++ g) b eb in
    let ev : (u ++ w) ++ v ≡ [] = none_left ((u ++ w) ++ v) g eg in
    let ew : u ++ w ≡ [] = none_left (u ++ w) v ev in
    let r : Bool = not (rules_stand p.syncs) in
    let s : Bool = reads_itself (root_by_rules p.root) (tree_bits p.root) in
    let t : Bool = not (starts_stand (root_by_rules p.root) (tree_bits p.root) p) in
    let x : Bool = not (two_edges_stand ports m (root_by_rules p.root) (tree_bits p.root) (acting_rules p.syncs)) in
    let bad : (((r || s) || t) || x) ≡ false = no_fault _ (BadProcess here) (none_right (((u ++ w) ++ v) ++ g) b eb) in
    let three = or_parts ((r || s) || t) x bad in
    let two = or_parts (r || s) t three.0 in
    let one = or_parts r s two.0 in
    record {
      taken = is_so (scope.processes p) (no_fault _ (UnsupportedCell here) (none_left u w ew));
      narrow = no_fault _ (TooWide here) (none_right u w ew);
      even = no_fault _ (Width here) (none_right (u ++ w) v ev);
      given = no_fault _ (BadPort here) (none_right ((u ++ w) ++ v) g eg);
      rules = is_so (rules_stand p.syncs) one.0;
      reading = one.1;
      starts = is_so (starts_stand (root_by_rules p.root) (tree_bits p.root) p) two.1;
      edges = is_so (two_edges_stand ports m (root_by_rules p.root) (tree_bits p.root) (acting_rules p.syncs)) three.1;
      lines = no_fault _ (BadMemory here) (none_right ((((u ++ w) ++ v) ++ g) ++ b) l e);
    }

pub fine_again : (scope : Scope) (ports : Ports) (m : Module) (earlier : List Process) (p : Process) → IsFine scope ports m earlier p → faults_of_process scope ports m earlier p ≡ []
fine_again scope ports m earlier p h =
    let here = spot m.id p.name in
    λ i.
    ((((fault_if (not (h.taken i)) (UnsupportedCell here) ++ fault_if (h.narrow i) (TooWide here)) ++ fault_if (h.even i) (Width here)) ++ fault_if (h.given i) (BadPort here))
    ++ fault_if (((not (h.rules i) || h.reading i) || not (h.starts i)) || not (h.edges i)) (BadProcess here))
    ++ fault_if (h.lines i) (BadMemory here)

-- each process is without faults behind some processes
pub fine_process : (scope : Scope) (ports : Ports) (m : Module) (earlier ps : List Process) → process_faults scope ports m earlier ps ≡ [] → (p : Process) → In p ps → (before : List Process) × IsFine scope ports m before p
fine_process scope ports m earlier [] e p i = absurd i
fine_process scope ports m earlier (q ∷ qs) e p (inl here) =
    (earlier, subst (IsFine scope ports m earlier) (sym here) (is_fine scope ports m earlier q (none_left (faults_of_process scope ports m earlier q) (process_faults scope ports m (earlier ++ q ∷ []) qs) e)))
fine_process scope ports m earlier (q ∷ qs) e p (inr later) =
    fine_process scope ports m (earlier ++ q ∷ []) qs (none_right (faults_of_process scope ports m earlier q) (process_faults scope ports m (earlier ++ q ∷ []) qs) e) p later

-- rules that stand together write nothing at the start
both_left : (a b : Bool) → (a && b) ≡ true → a ≡ true
both_left true b e = refl
both_left false b e = absurd (cc)

both_right : (a b : Bool) → (a && b) ≡ true → b ≡ true
both_right true b e = e
both_right false b e = absurd (cc)

no_writes : (r : SyncRule) → (is_init r.event && writes r) ≡ false → WritesNoStart r
no_writes r e = by r.writes e
  where
    by : (ws : List WriteLine) → (is_init r.event && has_item ws) ≡ false → is_init r.event ≡ true → ws ≡ []
    by [] e f = refl
    by (w ∷ ws) e f = absurd (cc (sym (ap (λ t. t && true) f) ∙ e))

none_writes : (rules : List SyncRule) → list_any (λ (r : SyncRule). is_init r.event && writes r) rules ≡ false → Each WritesNoStart rules
none_writes [] e x i = absurd i
none_writes (r ∷ rules) e x (inl here) =
    subst WritesNoStart (sym here) (no_writes r (or_parts (is_init r.event && writes r) (list_any (λ (r : SyncRule). is_init r.event && writes r) rules) e).0)
none_writes (r ∷ rules) e x (inr later) =
    none_writes rules (or_parts (is_init r.event && writes r) (list_any (λ (r : SyncRule). is_init r.event && writes r) rules) e).1 x later

pub stand_write : (rules : List SyncRule) → rules_stand rules ≡ true → Each WritesNoStart rules
stand_write rules e =
    none_writes rules (is_not (list_any (λ (r : SyncRule). is_init r.event && writes r) rules) (both_left _ _ (both_right _ (writes_stand rules) e)))
  where
    is_not : (t : Bool) → not t ≡ true → t ≡ false
    is_not false e = refl
    is_not true e = absurd (cc)

pub all_write : (scope : Scope) (ports : Ports) (m : Module) → process_faults scope ports m [] m.processes ≡ [] → Each WritesNoStart (syncs_of m.processes)
all_write scope ports m e =
    each_flat_map WritesNoStart (λ (p : Process). p.syncs) m.processes (λ p i. stand_write p.syncs (fine_process scope ports m [] m.processes e p i).1.rules)
