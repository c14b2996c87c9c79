-- The parts of a module that may be given, by what its rules are.
use Rattle.std.proofs.Common.{◌≡◌, ℕ, Bool, true, false, List, [], ◌∷◌, ◌++◌, length, if◌then◌else◌, inl, inr, refl, sym, ◌∙◌, ap}
use Rattle.std.specs.Prelude.{◌&&◌, filter, flat_map, map, not}
use Rattle.std.specs.List.{list_all}
use Rattle.std.proofs.lemmas.Bool.{and_parts}
use Rattle.rtl_sig.specs.declared.sig.WireBit.{WireBit}
use Rattle.rtl_ir.specs.Faults.RuleKinds.{edges_agree, has_one_bit, kinds_of, may_stand, rules_stand, writes_stand}
use Rattle.rtl_ir.specs.Flat.Start.{process_starts}
use Rattle.rtl_ir.specs.Rules.{acting_rules, has_item, has_line, init_lines, is_init}
use Rattle.rtl_ir.specs.Scope.{with_processes}
use Rattle.rtl_ir.specs.Types.{Ports}
use Rattle.rtl_ir.specs.declared.module.Module.{Module}
use Rattle.rtl_ir.specs.declared.process.Process.{Process}
use Rattle.rtl_ir.specs.declared.process.SyncRule.{SyncRule}
use Rattle.net_model.specs.Lists.{In}
use Rattle.net_model.specs.Proc.Latch.{is_always}
use Rattle.net_model.specs.Within.{Each, ProcessIn, RuleIn}
use Rattle.pass_laws.proofs.Faultless.{no_faults}
use Rattle.proc_laws.proofs.RebuildProcesses.{each_good}
use Rattle.proc_laws.specs.Ready.{HaveNoStarts, IsReady}
use Rattle.build_laws.specs.Rebuilds.{rules_bits}
use Rattle.build_laws.proofs.Staying.{starts_by}
use Rattle.proc_laws.specs.Kinds.{HaveNoAlways, HaveNoTwoEdges, HaveNoWrites}
use Rattle.sync_laws.proofs.Parts.{all_parts, process_parts}
use Rattle.sync_laws.proofs.RuleParts.{AreWhole, IsGoodRule, rules_whole, whole_both, whole_none}
use Rattle.pass_laws.proofs.Finding.{filtered_in}

-- a process without rules
abbrev pub without_rules : Process → Process
without_rules p = record p { syncs = [] }

each_passes : {A : Type 0} (test : A → Bool) (xs : List A) → list_all test xs ≡ true → Each (λ x. test x ≡ true) xs
each_passes test [] h x i = absurd i
each_passes test (y ∷ xs) h x (inl e) =
    ap test e ∙ (and_parts (test y) (list_all test xs) h).0
each_passes test (y ∷ xs) h x (inr i) =
    each_passes test xs (and_parts (test y) (list_all test xs) h).1 x i

pub acting_in : (rules : List SyncRule) (r : SyncRule) → In r (acting_rules rules) → In r rules
acting_in rules r i = (filtered_in (λ (rule : SyncRule). has_line rule && not (is_init rule.event)) rules r i).0

-- rules that stand together have events of one bit
one_bits : (rules : List SyncRule) → rules_stand rules ≡ true → Each (λ (r : SyncRule). has_one_bit r.event ≡ true) (acting_rules rules)
one_bits rules e =
    let acting : List SyncRule = acting_rules rules in
    let three = and_parts ((may_stand (kinds_of acting) && edges_agree acting) && list_all (λ (r : SyncRule). has_one_bit r.event) acting) (writes_stand rules) e in
    let two = and_parts (may_stand (kinds_of acting) && edges_agree acting) (list_all (λ (r : SyncRule). has_one_bit r.event) acting) three.0 in
    each_passes (λ (r : SyncRule). has_one_bit r.event) acting two.1

good_rules : (count : ℕ) (p : Process) → ProcessIn count p → rules_stand p.syncs ≡ true → Each (λ (r : SyncRule). is_always r.event ≡ false) (acting_rules p.syncs) → Each (IsGoodRule count) (acting_rules p.syncs)
good_rules count p within stand acts r i =
    let here : RuleIn count r = within.syncs r (acting_in p.syncs r i) in
    record {
      one = one_bits p.syncs stand r i;
      event = here.event;
      updates = here.updates;
      acts = acts r i;
    }

no_item : {A : Type 0} (xs : List A) → has_item xs ≡ false → xs ≡ []
no_item [] e = refl
no_item (x ∷ xs) e = absurd (cc)

pub none_write : (m : Module) → HaveNoWrites m → Each (λ (p : Process). Each (λ (r : SyncRule). r.writes ≡ []) p.syncs) m.processes
none_write m h p i r j = no_item r.writes (h p i r j)

-- the bits that the rules of a process drive
abbrev pub rule_bits : Process → List WireBit
rule_bits p = rules_bits (acting_rules p.syncs)

each_whole : (count : ℕ) (ps : List Process) → ((p : Process) → In p ps → AreWhole count (process_parts p) (rule_bits p)) → AreWhole count (flat_map process_parts ps) (flat_map rule_bits ps)
each_whole count [] h = whole_none count
each_whole count (p ∷ ps) h =
    whole_both count (process_parts p) (flat_map process_parts ps) (rule_bits p) (flat_map rule_bits ps) (h p (inl refl)) (each_whole count ps (λ q i. h q (inr i)))

-- the parts are whole cells that drive what the rules drive
pub all_whole : (ports : Ports) (m : Module) → IsReady with_processes ports m → HaveNoAlways m → HaveNoTwoEdges m → AreWhole (length m.wires) (all_parts m) (flat_map rule_bits m.processes)
all_whole ports m ready acts edges =
    each_whole (length m.wires) m.processes
    (λ p i.
    let good = each_good ports m [] m.processes (no_faults with_processes ports m ready.faultless).processes p i in
    rules_whole (length m.wires) m p.root (acting_rules p.syncs) (good_rules (length m.wires) p (ready.within.processes p i) good.1.rules (acts p i)) (edges p i))

-- without start values, and without rules, none are given
no_lines : (rules : List SyncRule) → Each (λ (r : SyncRule). is_init r.event ≡ false) rules → init_lines rules ≡ []
no_lines [] h = refl
no_lines (r ∷ rules) h =
    ap (λ t. flat_map (λ (x : SyncRule). x.updates) (if t then r ∷ filter (λ (x : SyncRule). is_init x.event) rules else filter (λ (x : SyncRule). is_init x.event) rules)) (h r (inl refl))
    ∙ no_lines rules (λ x i. h x (inr i))

none_begun : (ps : List Process) → Each (λ (p : Process). Each (λ (r : SyncRule). is_init r.event ≡ false) p.syncs) ps → flat_map process_starts ps ≡ []
none_begun [] h = refl
none_begun (p ∷ ps) h =
    let none : process_starts p ≡ process_starts (without_rules p) = λ i. starts_by p (no_lines p.syncs (h p (inl refl)) i) in
    (λ i. none i ++ none_begun ps (λ x j. h x (inr j)) i)

cleared_begun : (ps : List Process) → flat_map process_starts (map without_rules ps) ≡ []
cleared_begun [] = refl
cleared_begun (p ∷ ps) = cleared_begun ps

pub same_starts : (m : Module) → HaveNoStarts m → flat_map process_starts m.processes ≡ flat_map process_starts (map without_rules m.processes)
same_starts m h = none_begun m.processes h ∙ sym (cleared_begun m.processes)
