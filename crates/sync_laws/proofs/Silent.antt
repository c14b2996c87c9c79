-- Rules that only write: the flat netlist has no row of them, and they give no start values.
use Rattle.std.proofs.Common.{◌≡◌, ℕ, ◌+◌, Bool, true, false, if◌then◌else◌, List, [], ◌∷◌, ◌++◌, Option, Some, None, inl, inr, refl, sym, ◌∙◌, ap, length}
use Rattle.std.specs.Prelude.{◌&&◌, filter, flat_map, map, not}
use Rattle.rtl_bits.specs.declared.bit.Bit.{Bit}
use Rattle.rtl_sig.specs.declared.sig.SigBit.{SigBit}
use Rattle.rtl_sig.specs.declared.sig.WireBit.{WireBit}
use Rattle.rtl_ir.specs.Assigns.{tree_bits}
use Rattle.rtl_ir.specs.Faults.TwoEdges.{EdgeBit, edge_bit, is_tested}
use Rattle.rtl_ir.specs.Flat.Access.{line_accesses, rule_accesses}
use Rattle.rtl_ir.specs.Flat.Driver.{Driven}
use Rattle.rtl_ir.specs.Flat.Place.{Path}
use Rattle.rtl_ir.specs.Flat.Process.{Trigger, edge_trigger, level_trigger, no_modules, one_rule_rows, processes_rows, raced_rows, rules_rows, tree_bit_rows, two_rules_rows, pair_by}
use Rattle.rtl_ir.specs.Flat.Start.{process_starts}
use Rattle.rtl_ir.specs.Follow.{all_joins}
use Rattle.rtl_ir.specs.Rules.{acting_rules, has_line, init_lines, is_init}
use Rattle.rtl_ir.specs.SwitchRules.{root_by_rules}
use Rattle.rtl_ir.specs.Tree.{CaseView}
use Rattle.rtl_ir.specs.declared.module.Link.{Link}
use Rattle.rtl_ir.specs.declared.module.Module.{Module}
use Rattle.rtl_ir.specs.declared.process.Event.{Event}
use Rattle.rtl_ir.specs.declared.process.Event.TheVariants.{Low, High, Posedge, Negedge, Edge, Global, Init, Always}
use Rattle.rtl_ir.specs.declared.process.Process.{Process}
use Rattle.rtl_ir.specs.declared.process.SyncRule.{SyncRule}
use Rattle.rtl_ir.specs.declared.wire.Wire.{Wire}
use Rattle.net_model.proofs.Members.{map-append}
use Rattle.net_model.proofs.Ranges.{each_filter}
use Rattle.net_model.specs.Within.{Each}
use Rattle.build_laws.proofs.Staying.{SameAccesses, starts_by}
use Rattle.proc_laws.specs.Ready.{HaveNoStarts}
use Rattle.sync_laws.proofs.GoodRules.{same_starts, without_rules}

-- a rule without its updates
abbrev pub writing_rule : SyncRule → SyncRule
writing_rule r = record r { updates = [] }

-- a process whose rules only write
abbrev pub writing : Process → Process
writing p = record p { syncs = map writing_rule p.syncs }

-- rules without updates
abbrev AreStill : List SyncRule → Type 0
AreStill rules = Each (λ (r : SyncRule). r.updates ≡ []) rules

still_rules : (rules : List SyncRule) → AreStill (map writing_rule rules)
still_rules [] r i = absurd i
still_rules (x ∷ rules) r (inl e) = ap (λ (y : SyncRule). y.updates) e
still_rules (x ∷ rules) r (inr i) = still_rules rules r i

module _ (start : SigBit → Bit) (p : Path) (wires : List Wire) (m : Module) (root : CaseView) (bits : List WireBit) where
  one_none : (event : Event) → one_rule_rows start p wires root bits [] event ≡ []
  one_none Always = refl
  one_none Global = refl
  one_none (Posedge s) = refl
  one_none (Negedge s) = refl
  one_none (High s) = refl
  one_none (Low s) = refl
  one_none (Edge s) = refl
  one_none Init = refl

  either : (t : Bool) (rows : List Driven) → (if t then rows else rows) ≡ rows
  either true rows = refl
  either false rows = refl

  raced_none : (a b : Option EdgeBit) → raced_rows start p wires m root bits [] a b ≡ []
  raced_none (Some a) (Some b) = either (is_tested no_modules m root a) []
  raced_none (Some a) None = refl
  raced_none None b = refl

  two_none : (a b : SyncRule) → a.updates ≡ [] → b.updates ≡ [] → (ea eb la lb : Option Trigger) → two_rules_rows start p wires m root bits (pair_by a b ea eb la lb) ≡ []
  two_none a b e f (Some x) eb la (Some l) = λ i. both x (e i) l (f i)
    where
      both : Trigger → List Link → Trigger → List Link → List Driven
      both x ea l eb = two_rules_rows start p wires m root bits (pair_by (record a { updates = ea }) (record b { updates = eb }) (Some x) None None (Some l))
  two_none a b e f None (Some x) (Some l) lb = λ i. both x (f i) l (e i)
    where
      both : Trigger → List Link → Trigger → List Link → List Driven
      both x eb l ea = two_rules_rows start p wires m root bits (pair_by (record a { updates = ea }) (record b { updates = eb }) None (Some x) (Some l) None)
  two_none a b e f (Some x) (Some y) (Some l) None = λ i. both y (f i) l (e i)
    where
      both : Trigger → List Link → Trigger → List Link → List Driven
      both y eb l ea = two_rules_rows start p wires m root bits (pair_by (record a { updates = ea }) (record b { updates = eb }) None (Some y) (Some l) None)
  two_none a b e f (Some x) (Some y) None None = ap (λ us. raced_rows start p wires m root bits (all_joins us) (edge_bit a.event) (edge_bit b.event)) e ∙ raced_none (edge_bit a.event) (edge_bit b.event)
  two_none a b e f (Some x) None la None = ap (λ us. raced_rows start p wires m root bits (all_joins us) (edge_bit a.event) (edge_bit b.event)) e ∙ raced_none (edge_bit a.event) (edge_bit b.event)
  two_none a b e f None (Some y) None lb = ap (λ us. raced_rows start p wires m root bits (all_joins us) (edge_bit a.event) (edge_bit b.event)) e ∙ raced_none (edge_bit a.event) (edge_bit b.event)
  two_none a b e f None None la lb = ap (λ us. raced_rows start p wires m root bits (all_joins us) (edge_bit a.event) (edge_bit b.event)) e ∙ raced_none (edge_bit a.event) (edge_bit b.event)

  rules_none : (rules : List SyncRule) → AreStill rules → rules_rows start p wires m root bits rules ≡ []
  rules_none [] h = refl
  rules_none (a ∷ []) h = ap (λ us. one_rule_rows start p wires root bits (all_joins us) a.event) (h a (inl refl)) ∙ one_none a.event
  rules_none (a ∷ b ∷ []) h =
      two_none a b (h a (inl refl)) (h b (inr (inl refl))) (edge_trigger a.event) (edge_trigger b.event) (level_trigger a.event) (level_trigger b.event)
  rules_none (a ∷ b ∷ c ∷ rules) h = refl

-- the rows of processes whose rules only write are those of their trees
pub writing_rows : (start start' : SigBit → Bit) (p : Path) (wires : List Wire) (m n : Module) (ps : List Process) → processes_rows start p wires m (map writing ps) ≡ processes_rows start' p wires n (map without_rules ps)
writing_rows start start' p wires m n [] = refl
writing_rows start start' p wires m n (q ∷ ps) =
    let root : CaseView = root_by_rules q.root in
    let bits : List WireBit = tree_bits q.root in
    let none = rules_none start p wires m root bits (acting_rules (map writing_rule q.syncs)) (each_filter (λ (r : SyncRule). r.updates ≡ []) (λ (rule : SyncRule). has_line rule && not (is_init rule.event)) (map writing_rule q.syncs) (still_rules q.syncs)) in
    λ i. (tree_bit_rows start p wires root bits ++ none i) ++ writing_rows start start' p wires m n ps i

-- they give no start values
no_inits : (rules : List SyncRule) → AreStill rules → init_lines rules ≡ []
no_inits [] h = refl
no_inits (r ∷ rules) h = by (is_init r.event) (no_inits rules (λ x i. h x (inr i)))
  where
    by : (t : Bool) → init_lines rules ≡ [] → flat_map (λ (x : SyncRule). x.updates) (if t then r ∷ filter (λ (x : SyncRule). is_init x.event) rules else filter (λ (x : SyncRule). is_init x.event) rules) ≡ []
    by true e = λ i. h r (inl refl) i ++ e i
    by false e = e

pub writing_starts : (ps : List Process) → flat_map process_starts (map writing ps) ≡ flat_map process_starts (map without_rules ps)
writing_starts [] = refl
writing_starts (p ∷ ps) =
    let none : process_starts (writing p) ≡ process_starts (without_rules p) = λ i. starts_by p (no_inits (map writing_rule p.syncs) (still_rules p.syncs) i) in
    λ i. none i ++ writing_starts ps i

pub same_begun : (m : Module) → HaveNoStarts m → flat_map process_starts m.processes ≡ flat_map process_starts (map writing m.processes)
same_begun m h = same_starts m h ∙ sym (writing_starts m.processes)

-- they write each memory alike
all_rules : (ps : List Process) → flat_map (λ (p : Process). p.syncs) (map writing ps) ≡ map writing_rule (flat_map (λ (p : Process). p.syncs) ps)
all_rules [] = refl
all_rules (p ∷ ps) =
    ap (λ z. map writing_rule p.syncs ++ z) (all_rules ps) ∙ sym (map-append writing_rule p.syncs (flat_map (λ (q : Process). q.syncs) ps))

same_written : (name : List ℕ) (number : ℕ) (rules : List SyncRule) → rule_accesses name number rules ≡ rule_accesses name number (map writing_rule rules)
same_written name number [] = refl
same_written name number (r ∷ rules) =
    let here = line_accesses name r.event number [] r.writes in
    ap (λ z. here ++ z) (same_written name (number + length here) rules)

pub writing_accesses : (ps : List Process) → SameAccesses ps (map writing ps)
writing_accesses ps name number =
    same_written name number (flat_map (λ (p : Process). p.syncs) ps) ∙ sym (ap (rule_accesses name number) (all_rules ps))
