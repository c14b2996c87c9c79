-- Start values and memories stay: a rule that always acts gives no start value and writes nothing.
use Rattle.std.proofs.Common.{◌≡◌, ℕ, ◌+◌, Bool, true, false, ◌&&◌, ◌||◌, not, if◌then◌else◌, List, [], ◌∷◌, ◌++◌, length, inl, inr, refl, sym, ◌∙◌, ap, arith}
use Rattle.std.specs.Prelude.{filter, flat_map, map}
use Rattle.std.specs.List.{list_any, list_all}
use Rattle.std.proofs.lemmas.Bool.{and_from, and_parts}
use Rattle.std.proofs.lemmas.List.Elements.{filter-append}
use Rattle.rtl_ir.specs.Faults.RuleKinds.{AtAll, AtBothEdges, AtEdge, AtLevel, AtStart, AtSteps, RuleKind, edges_agree, has_one_bit, is_one_edge, kind_of_event, kinds_of, may_stand, rules_stand, writes, writes_stand}
use Rattle.rtl_ir.specs.Flat.Access.{Access, line_accesses, rule_accesses}
use Rattle.rtl_ir.specs.Flat.Start.{process_starts}
use Rattle.rtl_ir.specs.Rules.{acting_rules, has_item, has_line, init_lines, is_init}
use Rattle.rtl_ir.specs.declared.process.Process.{Process}
use Rattle.rtl_ir.specs.declared.process.SyncRule.{SyncRule}
use Rattle.net_model.proofs.Ranges.{each_flat_map}
use Rattle.net_model.specs.Lists.{In}
use Rattle.net_model.specs.Proc.Latch.{is_always, without_always}
use Rattle.net_model.specs.Within.{Each}
use Rattle.build_laws.proofs.Staying.{SameAccesses, starts_by}
use Rattle.latch_laws.proofs.Finding.{any_in, filter_in, right_or}
use Rattle.latch_laws.proofs.RowsStay.{always_is, stays}

-- start values
init_stay : (rules : List SyncRule) → init_lines (filter stays rules) ≡ init_lines rules
init_stay [] = refl
init_stay (r ∷ rules) = by (is_always r.event) refl (init_stay rules)
  where
    by : (t : Bool) → is_always r.event ≡ t → init_lines (filter stays rules) ≡ init_lines rules → init_lines (if (if t then false else true) then r ∷ filter stays rules else filter stays rules) ≡ init_lines (r ∷ rules)
    by true e later =
        let none : is_init r.event ≡ false = ap is_init (always_is r.event e) in
        later ∙ sym (λ i. flat_map (λ (rule : SyncRule). rule.updates) (if none i then r ∷ filter (λ (rule : SyncRule). is_init rule.event) rules else filter (λ (rule : SyncRule). is_init rule.event) rules))
    by false e later = more (is_init r.event)
      where
        more : (u : Bool) → flat_map (λ (rule : SyncRule). rule.updates) (if u then r ∷ filter (λ (rule : SyncRule). is_init rule.event) (filter stays rules) else filter (λ (rule : SyncRule). is_init rule.event) (filter stays rules)) ≡ flat_map (λ (rule : SyncRule). rule.updates) (if u then r ∷ filter (λ (rule : SyncRule). is_init rule.event) rules else filter (λ (rule : SyncRule). is_init rule.event) rules)
        more true = ap (λ z. r.updates ++ z) later
        more false = later

pub starts_stay : (ps : List Process) → flat_map process_starts ps ≡ flat_map process_starts (map without_always ps)
starts_stay [] = refl
starts_stay (p ∷ ps) = λ i. starts_by p (sym (init_stay p.syncs) i) ++ starts_stay ps i

-- rules that write
no_item : {A : Type 0} (xs : List A) → has_item xs ≡ false → xs ≡ []
no_item [] e = refl
no_item (x ∷ xs) e = absurd (cc)

two_kinds : (k l : RuleKind) (ks : List RuleKind) → is_one_edge (k ∷ l ∷ ks) ≡ false
two_kinds AtLevel l ks = refl
two_kinds AtEdge l ks = refl
two_kinds AtBothEdges l ks = refl
two_kinds AtSteps l ks = refl
two_kinds AtAll l ks = refl
two_kinds AtStart l ks = refl

-- no rule that always acts stands where one rule is at an edge
no_always : (rules : List SyncRule) (r : SyncRule) → is_one_edge (kinds_of rules) ≡ true → In r rules → is_always r.event ≡ true → ⊥
no_always [] r e i a = i
no_always (s ∷ []) r e (inl same) a =
    let kind : kind_of_event s.event ≡ AtAll = ap (λ (z : SyncRule). kind_of_event z.event) (sym same) ∙ ap kind_of_event (always_is r.event a) in
    absurd (let f : is_one_edge (kinds_of (s ∷ [])) ≡ false = ap (λ k. is_one_edge (k ∷ [])) kind in cc)
no_always (s ∷ []) r e (inr i) a = i
no_always (s ∷ u ∷ rules) r e i a =
    absurd (let f : is_one_edge (kinds_of (s ∷ u ∷ rules)) ≡ false = two_kinds (kind_of_event s.event) (kind_of_event u.event) (kinds_of rules) in cc)

-- what is so where rules may stand together
abbrev may_write : List SyncRule → Bool
may_write rules = not (list_any writes (acting_rules rules)) || is_one_edge (kinds_of (acting_rules rules))

stand_write : (rules : List SyncRule) → rules_stand rules ≡ true → may_write rules ≡ true
stand_write rules e =
    let all = and_parts ((may_stand (kinds_of (acting_rules rules)) && edges_agree (acting_rules rules)) && list_all (λ (r : SyncRule). has_one_bit r.event) (acting_rules rules)) (writes_stand rules) e in
    (and_parts (not (list_any (λ (r : SyncRule). is_init r.event && writes r) rules)) (may_write rules) all.1).1

-- so a rule that always acts has no line that writes
silent : (rules : List SyncRule) → rules_stand rules ≡ true → (r : SyncRule) → In r rules → is_always r.event ≡ true → r.writes ≡ []
silent rules stand r i a = by (has_item r.writes) refl
  where
    by : (t : Bool) → has_item r.writes ≡ t → r.writes ≡ []
    by false e = no_item r.writes e
    by true e =
        let calm : not (is_init r.event) ≡ true = ap (λ z. not (is_init z)) (always_is r.event a) in
        let acts : In r (acting_rules rules) = filter_in (λ (rule : SyncRule). has_line rule && not (is_init rule.event)) r rules i (and_from (has_line r) (not (is_init r.event)) (right_or (has_item r.updates) (has_item r.writes) e) calm) in
        let one : list_any writes (acting_rules rules) ≡ true = any_in writes r (acting_rules rules) acts e in
        absurd (no_always (acting_rules rules) r (ap (λ z. not z || is_one_edge (kinds_of (acting_rules rules))) (sym one) ∙ stand_write rules stand) acts a)

-- rules that write nothing write no memory
calm_access : (name : List ℕ) (number : ℕ) (rules : List SyncRule) → Each (λ (r : SyncRule). is_always r.event ≡ true → r.writes ≡ []) rules → rule_accesses name number rules ≡ rule_accesses name number (filter stays rules)
calm_access name number [] h = refl
calm_access name number (r ∷ rules) h = by (is_always r.event) refl (λ k. calm_access name k rules (λ x j. h x (inr j)))
  where
    by : (t : Bool) → is_always r.event ≡ t → ((k : ℕ) → rule_accesses name k rules ≡ rule_accesses name k (filter stays rules)) → rule_accesses name number (r ∷ rules) ≡ rule_accesses name number (if (if t then false else true) then r ∷ filter stays rules else filter stays rules)
    by false e later =
        let here : List Access = line_accesses name r.event number [] r.writes in
        ap (λ z. here ++ z) (later (number + length here))
    by true e later =
        let none : line_accesses name r.event number [] r.writes ≡ [] = ap (line_accesses name r.event number []) (h r (inl refl) e) in
        let same : number + 0 ≡ number = omega arith in
        ap (λ (z : List Access). z ++ rule_accesses name (number + length z) rules) none
        ∙ ap (λ k. rule_accesses name k rules) same
        ∙ later number

rules_less : (ps : List Process) → filter stays (flat_map (λ (p : Process). p.syncs) ps) ≡ flat_map (λ (p : Process). p.syncs) (map without_always ps)
rules_less [] = refl
rules_less (p ∷ ps) =
    filter-append stays p.syncs (flat_map (λ (q : Process). q.syncs) ps) ∙ ap (λ z. filter stays p.syncs ++ z) (rules_less ps)

all_silent : (ps : List Process) → Each (λ (p : Process). rules_stand p.syncs ≡ true) ps → Each (λ (r : SyncRule). is_always r.event ≡ true → r.writes ≡ []) (flat_map (λ (p : Process). p.syncs) ps)
all_silent ps h =
    each_flat_map (λ (r : SyncRule). is_always r.event ≡ true → r.writes ≡ []) (λ (p : Process). p.syncs) ps (λ p i r j a. silent p.syncs (h p i) r j a)

pub accesses_stay : (ps : List Process) → Each (λ (p : Process). rules_stand p.syncs ≡ true) ps → SameAccesses ps (map without_always ps)
accesses_stay ps h name number =
    calm_access name number (flat_map (λ (p : Process). p.syncs) ps) (all_silent ps h) ∙ ap (rule_accesses name number) (rules_less ps)
