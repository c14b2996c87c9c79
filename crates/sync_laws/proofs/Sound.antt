-- What a line that writes has by its rule and process, in a module without faults.
use Rattle.std.proofs.Common.{◌≡◌, ◌≤◌, ℕ, Bool, true, false, List, [], ◌∷◌, length, inl, inr, refl, sym, ◌∙◌, ap, subst, arith}
use Rattle.std.specs.Prelude.{◌&&◌, ◌||◌, ◌==◌, flat_map, nat_lt, not}
use Rattle.std.specs.List.{list_all, list_any}
use Rattle.std.proofs.lemmas.Bool.{and_parts, or_parts}
use Rattle.rtl_sig.specs.declared.sig.SigBit.{SigBit}
use Rattle.rtl_sig.specs.declared.sig.SigBit.TheVariants.{Fixed, Wire as OnWire}
use Rattle.rtl_ir.specs.Faults.ProcessLimits.{memory_lines, passes_limit, switches_pass}
use Rattle.rtl_ir.specs.Faults.RuleKinds.{AtEdge, AtLevel, AtBothEdges, AtSteps, AtAll, AtStart, RuleKind, edges_agree, has_one_bit, is_one_bit, is_one_edge, kind_of_event, kinds_of, may_stand, rules_stand, writes, writes_stand}
use Rattle.rtl_ir.specs.Flat.Access.{write_trigger}
use Rattle.rtl_ir.specs.Rules.{acting_rules, has_item, has_line, is_init}
use Rattle.rtl_ir.specs.Scope.{with_processes}
use Rattle.rtl_ir.specs.Types.{Ports}
use Rattle.rtl_ir.specs.declared.module.Module.{Module}
use Rattle.rtl_ir.specs.declared.process.Event.{Event}
use Rattle.rtl_ir.specs.declared.process.Event.TheVariants.{Low, High, Posedge, Negedge, Edge, Global, Init, Always}
use Rattle.rtl_ir.specs.declared.process.Process.{Process}
use Rattle.rtl_ir.specs.declared.process.SyncRule.{SyncRule}
use Rattle.rtl_ir.specs.declared.process.WriteLine.{WriteLine}
use Rattle.net_model.proofs.Members.{In-left, In-right}
use Rattle.net_model.proofs.Ranges.{each_flat_map, each_none}
use Rattle.net_model.specs.Lists.{In}
use Rattle.net_model.specs.Within.{BitIn, Each, EventIn, SigIn, WriteIn}
use Rattle.pass_laws.proofs.Faultless.{no_faults}
use Rattle.proc_laws.proofs.RebuildProcesses.{each_good}
use Rattle.proc_laws.specs.Ready.{IsReady}
use Rattle.sync_laws.specs.Lines.{HasBits, WritesHaveBits}
use Rattle.sync_laws.proofs.WriteParts.{module_rules}
use Rattle.pass_laws.proofs.Finding.{in_filtered}

-- what a line has, in a module of so many wires
pub record IsSound (count : ℕ) (event : Event) (line : WriteLine) : Type 0 where
  pub clock : length (write_trigger event).signal ≡ 1
  pub clock_in : SigIn count (write_trigger event).signal
  pub narrow : length line.value ≤ 4096
  pub even : length line.enable ≡ length line.value
  pub bits : HasBits line
  pub within : WriteIn count line

-- a test that is so of an item of a list
any_of : {A : Type 0} (test : A → Bool) (xs : List A) (x : A) → In x xs → test x ≡ true → list_any test xs ≡ true
any_of test [] x i h = absurd i
any_of test (y ∷ xs) x (inl e) h = ap (λ t. t || list_any test xs) (ap test (sym e) ∙ h)
any_of test (y ∷ xs) x (inr i) h = by (test y) (any_of test xs x i h)
  where
    by : (t : Bool) → list_any test xs ≡ true → (t || list_any test xs) ≡ true
    by true e = refl
    by false e = e

none_of : {A : Type 0} (test : A → Bool) (xs : List A) → list_any test xs ≡ false → Each (λ x. test x ≡ false) xs
none_of test [] e x i = absurd i
none_of test (y ∷ xs) e x (inl f) = ap test f ∙ (or_parts (test y) (list_any test xs) e).0
none_of test (y ∷ xs) e x (inr i) = none_of test xs (or_parts (test y) (list_any test xs) e).1 x i

each_of : {A : Type 0} (test : A → Bool) (xs : List A) → list_all test xs ≡ true → Each (λ x. test x ≡ true) xs
each_of test [] e x i = absurd i
each_of test (y ∷ xs) e x (inl f) = ap test f ∙ (and_parts (test y) (list_all test xs) e).0
each_of test (y ∷ xs) e x (inr i) = each_of test xs (and_parts (test y) (list_all test xs) e).1 x i

no_two : (k j : RuleKind) (ks : List RuleKind) → is_one_edge (k ∷ j ∷ ks) ≡ false
no_two AtEdge j ks = refl
no_two AtLevel j ks = refl
no_two AtBothEdges j ks = refl
no_two AtSteps j ks = refl
no_two AtAll j ks = refl
no_two AtStart j ks = refl

-- the one rule that acts, at an edge
one_edge : (rules : List SyncRule) (r : SyncRule) → In r rules → is_one_edge (kinds_of rules) ≡ true → is_one_edge (kind_of_event r.event ∷ []) ≡ true
one_edge [] r i e = absurd i
one_edge (x ∷ []) r (inl f) e = ap (λ (y : SyncRule). is_one_edge (kind_of_event y.event ∷ [])) f ∙ e
one_edge (x ∷ []) r (inr i) e = absurd i
one_edge (x ∷ y ∷ rules) r i e =
    let none = no_two (kind_of_event x.event) (kind_of_event y.event) (kinds_of rules) in absurd (cc)

one_bit : (signal : List SigBit) → is_one_bit signal ≡ true → length signal ≡ 1
one_bit [] e = absurd (cc)
one_bit (OnWire b ∷ []) e = refl
one_bit (Fixed c ∷ []) e = absurd (cc)
one_bit (OnWire b ∷ x ∷ signal) e = absurd (cc)
one_bit (Fixed c ∷ x ∷ signal) e = absurd (cc)

edge_signal : (event : Event) → is_one_edge (kind_of_event event ∷ []) ≡ true → has_one_bit event ≡ true → length (write_trigger event).signal ≡ 1
edge_signal (Posedge s) e f = one_bit s f
edge_signal (Negedge s) e f = one_bit s f
edge_signal (Low s) e f = absurd (cc)
edge_signal (High s) e f = absurd (cc)
edge_signal (Edge s) e f = absurd (cc)
edge_signal Global e f = absurd (cc)
edge_signal Init e f = absurd (cc)
edge_signal Always e f = absurd (cc)

edge_in : (count : ℕ) (event : Event) → EventIn count event → SigIn count (write_trigger event).signal
edge_in count (Posedge s) h = h
edge_in count (Negedge s) h = h
edge_in count (Low s) h = each_none (BitIn count)
edge_in count (High s) h = each_none (BitIn count)
edge_in count (Edge s) h = each_none (BitIn count)
edge_in count Global h = each_none (BitIn count)
edge_in count Init h = each_none (BitIn count)
edge_in count Always h = each_none (BitIn count)

item_of : {A : Type 0} (xs : List A) (x : A) → In x xs → has_item xs ≡ true
item_of [] x i = absurd i
item_of (y ∷ xs) x i = refl

-- a rule that writes is at an edge of one bit
writing_edge : (rules : List SyncRule) (r : SyncRule) → rules_stand rules ≡ true → In r rules → writes r ≡ true → length (write_trigger r.event).signal ≡ 1
writing_edge rules r e i w =
    let acting : List SyncRule = acting_rules rules in
    let three = and_parts ((may_stand (kinds_of acting) && edges_agree acting) && list_all (λ (x : SyncRule). has_one_bit x.event) acting) (writes_stand rules) e in
    let two = and_parts (may_stand (kinds_of acting) && edges_agree acting) (list_all (λ (x : SyncRule). has_one_bit x.event) acting) three.0 in
    let starts : Bool = list_any (λ (x : SyncRule). is_init x.event && writes x) rules in
    let parts = and_parts (not starts) (not (list_any writes acting) || is_one_edge (kinds_of acting)) three.1 in
    let none : list_any (λ (x : SyncRule). is_init x.event && writes x) rules ≡ false = not_true starts parts.0 in
    let later : is_init r.event ≡ false = by_init (is_init r.event) (ap (λ t. is_init r.event && t) (sym w) ∙ none_of (λ (x : SyncRule). is_init x.event && writes x) rules none r i) in
    let line : has_line r ≡ true = or_right (has_item r.updates) (has_item r.writes) w in
    let acts : In r acting = in_filtered (λ (x : SyncRule). has_line x && not (is_init x.event)) rules r i (λ j. line j && not (later j)) in
    let edge : is_one_edge (kinds_of acting) ≡ true = by_any (list_any writes acting) (any_of writes acting r acts w) parts.1 in
    edge_signal r.event (one_edge acting r acts edge) (each_of (λ (x : SyncRule). has_one_bit x.event) acting two.1 r acts)
  where
    not_true : (t : Bool) → not t ≡ true → t ≡ false
    not_true false e = refl
    not_true true e = absurd (cc)

    by_init : (t : Bool) → (t && true) ≡ false → t ≡ false
    by_init false e = refl
    by_init true e = absurd (cc)

    or_right : (a b : Bool) → b ≡ true → (a || b) ≡ true
    or_right true b e = refl
    or_right false b e = e

    by_any : (t : Bool) → t ≡ true → (not t || is_one_edge (kinds_of (acting_rules rules))) ≡ true → is_one_edge (kinds_of (acting_rules rules)) ≡ true
    by_any true e f = f
    by_any false e f = absurd (cc)

in_lines : (rules : List SyncRule) (r : SyncRule) (l : WriteLine) → In r rules → In l r.writes → In l (flat_map (λ (x : SyncRule). x.writes) rules)
in_lines [] r l i j = absurd i
in_lines (x ∷ rules) r l (inl e) j =
    In-left l x.writes (flat_map (λ (y : SyncRule). y.writes) rules) (subst (λ (y : SyncRule). In l y.writes) e j)
in_lines (x ∷ rules) r l (inr i) j =
    In-right l x.writes (flat_map (λ (y : SyncRule). y.writes) rules) (in_lines rules r l i j)

narrow_of : (n : ℕ) → nat_lt 4096 n ≡ false → n ≤ 4096
narrow_of n e = grind (arith, e)

same_of : (t a b : ℕ) → not (a == b) ≡ false → a ≡ b
same_of t a b e = grind (arith, e)

-- each line that writes
pub all_sound : (ports : Ports) (m : Module) → IsReady with_processes ports m → WritesHaveBits m → Each (λ (r : SyncRule). Each (IsSound (length m.wires) r.event) r.writes) (module_rules m)
all_sound ports m ready bits =
    each_flat_map (λ (r : SyncRule). Each (IsSound (length m.wires) r.event) r.writes) (λ (p : Process). p.syncs) m.processes
    (λ p i r j l k.
    let good = (each_good ports m [] m.processes (no_faults with_processes ports m ready.faultless).processes p i).1 in
    let rule = (ready.within.processes p i).syncs r j in
    let there : In l (memory_lines p) = in_lines p.syncs r l j k in
    let thin = none_of (λ (x : WriteLine). passes_limit x.value) (memory_lines p) (or_parts (switches_pass p.root.switches) (list_any (λ (x : WriteLine). passes_limit x.value) (memory_lines p)) good.narrow).1 l there in
    let even = none_of (λ (x : WriteLine). not (length x.enable == length x.value)) (memory_lines p) (or_parts _ (list_any (λ (x : WriteLine). not (length x.enable == length x.value)) (memory_lines p)) good.even).1 l there in
    record {
      clock = writing_edge p.syncs r good.rules j (item_of r.writes l k);
      clock_in = edge_in (length m.wires) r.event rule.event;
      narrow = narrow_of (length l.value) thin;
      even = same_of 0 (length l.enable) (length l.value) even;
      bits = bits p i r j l k;
      within = rule.writes l k;
    })
