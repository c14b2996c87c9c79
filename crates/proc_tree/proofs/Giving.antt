-- Start values that come behind others.
use Rattle.std.proofs.Common.{◌≡◌, ℕ, ◌+◌, ◌<◌, ◌≤◌, Bool, true, false, ◌||◌, List, [], ◌∷◌, ◌++◌, length, get_or, take, Some, None, append-nil, append_assoc, refl, sym, ◌∙◌, ap, subst}
use Rattle.std.specs.Prelude.{◌==◌, flat_map, if◌then◌else◌, map, slice_index_or}
use Rattle.std.specs.Option.{option_or}
use Rattle.std.proofs.lemmas.List.{take_all, take_more}
use Rattle.std.proofs.lemmas.List.Folds.{list_any-append}
use Rattle.rtl_bits.specs.declared.bit.Bit.{Bit}
use Rattle.rtl_sig.specs.declared.sig.WireBit.{WireBit}
use Rattle.rtl_ir.specs.declared.module.Module.{Module}
use Rattle.rtl_ir.specs.declared.process.Process.{Process}
use Rattle.rtl_ir.specs.declared.process.SyncRule.{SyncRule}
use Rattle.rtl_ir.specs.declared.wire.Wire.{Wire}
use Rattle.rtl_ir.specs.Flat.Start.{Begun, last_start, process_starts}
use Rattle.rtl_ir.specs.Follow.{all_joins}
use Rattle.rtl_ir.specs.Rules.{init_lines}
use Rattle.rtl_ir.specs.Signals.{same_bit}
use Rattle.rtl_ir.specs.SwitchRules.{root_by_rules}
use Rattle.rtl_ir.specs.Tree.{CaseView}
use Rattle.net_index.specs.IndexTable.{at_bit}
use Rattle.net_model.proofs.Members.{map-append}
use Rattle.rtl_ir.specs.declared.follow.Join.{Join}
use Rattle.proc_tree.specs.declared.starts.Starts.{Starts}
use Rattle.proc_tree.specs.Leaves.{first_start}
use Rattle.proc_tree.specs.Starts.{Adds, AreStarts, AreStartsOf, starts_by, wire_is_begun}

-- one more start value
last_more : (all : List Begun) (s : Begun) (b : WireBit) → last_start (all ++ s ∷ []) b ≡ (if same_bit s.bit b then Some s.value else last_start all b)
last_more [] s b = refl
last_more (t ∷ all) s b =
    ap (λ o. option_or o (if same_bit t.bit b then Some t.value else None)) (last_more all s b) ∙ by (same_bit s.bit b)
  where
    by : (u : Bool) → option_or (if u then Some s.value else last_start all b) (if same_bit t.bit b then Some t.value else None)
        ≡ (if u then Some s.value else option_or (last_start all b) (if same_bit t.bit b then Some t.value else None))
    by true = refl
    by false = refl

begun_more : (all : List Begun) (s : Begun) (k : ℕ) → wire_is_begun (all ++ s ∷ []) k ≡ (wire_is_begun all k || (s.bit.wire == k))
begun_more all s k =
    list_any-append (λ (t : Begun). t.bit.wire == k) all (s ∷ []) ∙ ap (λ t. wire_is_begun all k || t) (alone (s.bit.wire == k))
  where
    alone : (t : Bool) → (t || false) ≡ t
    alone true = refl
    alone false = refl

pub adds_one : (old new : Starts) (s : Begun)
    → ((b : WireBit) → at_bit new.values b ≡ (if same_bit s.bit b then Some s.value else at_bit old.values b))
    → ((k : ℕ) → k < length old.begun.items → slice_index_or new.begun.items k false ≡ (slice_index_or old.begun.items k false || (s.bit.wire == k)))
    → length new.begun.items ≡ length old.begun.items → Adds old new (s ∷ [])
adds_one old new s put marked size = record {
  adds = λ count all h. record {
    size = size ∙ h.size;
    values = λ b. put b ∙ (λ i. if same_bit s.bit b then Some s.value else h.values b i) ∙ sym (last_more all s b);
    begun = λ k lt. marked k (subst (λ n. k < n) (sym h.size) lt) ∙ ap (λ t. t || (s.bit.wire == k)) (h.begun k lt) ∙ sym (begun_more all s k);
  };
}

pub adds_none : (s : Starts) → Adds s s []
adds_none s = record { adds = λ count all h. subst (AreStarts s count) (sym (append-nil all)) h }

pub adds_both : (a b c : Starts) (xs ys : List Begun) → Adds a b xs → Adds b c ys → Adds a c (xs ++ ys)
adds_both a b c xs ys h k = record { adds = λ count all before. subst (AreStarts c count) (append_assoc all xs ys) (k.adds count (all ++ xs) (h.adds count all before)) }

-- one more place
pub places_next : (root : CaseView) (places : List Join) (i : ℕ) (d : Join) → i < length places → (leaf : Bit) → leaf ≡ first_start root (get_or places i d).source → (a b c : Starts)
    → Adds a b (starts_by root (take i places)) → Adds b c (record { bit = (get_or places i d).bit; value = leaf } ∷ [])
    → Adds a c (starts_by root (take (i + 1) places))
places_next root places i d lt leaf is a b c h k =
    let p : Join = get_or places i d in
    let done : List Join = take i places in
    let now : Adds b c (starts_by root (p ∷ [])) = subst (λ v. Adds b c (record { bit = p.bit; value = v } ∷ [])) is k in
    let same : starts_by root done ++ starts_by root (p ∷ []) ≡ starts_by root (take (i + 1) places) =
    sym (
    ap (λ xs. starts_by root xs) (take_more places i d lt)
    ∙ map-append (λ j. record { bit = j.bit; value = first_start root j.source }) done (p ∷ [])) in
    subst (Adds a c) same (adds_both a b c (starts_by root done) (starts_by root (p ∷ [])) h now)

pub places_end : (root : CaseView) (places : List Join) (i : ℕ) → length places ≤ i → (a b : Starts) → Adds a b (starts_by root (take i places)) → Adds a b (starts_by root places)
places_end root places i far a b h = subst (λ xs. Adds a b (starts_by root xs)) (take_all i places far) h

-- the start values of a process, by its tree read by the rules
pub process_given : (p : Process) (root : CaseView) (rules : List SyncRule) (a b : Starts) → root ≡ root_by_rules p.root → rules ≡ p.syncs → Adds a b (starts_by root (all_joins (init_lines rules))) → Adds a b (process_starts p)
process_given p root rules a b e f h = subst (Adds a b) (λ i. starts_by (e i) (all_joins (init_lines (f i)))) h

-- one more process
pub given_next : (ps : List Process) (i : ℕ) (p : Process) → i < length ps → p ≡ get_or ps i p → (a b c : Starts) → Adds a b (flat_map process_starts (take i ps)) → Adds b c (process_starts p) → Adds a c (flat_map process_starts (take (i + 1) ps))
given_next ps i p lt is a b c h k =
    let done : List Process = take i ps in
    let same : flat_map process_starts done ++ process_starts p ≡ flat_map process_starts (take (i + 1) ps) =
    sym (
    ap (flat_map process_starts) (take_more ps i p lt ∙ ap (λ q. done ++ q ∷ []) (sym is))
    ∙ all_both done (p ∷ [])
    ∙ ap (λ xs. flat_map process_starts done ++ xs) (append-nil (process_starts p))) in
    subst (Adds a c) same (adds_both a b c (flat_map process_starts done) (process_starts p) h k)
  where
    all_both : (xs ys : List Process) → flat_map process_starts (xs ++ ys) ≡ flat_map process_starts xs ++ flat_map process_starts ys
    all_both [] ys = refl
    all_both (x ∷ xs) ys = ap (λ z. process_starts x ++ z) (all_both xs ys) ∙ sym (append_assoc (process_starts x) (flat_map process_starts xs) (flat_map process_starts ys))

pub mapped_next : {A B : Type 0} (f : A → B) (xs : List A) (i : ℕ) (x : A) → i < length xs → x ≡ get_or xs i x → (done new : List B) (y : B) → new ≡ done ++ y ∷ [] → y ≡ f x → done ≡ map f (take i xs) → new ≡ map f (take (i + 1) xs)
mapped_next f xs i x lt is done new y put made before =
    put ∙ (λ j. before j ++ made j ∷ [])
    ∙ sym (map-append f (take i xs) (x ∷ []))
    ∙ ap (map f) (ap (λ z. take i xs ++ z ∷ []) is ∙ sym (take_more xs i x lt))

-- all start values of a module
pub all_given : (a b : Starts) (wires : List Wire) (ps : List Process) (m : Module) → wires ≡ m.wires → ps ≡ m.processes → AreStarts a (length wires) [] → Adds a b (flat_map process_starts ps) → AreStartsOf b m
all_given a b wires ps m e f none h =
    subst (λ ws. AreStarts b (length ws) (flat_map process_starts m.processes)) e
    (subst (λ qs. AreStarts b (length wires) (flat_map process_starts qs)) f (h.adds (length wires) [] none))
