-- Of the rows that rules drive, those of rules that do not always act stay.
use Rattle.std.proofs.Common.{◌≡◌, ◌≤◌, ◌+◌, Bool, true, false, ◌&&◌, not, if◌then◌else◌, List, [], ◌∷◌, Option, Some, None, inl, inr, ⊎_elim, refl, sym, ◌∙◌, ap, subst, arith}
use Rattle.std.specs.Prelude.{◌⊎◌, count_by, filter}
use Rattle.std.specs.Option.{is_some}
use Rattle.rtl_bits.specs.declared.bit.Bit.{Bit}
use Rattle.rtl_ir.specs.Assigns.{tree_bits}
use Rattle.rtl_ir.specs.Faults.TwoEdges.{EdgeBit, edge_bit}
use Rattle.rtl_ir.specs.Flat.Driver.{Driven}
use Rattle.rtl_ir.specs.Flat.Place.{Path}
use Rattle.rtl_ir.specs.Flat.Process.{Trigger, always_row, edge_trigger, level_trigger, one_rule_rows, process_rows, raced_rows, rules_rows, tree_bit_rows, two_rules_rows, pair_by}
use Rattle.rtl_ir.specs.Follow.{all_joins}
use Rattle.rtl_ir.specs.declared.follow.Join.{Join}
use Rattle.rtl_ir.specs.Rules.{acting_rules, has_line, is_init}
use Rattle.rtl_ir.specs.SwitchRules.{root_by_rules}
use Rattle.rtl_ir.specs.Tree.{CaseView}
use Rattle.rtl_ir.specs.declared.module.Module.{Module}
use Rattle.rtl_ir.specs.declared.process.Event.{Event}
use Rattle.rtl_ir.specs.declared.process.Event.TheVariants.{Low, High, Posedge, Negedge, Edge, Global, Init, Always}
use Rattle.rtl_ir.specs.declared.process.Process.{Process}
use Rattle.rtl_ir.specs.declared.process.SyncRule.{SyncRule}
use Rattle.rtl_ir.specs.declared.wire.Wire.{Wire}
use Rattle.rtl_sig.specs.declared.sig.SigBit.{SigBit}
use Rattle.rtl_sig.specs.declared.sig.WireBit.{WireBit}
use Rattle.net_model.proofs.Members.{In-cases, In-left, In-mapped, In-right}
use Rattle.net_model.specs.Lists.{In}
use Rattle.net_model.specs.Proc.Latch.{is_always, without_always}
use Rattle.proc_laws.specs.Kinds.{is_edge_rule}

-- a rule stays: it does not always act
abbrev pub stays : SyncRule → Bool
stays r = if is_always r.event then false else true

pub always_is : (e : Event) → is_always e ≡ true → e ≡ Always
always_is Always h = refl
always_is (Low signal) h = absurd (cc)
always_is (High signal) h = absurd (cc)
always_is (Posedge signal) h = absurd (cc)
always_is (Negedge signal) h = absurd (cc)
always_is (Edge signal) h = absurd (cc)
always_is Global h = absurd (cc)
always_is Init h = absurd (cc)

-- an event that is no edge has no bit of an edge
no_edge : (e : Event) → is_some (edge_trigger e) ≡ false → edge_bit e ≡ None
no_edge Always h = refl
no_edge (Low signal) h = refl
no_edge (High signal) h = refl
no_edge (Posedge signal) h = absurd (cc)
no_edge (Negedge signal) h = absurd (cc)
no_edge (Edge signal) h = refl
no_edge Global h = refl
no_edge Init h = refl

-- one of two rules is at no edge
one_edge : (a b : SyncRule) → count_by is_edge_rule (a ∷ b ∷ []) ≤ 1 → (edge_bit a.event ≡ None) ⊎ (edge_bit b.event ≡ None)
one_edge a b few = by (is_edge_rule a) (is_edge_rule b) refl refl few
  where
    by : (t u : Bool) → is_edge_rule a ≡ t → is_edge_rule b ≡ u → (0 + (if t then 1 else 0)) + (if u then 1 else 0) ≤ 1 → (edge_bit a.event ≡ None) ⊎ (edge_bit b.event ≡ None)
    by false u e f h = inl (no_edge a.event e)
    by true false e f h = inr (no_edge b.event f)
    by true true e f h = absurd (omega (arith, h))

-- the rules that act without those that always act
filter_turned : {A : Type 0} (f g : A → Bool) (xs : List A) → filter f (filter g xs) ≡ filter g (filter f xs)
filter_turned f g [] = refl
filter_turned f g (x ∷ xs) = by (f x) (g x) refl refl (filter_turned f g xs)
  where
    by : (t u : Bool) → f x ≡ t → g x ≡ u → filter f (filter g xs) ≡ filter g (filter f xs) → filter f (if u then x ∷ filter g xs else filter g xs) ≡ filter g (if t then x ∷ filter f xs else filter f xs)
    by true true e h later =
        (λ i. if e i then x ∷ filter f (filter g xs) else filter f (filter g xs))
        ∙ ap (λ z. x ∷ z) later
        ∙ sym (λ i. if h i then x ∷ filter g (filter f xs) else filter g (filter f xs))
    by true false e h later = later ∙ sym (λ i. if h i then x ∷ filter g (filter f xs) else filter g (filter f xs))
    by false true e h later = (λ i. if e i then x ∷ filter f (filter g xs) else filter f (filter g xs)) ∙ later
    by false false e h later = later

acting_stay : (rules : List SyncRule) → acting_rules (filter stays rules) ≡ filter stays (acting_rules rules)
acting_stay rules = filter_turned (λ (rule : SyncRule). has_line rule && not (is_init rule.event)) stays rules

module _ (start : SigBit → Bit) (p : Path) (wires : List Wire) (root : CaseView) (bits : List WireBit) where
  none_raced : (n : Module) (updates : List Join) (a b : Option EdgeBit) → (a ≡ None) ⊎ (b ≡ None) → raced_rows start p wires n root bits updates a b ≡ []
  none_raced n updates (Some a) (Some b) (inl e) = absurd (cc)
  none_raced n updates (Some a) (Some b) (inr e) = absurd (cc)
  none_raced n updates (Some a) None e = refl
  none_raced n updates None (Some b) e = refl
  none_raced n updates None None e = refl

  -- two rules that are not at two edges drive the same whatever the module has besides
  same_two : (n n' : Module) (a b : SyncRule) → (edge_bit a.event ≡ None) ⊎ (edge_bit b.event ≡ None) → (e f l k : Option Trigger) → two_rules_rows start p wires n root bits (pair_by a b e f l k) ≡ two_rules_rows start p wires n' root bits (pair_by a b e f l k)
  same_two n n' a b h e f l k = by e f l k (none_raced n (all_joins a.updates) (edge_bit a.event) (edge_bit b.event) h ∙ sym (none_raced n' (all_joins a.updates) (edge_bit a.event) (edge_bit b.event) h))
    where
      by : (e f l k : Option Trigger) → raced_rows start p wires n root bits (all_joins a.updates) (edge_bit a.event) (edge_bit b.event) ≡ raced_rows start p wires n' root bits (all_joins a.updates) (edge_bit a.event) (edge_bit b.event) → two_rules_rows start p wires n root bits (pair_by a b e f l k) ≡ two_rules_rows start p wires n' root bits (pair_by a b e f l k)
      by (Some e) (Some f) (Some l) (Some k) z = refl
      by (Some e) (Some f) None (Some k) z = refl
      by (Some e) None (Some l) (Some k) z = refl
      by (Some e) None None (Some k) z = refl
      by (Some e) (Some f) (Some l) None z = refl
      by None (Some f) (Some l) None z = refl
      by None (Some f) (Some l) (Some k) z = refl
      by (Some e) (Some f) None None z = z
      by (Some e) None (Some l) None z = z
      by (Some e) None None None z = z
      by None (Some f) None (Some k) z = z
      by None (Some f) None None z = z
      by None None (Some l) (Some k) z = z
      by None None (Some l) None z = z
      by None None None (Some k) z = z
      by None None None None z = z

  -- beside another rule one that always acts drives nothing
  first_always : (n : Module) (a b : SyncRule) → is_always a.event ≡ true → two_rules_rows start p wires n root bits (pair_by a b (edge_trigger a.event) (edge_trigger b.event) (level_trigger a.event) (level_trigger b.event)) ≡ []
  first_always n a b h =
      let same : a.event ≡ Always = always_is a.event h in
      (λ i. two_rules_rows start p wires n root bits (pair_by a b (edge_trigger (same i)) (edge_trigger b.event) (level_trigger (same i)) (level_trigger b.event)))
      ∙ by (edge_trigger b.event) (level_trigger b.event)
      ∙ none_raced n (all_joins a.updates) (edge_bit a.event) (edge_bit b.event) (inl (ap edge_bit same))
    where
      by : (f k : Option Trigger) → two_rules_rows start p wires n root bits (pair_by a b None f None k) ≡ raced_rows start p wires n root bits (all_joins a.updates) (edge_bit a.event) (edge_bit b.event)
      by (Some f) (Some k) = refl
      by (Some f) None = refl
      by None (Some k) = refl
      by None None = refl

  second_always : (n : Module) (a b : SyncRule) → is_always b.event ≡ true → two_rules_rows start p wires n root bits (pair_by a b (edge_trigger a.event) (edge_trigger b.event) (level_trigger a.event) (level_trigger b.event)) ≡ []
  second_always n a b h =
      let same : b.event ≡ Always = always_is b.event h in
      (λ i. two_rules_rows start p wires n root bits (pair_by a b (edge_trigger a.event) (edge_trigger (same i)) (level_trigger a.event) (level_trigger (same i))))
      ∙ by (edge_trigger a.event) (level_trigger a.event)
      ∙ none_raced n (all_joins a.updates) (edge_bit a.event) (edge_bit b.event) (inr (ap edge_bit same))
    where
      by : (e l : Option Trigger) → two_rules_rows start p wires n root bits (pair_by a b e None l None) ≡ raced_rows start p wires n root bits (all_joins a.updates) (edge_bit a.event) (edge_bit b.event)
      by (Some e) (Some l) = refl
      by (Some e) None = refl
      by None (Some l) = refl
      by None None = refl

  -- a row is that of a bit that one rule always updates
  pub record IsAlwaysRow (rules : List SyncRule) (d : Driven) : Type 0 where
    pub rule : SyncRule
    pub one : rules ≡ rule ∷ []
    pub always : is_always rule.event ≡ true
    pub update : Join
    pub there : In update (all_joins rule.updates)
    pub is : d ≡ always_row start p wires root bits update

  one_case : (n n' : Module) (r : SyncRule) (d : Driven) → In d (rules_rows start p wires n root bits (r ∷ [])) → IsAlwaysRow (r ∷ []) d ⊎ In d (rules_rows start p wires n' root bits (filter stays (r ∷ [])))
  one_case n n' r d i = by (is_always r.event) refl
    where
      by : (t : Bool) → is_always r.event ≡ t → IsAlwaysRow (r ∷ []) d ⊎ In d (rules_rows start p wires n' root bits (if (if t then false else true) then r ∷ [] else []))
      by false e = inr i
      by true e =
          let k = In-mapped (always_row start p wires root bits) d (all_joins r.updates) (subst (λ z. In d (one_rule_rows start p wires root bits (all_joins r.updates) z)) (always_is r.event e) i) in
          inl (record { rule = r; one = refl; always = e; update = k.0; there = k.1; is = k.2 })

  two_case : (n n' : Module) (a b : SyncRule) → count_by is_edge_rule (a ∷ b ∷ []) ≤ 1 → (d : Driven) → In d (rules_rows start p wires n root bits (a ∷ b ∷ [])) → In d (rules_rows start p wires n' root bits (filter stays (a ∷ b ∷ [])))
  two_case n n' a b few d i = by (is_always a.event) (is_always b.event) refl refl
    where
      by : (t u : Bool) → is_always a.event ≡ t → is_always b.event ≡ u → In d (rules_rows start p wires n' root bits (if (if t then false else true) then a ∷ (if (if u then false else true) then b ∷ [] else []) else (if (if u then false else true) then b ∷ [] else [])))
      by true u e f = absurd (subst (In d) (first_always n a b e) i)
      by false true e f = absurd (subst (In d) (second_always n a b f) i)
      by false false e f =
          subst (In d) (same_two n n' a b (one_edge a b few) (edge_trigger a.event) (edge_trigger b.event) (level_trigger a.event) (level_trigger b.event)) i

  rules_case : (n n' : Module) (rules : List SyncRule) → count_by is_edge_rule rules ≤ 1 → (d : Driven) → In d (rules_rows start p wires n root bits rules) → IsAlwaysRow rules d ⊎ In d (rules_rows start p wires n' root bits (filter stays rules))
  rules_case n n' [] few d i = absurd i
  rules_case n n' (r ∷ []) few d i = one_case n n' r d i
  rules_case n n' (a ∷ b ∷ []) few d i = inr (two_case n n' a b few d i)
  rules_case n n' (a ∷ b ∷ c ∷ rules) few d i = absurd i

-- a row of a process whose switches are read by the rules is one of a bit that is always updated, or stays
pub row_case : (start : SigBit → Bit) (p : Path) (wires : List Wire) (n n' : Module) (q : Process) → root_by_rules q.root ≡ q.root → count_by is_edge_rule (acting_rules q.syncs) ≤ 1 → (d : Driven) → In d (process_rows start p wires n q)
    → IsAlwaysRow start p wires q.root (tree_bits q.root) (acting_rules q.syncs) d ⊎ In d (process_rows start p wires n' (without_always q))
row_case start p wires n n' q ruled few d i =
    ⊎_elim
    (λ l. inr (In-left d trees after l))
    (λ r. ⊎_elim (λ a. inl a) (λ s. inr (In-right d trees after (kept s))) (rules_case start p wires q.root bits n n' (acting_rules q.syncs) few d (subst (λ z. In d (rules_rows start p wires n z bits (acting_rules q.syncs))) ruled r)))
    (In-cases d trees (rules_rows start p wires n (root_by_rules q.root) bits (acting_rules q.syncs)) i)
  where
    bits : List WireBit
    bits = tree_bits q.root

    trees : List Driven
    trees = tree_bit_rows start p wires (root_by_rules q.root) bits

    after : List Driven
    after = rules_rows start p wires n' (root_by_rules q.root) bits (acting_rules (filter stays q.syncs))

    kept : In d (rules_rows start p wires n' q.root bits (filter stays (acting_rules q.syncs))) → In d after
    kept s =
        subst (λ z. In d (rules_rows start p wires n' z bits (acting_rules (filter stays q.syncs)))) (sym ruled)
        (subst (λ z. In d (rules_rows start p wires n' q.root bits z)) (sym (acting_stay q.syncs)) s)
