-- The rules that are left: which act, and what the check says of them.
use Rattle.std.proofs.Common.{◌≡◌, ◌≤◌, ℕ, ◌+◌, Bool, true, false, cond, List, [], ◌∷◌, ◌++◌, Option, Some, None, if◌then◌else◌, ◌⊎◌, inl, inr, refl, sym, ◌∙◌, ap, arith}
use Rattle.std.specs.Prelude.{◌&&◌, ◌||◌, count_by, filter, flat_map, not}
use Rattle.std.specs.List.{fold, list_all, list_any}
use Rattle.std.specs.Option.{is_some}
use Rattle.std.proofs.lemmas.Bool.{and_parts, or_parts}
use Rattle.rtl_sig.specs.declared.sig.WireBit.{WireBit}
use Rattle.rtl_ir.specs.Faults.RuleKinds.{AtAll, AtBothEdges, AtEdge, AtLevel, AtStart, AtSteps, RuleKind, edges_agree, has_one_bit, is_one_edge, kind_of_event, kinds_of, may_stand, rules_stand, writes, writes_stand}
use Rattle.rtl_ir.specs.Faults.TwoEdges.{EdgeBit, edge_bit, events_reset, two_edges_stand}
use Rattle.rtl_ir.specs.Flat.Process.{edge_trigger}
use Rattle.rtl_ir.specs.Follow.{all_joins}
use Rattle.rtl_ir.specs.Rules.{acting_rules, has_line, init_lines, is_init}
use Rattle.rtl_ir.specs.Tree.{CaseView}
use Rattle.rtl_ir.specs.Types.{Ports}
use Rattle.rtl_ir.specs.declared.module.Module.{Module}
use Rattle.rtl_ir.specs.declared.process.Event.{Event}
use Rattle.rtl_ir.specs.declared.process.Event.TheVariants.{Low, High, Posedge, Negedge, Edge, Global, Init, Always}
use Rattle.rtl_ir.specs.declared.process.SyncRule.{SyncRule}
use Rattle.net_model.specs.Lists.{In}
use Rattle.net_model.specs.Proc.Latch.{is_always}
use Rattle.build_laws.specs.Rebuilds.{join_bits}
use Rattle.proc_laws.specs.Kinds.{is_edge_rule}

-- the rules that do not always act
abbrev pub stays : SyncRule → Bool
stays r = if is_always r.event then false else true

abbrev pub kept : List SyncRule → List SyncRule
kept rules = filter stays rules

-- filters may go in any order
filters : {A : Type 0} (p q : A → Bool) (xs : List A) → filter p (filter q xs) ≡ filter q (filter p xs)
filters p q [] = refl
filters p q (x ∷ xs) = by (p x) refl (q x) refl (filters p q xs)
  where
    by : (s : Bool) → p x ≡ s → (t : Bool) → q x ≡ t → filter p (filter q xs) ≡ filter q (filter p xs) → filter p (if t then x ∷ filter q xs else filter q xs) ≡ filter q (if s then x ∷ filter p xs else filter p xs)
    by true e true f g =
        (λ i. if e i then x ∷ filter p (filter q xs) else filter p (filter q xs))
        ∙ ap (λ z. x ∷ z) g
        ∙ sym (λ i. if f i then x ∷ filter q (filter p xs) else filter q (filter p xs))
    by true e false f g = g ∙ sym (λ i. if f i then x ∷ filter q (filter p xs) else filter q (filter p xs))
    by false e true f g = (λ i. if e i then x ∷ filter p (filter q xs) else filter p (filter q xs)) ∙ g
    by false e false f g = g

pub acting_kept : (rules : List SyncRule) → acting_rules (kept rules) ≡ kept (acting_rules rules)
acting_kept rules = filters (λ (r : SyncRule). has_line r && not (is_init r.event)) stays rules

-- what passes a filter
pub passed : {A : Type 0} (p : A → Bool) (xs : List A) (x : A) → In x (filter p xs) → In x xs × (p x ≡ true)
passed p [] x i = absurd i
passed p (y ∷ ys) x i = by (p y) refl i (passed p ys x)
  where
    by : (t : Bool) → p y ≡ t → In x (if t then y ∷ filter p ys else filter p ys) → (In x (filter p ys) → In x ys × (p x ≡ true)) → In x (y ∷ ys) × (p x ≡ true)
    by true e (inl f) later = (inl f, ap p f ∙ e)
    by true e (inr j) later = let r = later j in (inr r.0, r.1)
    by false e j later = let r = later j in (inr r.0, r.1)

pub not_always : (t : Bool) → (if t then false else true) ≡ true → t ≡ false
not_always true e = absurd (cc)
not_always false e = refl

-- how many items pass a test
abbrev pub number : {A : Type 0} → (A → Bool) → List A → ℕ
number p [] = 0
number p (x ∷ xs) = cond (p x) 1 0 + number p xs

numbered_from : {A : Type 0} (p : A → Bool) (n : ℕ) (xs : List A) → fold (λ k x. k + cond (p x) 1 0) n xs ≡ n + number p xs
numbered_from p n [] = omega arith
numbered_from p n (x ∷ xs) = omega (arith, numbered_from p (n + cond (p x) 1 0) xs)

pub number_is : {A : Type 0} (p : A → Bool) (xs : List A) → count_by p xs ≡ number p xs
number_is p xs = omega (arith, numbered_from p 0 xs)

fewer_pass : {A : Type 0} (p q : A → Bool) (xs : List A) → number p (filter q xs) ≤ number p xs
fewer_pass p q [] = omega arith
fewer_pass p q (x ∷ xs) = by (q x) (fewer_pass p q xs)
  where
    by : (t : Bool) → number p (filter q xs) ≤ number p xs → number p (if t then x ∷ filter q xs else filter q xs) ≤ number p (x ∷ xs)
    by true h = omega (arith, h)
    by false h = omega (arith, h)

pub fewer : {A : Type 0} (p q : A → Bool) (xs : List A) → count_by p (filter q xs) ≤ count_by p xs
fewer p q xs = omega (arith, number_is p xs, number_is p (filter q xs), fewer_pass p q xs)

-- what no item has, none of those that pass has
pub none_any : {A : Type 0} (p q : A → Bool) (xs : List A) → list_any p xs ≡ false → list_any p (filter q xs) ≡ false
none_any p q [] e = refl
none_any p q (x ∷ xs) e =
    let k = or_parts (p x) (list_any p xs) e in
    by (q x) k.0 (none_any p q xs k.1)
  where
    by : (t : Bool) → p x ≡ false → list_any p (filter q xs) ≡ false → list_any p (if t then x ∷ filter q xs else filter q xs) ≡ false
    by true f g = λ i. f i || g i
    by false f g = g

any_both : {A : Type 0} (p : A → Bool) (xs ys : List A) → list_any p (xs ++ ys) ≡ (list_any p xs || list_any p ys)
any_both p [] ys = refl
any_both p (x ∷ xs) ys = ap (λ t. p x || t) (any_both p xs ys) ∙ again (p x) (list_any p xs) (list_any p ys)
  where
    again : (a b c : Bool) → (a || (b || c)) ≡ ((a || b) || c)
    again true b c = refl
    again false b c = refl

pub none_within : {A B : Type 0} (p : B → Bool) (f : A → List B) (q : A → Bool) (xs : List A) → list_any p (flat_map f xs) ≡ false → list_any p (flat_map f (filter q xs)) ≡ false
none_within p f q [] e = refl
none_within p f q (x ∷ xs) e =
    let k = or_parts (list_any p (f x)) (list_any p (flat_map f xs)) (sym (any_both p (f x) (flat_map f xs)) ∙ e) in
    by (q x) k.0 (none_within p f q xs k.1)
  where
    by : (t : Bool) → list_any p (f x) ≡ false → list_any p (flat_map f (filter q xs)) ≡ false → list_any p (flat_map f (if t then x ∷ filter q xs else filter q xs)) ≡ false
    by true g h = any_both p (f x) (flat_map f (filter q xs)) ∙ (λ i. g i || h i)
    by false g h = h

-- the start values stay
pub inits_kept : (rules : List SyncRule) → init_lines (kept rules) ≡ init_lines rules
inits_kept rules = ap (flat_map (λ (r : SyncRule). r.updates)) (filters (λ (r : SyncRule). is_init r.event) stays rules ∙ all_stay rules)
  where
    apart : (e : Event) → is_init e ≡ true → is_always e ≡ false
    apart Init f = refl
    apart (Low s) f = refl
    apart (High s) f = refl
    apart (Posedge s) f = refl
    apart (Negedge s) f = refl
    apart (Edge s) f = refl
    apart Global f = refl
    apart Always f = absurd (cc)

    one : (r : SyncRule) (rs : List SyncRule) (t : Bool) → is_init r.event ≡ t → kept rs ≡ rs → kept (if t then r ∷ rs else rs) ≡ (if t then r ∷ rs else rs)
    one r rs true e g = (λ i. if (if apart r.event e i then false else true) then r ∷ kept rs else kept rs) ∙ ap (λ z. r ∷ z) g
    one r rs false e g = g

    all_stay : (rules : List SyncRule) → kept (filter (λ (r : SyncRule). is_init r.event) rules) ≡ filter (λ (r : SyncRule). is_init r.event) rules
    all_stay [] = refl
    all_stay (r ∷ rs) = one r (filter (λ (x : SyncRule). is_init x.event) rs) (is_init r.event) refl (all_stay rs)

-- the bits of one rule that always acts, where it is the only one
abbrev pub lone_bits : List SyncRule → List WireBit
lone_bits (r ∷ []) = if is_always r.event then join_bits (all_joins r.updates) else []
lone_bits rules = []

-- rules that may stand together are one that always acts, or none is
pub record IsLone (rules : List SyncRule) : Type 0 where
  pub rule : SyncRule
  pub only : rules ≡ rule ∷ []
  pub always : is_always rule.event ≡ true

pub record StayAll (rules : List SyncRule) : Type 0 where
  pub all : kept rules ≡ rules
  pub none : lone_bits rules ≡ []

first_stays : (e : Event) (k : RuleKind) (ks : List RuleKind) → may_stand (kind_of_event e ∷ k ∷ ks) ≡ true → is_always e ≡ false
first_stays (Low s) k ks h = refl
first_stays (High s) k ks h = refl
first_stays (Posedge s) k ks h = refl
first_stays (Negedge s) k ks h = refl
first_stays (Edge s) k ks h = refl
first_stays Global k ks h = refl
first_stays Init k ks h = refl
first_stays Always k ks h = absurd (cc)

second_stays : (k : RuleKind) (e : Event) → may_stand (k ∷ kind_of_event e ∷ []) ≡ true → is_always e ≡ false
second_stays k (Low s) h = refl
second_stays k (High s) h = refl
second_stays k (Posedge s) h = refl
second_stays k (Negedge s) h = refl
second_stays k (Edge s) h = refl
second_stays k Global h = refl
second_stays k Init h = refl
second_stays AtAll Always h = absurd (cc)
second_stays AtBothEdges Always h = absurd (cc)
second_stays AtEdge Always h = absurd (cc)
second_stays AtLevel Always h = absurd (cc)
second_stays AtStart Always h = absurd (cc)
second_stays AtSteps Always h = absurd (cc)

three_fail : (a b c : RuleKind) (ks : List RuleKind) → may_stand (a ∷ b ∷ c ∷ ks) ≡ false
three_fail AtAll b c ks = refl
three_fail AtSteps b c ks = refl
three_fail AtBothEdges b c ks = refl
three_fail AtStart b c ks = refl
three_fail AtEdge AtAll c ks = refl
three_fail AtEdge AtBothEdges c ks = refl
three_fail AtEdge AtEdge c ks = refl
three_fail AtEdge AtLevel c ks = refl
three_fail AtEdge AtStart c ks = refl
three_fail AtEdge AtSteps c ks = refl
three_fail AtLevel AtAll c ks = refl
three_fail AtLevel AtBothEdges c ks = refl
three_fail AtLevel AtEdge c ks = refl
three_fail AtLevel AtLevel c ks = refl
three_fail AtLevel AtStart c ks = refl
three_fail AtLevel AtSteps c ks = refl

abbrev two_kept : SyncRule → SyncRule → Bool → Bool → List SyncRule
two_kept a b s t =
    let rest : List SyncRule = if (if t then false else true) then b ∷ [] else [] in
    if (if s then false else true) then a ∷ rest else rest

pub lone_or_all : (rules : List SyncRule) → may_stand (kinds_of rules) ≡ true → IsLone rules ⊎ StayAll rules
lone_or_all [] h = inr (record { all = refl; none = refl })
lone_or_all (r ∷ []) h = by (is_always r.event) refl
  where
    by : (t : Bool) → is_always r.event ≡ t → IsLone (r ∷ []) ⊎ StayAll (r ∷ [])
    by true e = inl (record { rule = r; only = refl; always = e })
    by false e = inr (record {
      all = λ i. if (if e i then false else true) then r ∷ [] else [];
      none = λ i. if e i then join_bits (all_joins r.updates) else [];
    })
lone_or_all (a ∷ b ∷ []) h =
    let first = first_stays a.event (kind_of_event b.event) [] h in
    let second = second_stays (kind_of_event a.event) b.event h in
    inr (record { all = λ i. two_kept a b (first i) (second i); none = refl })
lone_or_all (a ∷ b ∷ c ∷ rules) h =
    absurd (cc (h, three_fail (kind_of_event a.event) (kind_of_event b.event) (kind_of_event c.event) (kinds_of rules)))

pub none_kept : (r : SyncRule) → is_always r.event ≡ true → kept (r ∷ []) ≡ []
none_kept r e = λ i. if (if e i then false else true) then r ∷ [] else []

pub always_is : (e : Event) → is_always e ≡ true → e ≡ Always
always_is (Low s) h = absurd (cc)
always_is (High s) h = absurd (cc)
always_is (Posedge s) h = absurd (cc)
always_is (Negedge s) h = absurd (cc)
always_is (Edge s) h = absurd (cc)
always_is Global h = absurd (cc)
always_is Init h = absurd (cc)
always_is Always h = refl

-- rules that stand together do so without those that always act
abbrev stand_of : List SyncRule → List SyncRule → Bool
stand_of acting rules =
    ((may_stand (kinds_of acting) && edges_agree acting) && list_all (λ (r : SyncRule). has_one_bit r.event) acting)
    && (not (list_any (λ (r : SyncRule). is_init r.event && writes r) rules) && (not (list_any writes acting) || is_one_edge (kinds_of acting)))

not_true : (t : Bool) → not t ≡ true → t ≡ false
not_true true e = absurd (cc)
not_true false e = refl

pub may_stand_of : (rules : List SyncRule) → rules_stand rules ≡ true → may_stand (kinds_of (acting_rules rules)) ≡ true
may_stand_of rules e =
    let acting : List SyncRule = acting_rules rules in
    let three = and_parts ((may_stand (kinds_of acting) && edges_agree acting) && list_all (λ (r : SyncRule). has_one_bit r.event) acting) (writes_stand rules) e in
    let two = and_parts (may_stand (kinds_of acting) && edges_agree acting) (list_all (λ (r : SyncRule). has_one_bit r.event) acting) three.0 in
    (and_parts (may_stand (kinds_of acting)) (edges_agree acting) two.0).0

module _ (rules : List SyncRule) (e : rules_stand rules ≡ true) where
  abbrev acting : List SyncRule
  acting = acting_rules rules

  abbrev starts : SyncRule → Bool
  starts r = is_init r.event && writes r

  parts : (((may_stand (kinds_of acting) && edges_agree acting) && list_all (λ (r : SyncRule). has_one_bit r.event) acting) ≡ true) × (writes_stand rules ≡ true)
  parts = and_parts ((may_stand (kinds_of acting) && edges_agree acting) && list_all (λ (r : SyncRule). has_one_bit r.event) acting) (writes_stand rules) e

  more : (not (list_any starts rules) ≡ true) × ((not (list_any writes acting) || is_one_edge (kinds_of acting)) ≡ true)
  more = and_parts (not (list_any starts rules)) (not (list_any writes acting) || is_one_edge (kinds_of acting)) parts.1

  none : list_any starts (kept rules) ≡ false
  none = none_any starts stays rules (not_true (list_any starts rules) more.0)

  pub stand_kept : rules_stand (kept rules) ≡ true
  stand_kept = by (lone_or_all acting (may_stand_of rules e))
    where
      by : IsLone acting ⊎ StayAll acting → rules_stand (kept rules) ≡ true
      by (inl l) =
          ap (λ a. stand_of a (kept rules)) (acting_kept rules ∙ ap kept l.only ∙ none_kept l.rule l.always)
          ∙ (λ i. not (none i) && true)
      by (inr s) =
          ap (λ a. stand_of a (kept rules)) (acting_kept rules ∙ s.all)
          ∙ (λ i. parts.0 i && (not (none i) && more.1 i))

-- with one edge at most there is no reset to be told from a clock
pub one_edge : (ports : Ports) (m : Module) (root : CaseView) (bits : List WireBit) (rules : List SyncRule) → count_by is_edge_rule rules ≤ 1 → two_edges_stand ports m root bits rules ≡ true
one_edge ports m root bits [] h = refl
one_edge ports m root bits (a ∷ []) h = refl
one_edge ports m root bits (a ∷ b ∷ c ∷ rules) h = refl
one_edge ports m root bits (a ∷ b ∷ []) h = by (edge_bit a.event) refl (edge_bit b.event) refl
  where
    is_edge : (e : Event) (k : EdgeBit) → edge_bit e ≡ Some k → is_some (edge_trigger e) ≡ true
    is_edge (Posedge s) k f = refl
    is_edge (Negedge s) k f = refl
    is_edge (Low s) k f = absurd (cc)
    is_edge (High s) k f = absurd (cc)
    is_edge (Edge s) k f = absurd (cc)
    is_edge Global k f = absurd (cc)
    is_edge Init k f = absurd (cc)
    is_edge Always k f = absurd (cc)

    two : is_some (edge_trigger a.event) ≡ true → is_some (edge_trigger b.event) ≡ true → number is_edge_rule (a ∷ b ∷ []) ≡ 2
    two e f = λ i. cond (e i) 1 0 + (cond (f i) 1 0 + 0)

    by : (o : Option EdgeBit) → edge_bit a.event ≡ o → (p : Option EdgeBit) → edge_bit b.event ≡ p → events_reset ports m root bits (all_joins a.updates) o p ≡ true
    by None e p f = refl
    by (Some k) e None f = refl
    by (Some k) e (Some l) f =
        absurd (omega (arith, h, number_is is_edge_rule (a ∷ b ∷ []), two (is_edge a.event k e) (is_edge b.event l f)))
