-- What is made of the signals of a module names the same wires: decisions, tree bits, start values, write ports.
use Rattle.std.proofs.Common.{◌<◌, ℕ, zero, suc, Bool, true, false, List, [], ◌∷◌, ◌++◌, Option, Some, None, inl, inr, ⊎_elim, refl, sym, subst}
use Rattle.std.specs.Prelude.{filter, flat_map, find, if◌then◌else◌}
use Rattle.std.specs.Option.{option_map_or, option_or}
use Rattle.std.specs.Str.{bytes_eq}
use Rattle.rtl_bits.specs.declared.bit.Bit.TheVariants.{X}
use Rattle.rtl_sig.specs.declared.sig.SigBit.{SigBit}
use Rattle.rtl_sig.specs.declared.sig.SigBit.TheVariants.{Fixed, Wire as OnWire}
use Rattle.rtl_sig.specs.declared.sig.WireBit.{WireBit}
use Rattle.rtl_ir.specs.declared.cell.Pin.{Pin}
use Rattle.rtl_ir.specs.declared.module.Link.{Link}
use Rattle.rtl_ir.specs.Assigns.{switches_assigns, cases_assigns, case_assigns, each_once, tree_bits, last_source, assigned}
use Rattle.rtl_ir.specs.Decisions.{Decision, Leaf, Choice, Branches, NoBranch, OneBranch, after_assigns, after_switches, branches_of, case_decision, with_leaves, branches_with_leaves, expanded_within, expanded}
use Rattle.rtl_ir.specs.Follow.{joins, all_joins, source_at}
use Rattle.rtl_ir.specs.declared.follow.Join.{Join}
use Rattle.rtl_ir.specs.Parameters.{signal_at}
use Rattle.rtl_ir.specs.Signals.{is_all_constant, same_bit, has_bit, wire_bits}
use Rattle.rtl_ir.specs.SwitchRules.{is_dropped, with_pattern, patterns_left, takes_the_rest, kept_case, switches_by_rules, cases_by_rules, root_by_rules}
use Rattle.rtl_ir.specs.Tree.{Switches, NoSwitch, OneSwitch, Cases, NoCase, OneCase, CaseView}
use Rattle.net_model.specs.Lists.{In}
use Rattle.net_model.specs.Within.{Each, BitIn, SigIn, LinkIn, SwitchesIn, CasesIn}
use Rattle.net_model.proofs.Members.{In-cases}

pub each_none : {A : Type 0} (P : A → Type 0) → Each P []
each_none P x i = absurd i

pub each_more : {A : Type 0} (P : A → Type 0) (y : A) (xs : List A) → P y → Each P xs → Each P (y ∷ xs)
each_more P y xs h i x (inl e) = subst P (sym e) h
each_more P y xs h i x (inr j) = i x j

pub each_both : {A : Type 0} (P : A → Type 0) (xs ys : List A) → Each P xs → Each P ys → Each P (xs ++ ys)
each_both P xs ys h i x j = ⊎_elim (λ l. h x l) (λ r. i x r) (In-cases x xs ys j)

pub each_flat_map : {A B : Type 0} (P : B → Type 0) (f : A → List B) (xs : List A) → ((x : A) → In x xs → Each P (f x)) → Each P (flat_map f xs)
each_flat_map P f [] h = each_none P
each_flat_map P f (x ∷ xs) h = each_both P (f x) (flat_map f xs) (h x (inl refl)) (each_flat_map P f xs (λ y i. h y (inr i)))

pub each_filter : {A : Type 0} (P : A → Type 0) (test : A → Bool) (xs : List A) → Each P xs → Each P (filter test xs)
each_filter P test [] h = each_none P
each_filter P test (x ∷ xs) h =
    by (test x) (each_filter P test xs (λ y i. h y (inr i)))
  where
    by : (t : Bool) → Each P (filter test xs) → Each P (if t then x ∷ filter test xs else filter test xs)
    by true i = each_more P x (filter test xs) (h x (inl refl)) i
    by false i = i

module _ (count : ℕ) where
  -- a bit of a wire, and a place of a connection
  abbrev pub WireIn : WireBit → Type 0
  WireIn b = b.wire < count

  pub record JoinIn (j : Join) : Type 0 where
    pub bit : j.bit.wire < count
    pub source : BitIn count j.source

  pub joins_in : (ls rs : List SigBit) → SigIn count ls → SigIn count rs → Each JoinIn (joins ls rs)
  joins_in [] rs h i = each_none JoinIn
  joins_in (l ∷ ls) [] h i = each_none JoinIn
  joins_in (Fixed c ∷ ls) (r ∷ rs) h i = joins_in ls rs (λ x j. h x (inr j)) (λ x j. i x (inr j))
  joins_in (OnWire b ∷ ls) (r ∷ rs) h i =
      each_more JoinIn _ (joins ls rs) (record { bit = h (OnWire b) (inl refl); source = i r (inl refl) }) (joins_in ls rs (λ x j. h x (inr j)) (λ x j. i x (inr j)))

  pub all_joins_in : (links : List Link) → Each (LinkIn count) links → Each JoinIn (all_joins links)
  all_joins_in links h =
      each_flat_map JoinIn (λ (l : Link). joins l.left l.right) links (λ l i. let k = h l i in joins_in l.left l.right k.0 k.1)

  pub signal_in : (pins : List Pin) (name : List ℕ) → Each (λ (pin : Pin). SigIn count pin.sig) pins → SigIn count (signal_at pins name)
  signal_in [] name h = each_none (BitIn count)
  signal_in (pin ∷ pins) name h =
      by (bytes_eq pin.name name) (signal_in pins name (λ x i. h x (inr i)))
    where
      by : (t : Bool) → SigIn count (signal_at pins name) → SigIn count (option_map_or (λ (p : Pin). p.sig) (if t then Some pin else find (λ (p : Pin). bytes_eq p.name name) pins) [])
      by true i = h pin (inl refl)
      by false i = i

  -- decisions
  abbrev mutual
    pub DecisionIn : Decision → Type 0
    DecisionIn (Leaf s) = BitIn count s
    DecisionIn (Choice signal branches last) = SigIn count signal × (BranchesIn branches × DecisionIn last)

    pub BranchesIn : Branches → Type 0
    BranchesIn NoBranch = Unit {0}
    BranchesIn (OneBranch patterns value rest) = Each (SigIn count) patterns × (DecisionIn value × BranchesIn rest)

  -- a bit that may be there
  abbrev pub OptionIn : Option SigBit → Type 0
  OptionIn None = Unit {0}
  OptionIn (Some s) = BitIn count s

  last_in : (js : List Join) (b : WireBit) → Each JoinIn js → OptionIn (last_source js b)
  last_in [] b h = tt
  last_in (j ∷ js) b h =
      by (last_source js b) (same_bit j.bit b) (last_in js b (λ x i. h x (inr i)))
    where
      by : (o : Option SigBit) (t : Bool) → OptionIn o → OptionIn (option_or o (if t then Some j.source else None))
      by (Some s) t i = i
      by None true i = (h j (inl refl)).source
      by None false i = tt

  after_assigns_in : (assigns : List Link) (b : WireBit) (earlier : Decision) → Each (LinkIn count) assigns → DecisionIn earlier → DecisionIn (after_assigns assigns b earlier)
  after_assigns_in assigns b earlier h i =
      by (assigned assigns b) (last_in (all_joins assigns) b (all_joins_in assigns h))
    where
      by : (o : Option SigBit) → OptionIn o → DecisionIn (option_map_or (λ s. Leaf s) o earlier)
      by (Some s) j = j
      by None j = i

  mutual
    after_switches_in : (b : WireBit) (switches : Switches) (earlier : Decision) → SwitchesIn count switches → DecisionIn earlier → DecisionIn (after_switches b switches earlier)
    after_switches_in b NoSwitch earlier h i = i
    after_switches_in b (OneSwitch signal attributes cases rest) earlier h i =
        after_switches_in b rest (Choice signal (branches_of b cases earlier) earlier) h.1.1 (h.0, (branches_in b cases earlier h.1.0 i, i))

    branches_in : (b : WireBit) (cases : Cases) (earlier : Decision) → CasesIn count cases → DecisionIn earlier → BranchesIn (branches_of b cases earlier)
    branches_in b NoCase earlier h i = tt
    branches_in b (OneCase patterns assigns attributes switches rest) earlier h i =
        (h.0, (after_switches_in b switches (after_assigns assigns b earlier) h.1.1.0 (after_assigns_in assigns b earlier h.1.0 i), branches_in b rest earlier h.1.1.1 i))

  -- a root case
  pub record RootIn (root : CaseView) : Type 0 where
    pub assigns : Each (LinkIn count) root.assigns
    pub switches : SwitchesIn count root.switches

  pub decision_in : (root : CaseView) (b : WireBit) → RootIn root → DecisionIn (case_decision root b)
  decision_in root b h =
      after_switches_in b root.switches (after_assigns root.assigns b (Leaf (Fixed X))) h.switches (after_assigns_in root.assigns b (Leaf (Fixed X)) h.assigns tt)

  mutual
    leaves_in : (f : SigBit → Decision) → ((s : SigBit) → BitIn count s → DecisionIn (f s)) → (d : Decision) → DecisionIn d → DecisionIn (with_leaves f d)
    leaves_in f g (Leaf s) h = g s h
    leaves_in f g (Choice signal branches last) h = (h.0, (branch_leaves_in f g branches h.1.0, leaves_in f g last h.1.1))

    branch_leaves_in : (f : SigBit → Decision) → ((s : SigBit) → BitIn count s → DecisionIn (f s)) → (branches : Branches) → BranchesIn branches → BranchesIn (branches_with_leaves f branches)
    branch_leaves_in f g NoBranch h = tt
    branch_leaves_in f g (OneBranch patterns value rest) h = (h.0, (leaves_in f g value h.1.0, branch_leaves_in f g rest h.1.1))

  within_in : (root : CaseView) (bits : List WireBit) → RootIn root → (n : ℕ) (s : SigBit) → BitIn count s → DecisionIn (expanded_within root bits n s)
  within_in root bits h zero s i = i
  within_in root bits h (suc n) (Fixed c) i = tt
  within_in root bits h (suc n) (OnWire b) i =
      by (has_bit bits b) (leaves_in (expanded_within root bits n) (within_in root bits h n) (case_decision root b) (decision_in root b h))
    where
      by : (t : Bool) → DecisionIn (with_leaves (expanded_within root bits n) (case_decision root b)) → DecisionIn (if t then with_leaves (expanded_within root bits n) (case_decision root b) else Leaf (OnWire b))
      by true j = j
      by false j = i

  pub expanded_in : (root : CaseView) (bits : List WireBit) (s : SigBit) → RootIn root → BitIn count s → DecisionIn (expanded root bits s)
  expanded_in root bits s h i = within_in root bits h _ s i

  -- switches read by the rules
  patterns_in : (signal : List SigBit) (earlier patterns : List (List SigBit)) → Each (SigIn count) patterns → Each (SigIn count) (patterns_left signal earlier patterns)
  patterns_in signal earlier [] h = each_none (SigIn count)
  patterns_in signal earlier (p ∷ ps) h =
      by (is_dropped signal earlier p) (patterns_in signal earlier ps (λ x i. h x (inr i))) (patterns_in signal (with_pattern earlier p) ps (λ x i. h x (inr i)))
    where
      by : (t : Bool) → Each (SigIn count) (patterns_left signal earlier ps) → Each (SigIn count) (patterns_left signal (with_pattern earlier p) ps) → Each (SigIn count) (if t then patterns_left signal earlier ps else p ∷ patterns_left signal (with_pattern earlier p) ps)
      by true i j = i
      by false i j = each_more (SigIn count) p _ (h p (inl refl)) j

  kept_in : (signal : List SigBit) (patterns constants : List (List SigBit)) (case : List (List SigBit) → Cases → Cases) (rest : Cases) → Each (SigIn count) patterns → CasesIn count rest → ((ps : List (List SigBit)) (cs : Cases) → Each (SigIn count) ps → CasesIn count cs → CasesIn count (case ps cs)) → CasesIn count (kept_case signal patterns constants case rest)
  kept_in signal [] constants case rest h i g = i
  kept_in signal (p ∷ ps) constants case rest h i g =
      by (takes_the_rest signal (p ∷ ps) constants)
    where
      by : (t : Bool) → CasesIn count (if t then case [] NoCase else case (p ∷ ps) rest)
      by true = g [] NoCase (each_none (SigIn count)) tt
      by false = g (p ∷ ps) rest h i

  mutual
    rules_in : (switches : Switches) → SwitchesIn count switches → SwitchesIn count (switches_by_rules switches)
    rules_in NoSwitch h = tt
    rules_in (OneSwitch signal attributes cases rest) h = (h.0, (case_rules_in signal [] cases h.1.0, rules_in rest h.1.1))

    case_rules_in : (signal : List SigBit) (earlier : List (List SigBit)) (cases : Cases) → CasesIn count cases → CasesIn count (cases_by_rules signal earlier cases)
    case_rules_in signal earlier NoCase h = tt
    case_rules_in signal earlier (OneCase [] assigns attributes switches rest) h =
        (h.0, (h.1.0, (rules_in switches h.1.1.0, tt)))
    case_rules_in signal earlier (OneCase (p ∷ ps) assigns attributes switches rest) h =
        let left = patterns_left signal earlier (p ∷ ps) in
        let constants = earlier ++ filter is_all_constant left in
        let inner : SwitchesIn count (switches_by_rules switches) = rules_in switches h.1.1.0 in
        kept_in signal left constants (λ ps' behind. OneCase ps' assigns attributes (switches_by_rules switches) behind) (cases_by_rules signal constants rest) (patterns_in signal earlier (p ∷ ps) h.0) (case_rules_in signal constants rest h.1.1.1) (λ ps' cs i j. (i, (h.1.0, (inner, j))))

  pub root_in : (root : CaseView) → RootIn root → RootIn (root_by_rules root)
  root_in root h = record { assigns = h.assigns; switches = rules_in root.switches h.switches }

  -- the bits that assigns name
  mutual
    switches_assigns_in : (switches : Switches) → SwitchesIn count switches → Each (LinkIn count) (switches_assigns switches)
    switches_assigns_in NoSwitch h = each_none (LinkIn count)
    switches_assigns_in (OneSwitch signal attributes cases rest) h =
        each_both (LinkIn count) (cases_assigns cases) (switches_assigns rest) (cases_assigns_in cases h.1.0) (switches_assigns_in rest h.1.1)

    cases_assigns_in : (cases : Cases) → CasesIn count cases → Each (LinkIn count) (cases_assigns cases)
    cases_assigns_in NoCase h = each_none (LinkIn count)
    cases_assigns_in (OneCase patterns assigns attributes switches rest) h =
        each_both (LinkIn count) (assigns ++ switches_assigns switches) (cases_assigns rest) (each_both (LinkIn count) assigns (switches_assigns switches) h.1.0 (switches_assigns_in switches h.1.1.0)) (cases_assigns_in rest h.1.1.1)

  wire_bits_in : (signal : List SigBit) → SigIn count signal → Each WireIn (wire_bits signal)
  wire_bits_in [] h = each_none WireIn
  wire_bits_in (Fixed c ∷ signal) h = wire_bits_in signal (λ x i. h x (inr i))
  wire_bits_in (OnWire b ∷ signal) h =
      each_more WireIn b (wire_bits signal) (h (OnWire b) (inl refl)) (wire_bits_in signal (λ x i. h x (inr i)))

  once_in : (bits : List WireBit) → Each WireIn bits → Each WireIn (each_once bits)
  once_in [] h = each_none WireIn
  once_in (b ∷ bits) h =
      by (has_bit bits b) (once_in bits (λ x i. h x (inr i)))
    where
      by : (t : Bool) → Each WireIn (each_once bits) → Each WireIn (if t then each_once bits else b ∷ each_once bits)
      by true i = i
      by false i = each_more WireIn b (each_once bits) (h b (inl refl)) i

  pub tree_bits_in : (root : CaseView) → RootIn root → Each WireIn (tree_bits root)
  tree_bits_in root h =
      let g = root_in root h in
      let lines : Each (LinkIn count) (case_assigns (root_by_rules root)) = each_both (LinkIn count) root.assigns (switches_assigns (switches_by_rules root.switches)) g.assigns (switches_assigns_in (switches_by_rules root.switches) g.switches) in
      once_in _ (each_flat_map WireIn (λ (l : Link). wire_bits l.left) (case_assigns (root_by_rules root)) (λ l i. wire_bits_in l.left (lines l i).0))

  pub source_in : (js : List Join) (b : WireBit) → Each JoinIn js → OptionIn (source_at js b)
  source_in [] b h = tt
  source_in (j ∷ js) b h =
      by (same_bit j.bit b) (source_in js b (λ x i. h x (inr i)))
    where
      by : (t : Bool) → OptionIn (source_at js b) → OptionIn (if t then Some j.source else source_at js b)
      by true i = (h j (inl refl)).source
      by false i = i
