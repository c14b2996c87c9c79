-- A process with two edges writes no memory and starts no bit, before and after; its signals are of wires of the module.
use Rattle.std.proofs.Common.{◌≡◌, ℕ, Bool, true, false, cond, ◌&&◌, ◌||◌, List, [], ◌∷◌, ◌++◌, length, Option, Some, None, inl, inr, ⊎_elim, refl, sym, ◌∙◌, ap, subst}
use Rattle.std.specs.Prelude.{filter, flat_map, if◌then◌else◌, map, not, take, ◌==◌}
use Rattle.std.specs.List.{list_any}
use Rattle.std.proofs.lemmas.Bool.{and_parts, or_parts}
use Rattle.rtl_bits.specs.declared.bit.Bit.{Bit}
use Rattle.rtl_sig.specs.declared.sig.SigBit.{SigBit}
use Rattle.rtl_sig.specs.declared.sig.SigBit.TheVariants.{Fixed}
use Rattle.rtl_ir.specs.Faults.ProcessLimits.{has_uneven, memory_lines, switches_uneven, update_lines}
use Rattle.rtl_ir.specs.Faults.Links.{is_uneven}
use Rattle.rtl_ir.specs.Assigns.{case_assigns}
use Rattle.rtl_ir.specs.Faults.RuleKinds.{AtAll, AtBothEdges, AtEdge, AtLevel, AtStart, AtSteps, RuleKind, is_one_edge, kind_of_event, kinds_of, writes, writes_stand}
use Rattle.rtl_ir.specs.Faults.TwoEdges.{SwitchTest, are_one_constant, cases_patterns, tested_bit}
use Rattle.rtl_ir.specs.Flat.Start.{process_starts}
use Rattle.rtl_ir.specs.declared.follow.Join.{Join}
use Rattle.rtl_ir.specs.Rules.{acting_rules, has_item, has_line, init_lines, is_init}
use Rattle.rtl_ir.specs.Tree.{Cases, NoCase, NoSwitch, OneCase, OneSwitch, Switches}
use Rattle.rtl_ir.specs.declared.process.Process.{Process}
use Rattle.rtl_ir.specs.declared.process.SyncRule.{SyncRule}
use Rattle.rtl_ir.specs.declared.process.WriteLine.{WriteLine}
use Rattle.net_model.proofs.Members.{In-cases, In-mapped}
use Rattle.net_model.specs.Lists.{In}
use Rattle.net_model.specs.Proc.Reset.{cases_at, is_taken, reset_places, switches_at}
use Rattle.net_model.specs.Within.{CasesIn, Each, SwitchesIn}
use Rattle.reset_laws.proofs.AfterPlaces.{constant_leaves}
use Rattle.reset_laws.proofs.ChoiceEven.{EvenSwitches, even_from}
use Rattle.reset_laws.proofs.FrameRows.{WriteNothing}
use Rattle.reset_laws.proofs.FreeReads.{in_acting}
use Rattle.build_laws.proofs.Staying.{starts_by}

two_not_one : (k l : RuleKind) → is_one_edge (k ∷ l ∷ []) ≡ false
two_not_one AtEdge l = refl
two_not_one AtLevel l = refl
two_not_one AtBothEdges l = refl
two_not_one AtSteps l = refl
two_not_one AtAll l = refl
two_not_one AtStart l = refl

none_any : (test : SyncRule → Bool) (rules : List SyncRule) → list_any test rules ≡ false → (r : SyncRule) → In r rules → test r ≡ false
none_any test [] e r i = absurd i
none_any test (z ∷ rules) e r (inl f) = ap test f ∙ (or_parts (test z) (list_any test rules) e).0
none_any test (z ∷ rules) e r (inr i) = none_any test rules (or_parts (test z) (list_any test rules) e).1 r i

-- no rule of such a process writes
pub race_writes : (rules : List SyncRule) (a b : SyncRule) → acting_rules rules ≡ a ∷ b ∷ [] → writes_stand rules ≡ true → WriteNothing rules
race_writes rules a b acting stand r i = by (has_item r.writes) refl
  where
    parts : (not (list_any (λ (z : SyncRule). is_init z.event && writes z) rules) ≡ true) × ((not (list_any writes (acting_rules rules)) || is_one_edge (kinds_of (acting_rules rules))) ≡ true)
    parts = and_parts (not (list_any (λ (z : SyncRule). is_init z.event && writes z) rules)) (not (list_any writes (acting_rules rules)) || is_one_edge (kinds_of (acting_rules rules))) stand

    not_true : (t : Bool) → not t ≡ true → t ≡ false
    not_true true e = absurd (cc)
    not_true false e = refl

    or_false : (t : Bool) → (not t || false) ≡ true → t ≡ false
    or_false true e = absurd (cc)
    or_false false e = refl

    starts : (is_init r.event && writes r) ≡ false
    starts = none_any (λ (z : SyncRule). is_init z.event && writes z) rules (not_true (list_any (λ (z : SyncRule). is_init z.event && writes z) rules) parts.0) r i

    acts : list_any writes (acting_rules rules) ≡ false
    acts =
        or_false (list_any writes (acting_rules rules))
        (ap (λ t. not (list_any writes (acting_rules rules)) || t) (sym (ap (λ z. is_one_edge (kinds_of z)) acting ∙ two_not_one (kind_of_event a.event) (kind_of_event b.event))) ∙ parts.1)

    nothing : (xs : List WriteLine) → has_item xs ≡ false → xs ≡ []
    nothing [] e = refl
    nothing (x ∷ xs) e = absurd (cc)

    line : has_item r.writes ≡ true → has_line r ≡ true
    line e = always (has_item r.updates) (has_item r.writes) e
      where
        always : (t u : Bool) → u ≡ true → (t || u) ≡ true
        always true u f = refl
        always false u f = f

    by : (t : Bool) → has_item r.writes ≡ t → r.writes ≡ []
    by false e = nothing r.writes e
    by true e = at (is_init r.event) refl
      where
        at : (t : Bool) → is_init r.event ≡ t → r.writes ≡ []
        at true f = absurd (let no : true ≡ false = (λ k. sym f k && sym e k) ∙ starts in cc)
        at false f =
            let j = in_acting rules r i (λ k. line e k && not (f k)) in
            absurd (let no : true ≡ false = sym e ∙ none_any writes (acting_rules rules) acts r j in cc)

-- rules that give no start values
pub no_begin : (rules : List SyncRule) → Each (λ (r : SyncRule). is_init r.event ≡ false) rules → init_lines rules ≡ []
no_begin [] k = refl
no_begin (r ∷ rules) k =
    ap (λ t. flat_map (λ (z : SyncRule). z.updates) (cond t (r ∷ filter (λ (z : SyncRule). is_init z.event) rules) (filter (λ (z : SyncRule). is_init z.event) rules))) (k r (inl refl))
    ∙ no_begin rules (λ z i. k z (inr i))

pub none_begun : (s : Process) → Each (λ (r : SyncRule). is_init r.event ≡ false) s.syncs → process_starts s ≡ []
none_begun s h = ap (starts_by s) (no_begin s.syncs h)

pub even_of : (q : Process) → has_uneven q ≡ false → EvenSwitches q.root.switches
even_of q e =
    let a = or_parts ((switches_uneven q.root.switches || list_any is_uneven (case_assigns q.root)) || list_any is_uneven (update_lines q)) (list_any (λ (l : WriteLine). not (length l.enable == length l.value)) (memory_lines q)) e in
    let b = or_parts (switches_uneven q.root.switches || list_any is_uneven (case_assigns q.root)) (list_any is_uneven (update_lines q)) a.0 in
    even_from q.root.switches (or_parts (switches_uneven q.root.switches) (list_any is_uneven (case_assigns q.root)) b.0).0

-- trees with tests decided
module _ (n : ℕ) (test : SwitchTest) (level : Bool) where
  mutual
    pub switches_at_in : (switches : Switches) → SwitchesIn n switches → SwitchesIn n (switches_at test level switches)
    switches_at_in NoSwitch h = tt
    switches_at_in (OneSwitch signal attributes cases rest) h =
        (h.0, (cases_at_in (test signal (cases_patterns cases)) cases h.1.0, switches_at_in rest h.1.1))

    cases_at_in : (o : Option Bool) (cases : Cases) → CasesIn n cases → CasesIn n (cases_at test level o cases)
    cases_at_in o NoCase h = tt
    cases_at_in None (OneCase patterns assigns attributes switches rest) h =
        (h.0, (h.1.0, (switches_at_in switches h.1.1.0, cases_at_in None rest h.1.1.1)))
    cases_at_in (Some inverse) (OneCase patterns assigns attributes switches rest) h =
        by (is_taken (tested_bit level inverse) patterns) (switches_at_in switches h.1.1.0) (cases_at_in (Some inverse) rest h.1.1.1)
      where
        by : (t : Bool) → SwitchesIn n (switches_at test level switches) → CasesIn n (cases_at test level (Some inverse) rest) → CasesIn n (if t then OneCase [] assigns attributes (switches_at test level switches) NoCase else cases_at test level (Some inverse) rest)
        by true i j = ((λ x k. absurd k), (h.1.0, (i, tt)))
        by false i j = j

-- the places of the reset's rule
pub place_fixed : (leaves : Join → List SigBit) (js : List Join) (k : Join) → In k (reset_places leaves js) → (c : Bit) × (k.source ≡ Fixed c)
place_fixed leaves [] k i = absurd i
place_fixed leaves (j ∷ js) k i = by (are_one_constant (leaves j)) refl i (place_fixed leaves js k)
  where
    by : (t : Bool) → are_one_constant (leaves j) ≡ t → In k (if t then map (λ s. record { bit = j.bit; source = s }) (take 1 (leaves j)) ++ reset_places leaves js else reset_places leaves js) → (In k (reset_places leaves js) → (c : Bit) × (k.source ≡ Fixed c)) → (c : Bit) × (k.source ≡ Fixed c)
    by false e l go = go l
    by true e l go =
        ⊎_elim
        (λ h. let is = constant_leaves (leaves j) e in
        let z = In-mapped (λ (s : SigBit). record { bit = j.bit; source = s }) k (take 1 (leaves j)) h in
        let first : take 1 (leaves j) ≡ Fixed is.value ∷ [] = ap (take 1) is.first in
        let y = subst (In z.0) first z.1 in
        (is.value, ap (λ (x : Join). x.source) z.2 ∙ ⊎_elim (λ f. f) (λ f. absurd f) y))
        go
        (In-cases k (map (λ s. record { bit = j.bit; source = s }) (take 1 (leaves j))) (reset_places leaves js) l)
