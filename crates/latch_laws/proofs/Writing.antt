-- The lines that write stay, and with them what the check says of all processes.
use Rattle.std.proofs.Common.{◌≡◌, ◌≤◌, Bool, true, false, List, [], ◌∷◌, ◌++◌, if◌then◌else◌, ◌⊎◌, inl, inr, refl, sym, ◌∙◌, ap, subst}
use Rattle.std.specs.Prelude.{◌&&◌, ◌||◌, count_by, flat_map, map, not}
use Rattle.std.specs.List.{list_all, list_any}
use Rattle.std.proofs.lemmas.Bool.{and_parts, or_parts}
use Rattle.std.proofs.lemmas.Grind.{flat_map-append}
use Rattle.rtl_ir.specs.Faults.Processes.{faults_of_process, has_bad_line, process_faults}
use Rattle.rtl_ir.specs.Faults.RuleKinds.{is_one_edge, kind_of_event, kinds_of, edges_agree, has_one_bit, may_stand, rules_stand, writes, writes_stand}
use Rattle.rtl_ir.specs.Rules.{acting_rules, has_item, has_line, is_init}
use Rattle.rtl_ir.specs.Scope.{with_processes}
use Rattle.rtl_ir.specs.Types.{Ports}
use Rattle.rtl_ir.specs.WritePorts.{EventLine, write_lines}
use Rattle.rtl_ir.specs.declared.module.Module.{Module}
use Rattle.rtl_ir.specs.declared.process.Process.{Process}
use Rattle.rtl_ir.specs.declared.process.SyncRule.{SyncRule}
use Rattle.rtl_ir.specs.declared.process.WriteLine.{WriteLine}
use Rattle.net_model.proofs.Members.{map-append}
use Rattle.net_model.specs.Lists.{In}
use Rattle.net_model.specs.Proc.Latch.{is_always, without_always}
use Rattle.net_model.specs.Within.{Each}
use Rattle.pass_laws.proofs.Faultless.{none_left, none_right}
use Rattle.proc_laws.proofs.RebuildProcesses.{IsGoodProcess, good_of, of_good}
use Rattle.proc_laws.specs.Kinds.{is_edge_rule}
use Rattle.latch_laws.proofs.Kept.{still_good}
use Rattle.latch_laws.proofs.Rules.{IsLone, StayAll, always_is, kept, lone_or_all, may_stand_of, not_always, passed, stays}

-- the lines of a rule that write
abbrev rule_lines : SyncRule → List EventLine
rule_lines r = map (λ (l : WriteLine). record { event = r.event; line = l }) r.writes

no_lines : (r : SyncRule) → writes r ≡ false → rule_lines r ≡ []
no_lines r e = ap (map (λ (l : WriteLine). record { event = r.event; line = l })) (empty r.writes e)
  where
    empty : (ls : List WriteLine) → has_item ls ≡ false → ls ≡ []
    empty [] f = refl
    empty (l ∷ ls) f = absurd (cc)

-- what acts passes the filter of those that act
into : (rules : List SyncRule) (r : SyncRule) → In r rules → (has_line r && not (is_init r.event)) ≡ true → In r (acting_rules rules)
into [] r i e = absurd i
into (x ∷ rules) r i e = by (has_line x && not (is_init x.event)) refl i (into rules r)
  where
    by : (t : Bool) → (has_line x && not (is_init x.event)) ≡ t → In r (x ∷ rules) → (In r rules → (has_line r && not (is_init r.event)) ≡ true → In r (acting_rules rules)) → In r (if t then x ∷ acting_rules rules else acting_rules rules)
    by true f (inl g) later = inl g
    by true f (inr j) later = inr (later j e)
    by false f (inl g) later = absurd (cc (e, f, ap (λ (y : SyncRule). has_line y && not (is_init y.event)) g))
    by false f (inr j) later = later j e

module _ (rules : List SyncRule) (stand : rules_stand rules ≡ true) where
  abbrev acting : List SyncRule
  acting = acting_rules rules

  -- a rule that always acts writes nothing
  lone_writes : IsLone acting → (r : SyncRule) → In r acting → writes r ≡ false
  lone_writes l r i =
      let three = and_parts ((may_stand (kinds_of acting) && edges_agree acting) && list_all (λ (x : SyncRule). has_one_bit x.event) acting) (writes_stand rules) stand in
      let two = and_parts (not (list_any (λ (x : SyncRule). is_init x.event && writes x) rules)) (not (list_any writes acting) || is_one_edge (kinds_of acting)) three.1 in
      let one : (not (list_any writes (l.rule ∷ [])) || is_one_edge (kind_of_event l.rule.event ∷ [])) ≡ true = subst (λ rs. (not (list_any writes rs) || is_one_edge (kinds_of rs)) ≡ true) l.only two.1 in
      let here : (not (writes l.rule || false) || false) ≡ true = subst (λ e. (not (list_any writes (l.rule ∷ [])) || is_one_edge (kind_of_event e ∷ [])) ≡ true) (always_is l.rule.event l.always) one in
      ap writes (only (subst (In r) l.only i)) ∙ by (writes l.rule) here
    where
      only : In r (l.rule ∷ []) → r ≡ l.rule
      only (inl e) = e
      only (inr j) = absurd j

      by : (t : Bool) → (not (t || false) || false) ≡ true → t ≡ false
      by true f = absurd (cc)
      by false f = refl

  -- none of several acts always
  none_always : StayAll acting → (r : SyncRule) → In r acting → is_always r.event ≡ true → ⊥
  none_always s r i e =
      let k = passed stays acting r (subst (In r) (sym s.all) i) in
      absurd (cc (e, not_always (is_always r.event) k.1))

  always_writes : (r : SyncRule) → In r rules → is_always r.event ≡ true → writes r ≡ false
  always_writes r i e = by (has_line r) refl
    where
      starts : is_init r.event ≡ false
      starts = ap is_init (always_is r.event e)

      by_acting : In r acting → IsLone acting ⊎ StayAll acting → writes r ≡ false
      by_acting j (inl l) = lone_writes l r j
      by_acting j (inr s) = absurd (none_always s r j e)

      by : (t : Bool) → has_line r ≡ t → writes r ≡ false
      by true f = by_acting (into rules r i (λ k. f k && not (starts k))) (lone_or_all acting (may_stand_of rules stand))
      by false f = (or_parts (has_item r.updates) (writes r) f).1

all_lines : (rules : List SyncRule) → ((r : SyncRule) → In r rules → is_always r.event ≡ true → writes r ≡ false) → flat_map rule_lines (kept rules) ≡ flat_map rule_lines rules
all_lines [] h = refl
all_lines (r ∷ rules) h = by (is_always r.event) refl (all_lines rules (λ x i. h x (inr i)))
  where
    by : (t : Bool) → is_always r.event ≡ t → flat_map rule_lines (kept rules) ≡ flat_map rule_lines rules → flat_map rule_lines (if (if t then false else true) then r ∷ kept rules else kept rules) ≡ rule_lines r ++ flat_map rule_lines rules
    by true e f = f ∙ sym (ap (λ z. z ++ flat_map rule_lines rules) (no_lines r (h r (inl refl) e)))
    by false e f = ap (λ z. rule_lines r ++ z) f

pub lines_kept : (p : Process) → rules_stand p.syncs ≡ true → write_lines (without_always p) ≡ write_lines p
lines_kept p stand = all_lines p.syncs (always_writes p.syncs stand)

-- the check accepts the processes that are left, where lines have the same faults
module _ (ports : Ports) (m n : Module) (alike : (before ls : List EventLine) → has_bad_line false n before ls ≡ has_bad_line false m before ls) where
  pub all_good : (earlier qs : List Process) → flat_map write_lines (map without_always earlier) ≡ flat_map write_lines earlier → Each (λ (p : Process). count_by is_edge_rule (acting_rules p.syncs) ≤ 1) qs → process_faults with_processes ports m earlier qs ≡ [] → process_faults with_processes ports n (map without_always earlier) (map without_always qs) ≡ []
  all_good earlier [] same few e = refl
  all_good earlier (q ∷ qs) same few e =
      let good : IsGoodProcess ports m (flat_map write_lines earlier) q = good_of ports m earlier q (none_left (faults_of_process with_processes ports m earlier q) (process_faults with_processes ports m (earlier ++ q ∷ []) qs) e) in
      let stay = lines_kept q good.rules in
      let fine : has_bad_line false n (flat_map write_lines (map without_always earlier)) (write_lines (without_always q)) ≡ false = (λ i. has_bad_line false n (same i) (stay i)) ∙ alike (flat_map write_lines earlier) (write_lines q) ∙ good.lines in
      let here = of_good ports n (map without_always earlier) (without_always q) (still_good ports m n (flat_map write_lines earlier) (flat_map write_lines (map without_always earlier)) q (few q (inl refl)) fine good) in
      let front : map without_always (earlier ++ q ∷ []) ≡ map without_always earlier ++ without_always q ∷ [] = map-append without_always earlier (q ∷ []) in
      let later : flat_map write_lines (map without_always (earlier ++ q ∷ [])) ≡ flat_map write_lines (earlier ++ q ∷ []) =
      ap (flat_map write_lines) front
      ∙ flat_map-append write_lines (map without_always earlier) (without_always q ∷ [])
      ∙ (λ i. same i ++ (stay i ++ []))
      ∙ sym (flat_map-append write_lines earlier (q ∷ [])) in
      let rest = all_good (earlier ++ q ∷ []) qs later (λ p i. few p (inr i)) (none_right (faults_of_process with_processes ports m earlier q) (process_faults with_processes ports m (earlier ++ q ∷ []) qs) e) in
      λ i. here i ++ (ap (λ ps. process_faults with_processes ports n ps (map without_always qs)) (sym front) ∙ rest) i
