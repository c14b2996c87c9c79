-- What processes keep without their rules that always act: what they drive, and that the check accepts them.
use Rattle.std.proofs.Common.{◌≡◌, ◌≤◌, ◌+◌, Bool, true, false, List, [], ◌∷◌, if◌then◌else◌, ◌⊎◌, inl, inr, refl, sym, ◌∙◌, ap, subst, arith}
use Rattle.std.specs.Prelude.{◌||◌, count_by, flat_map, map, not, ◌==◌, length}
use Rattle.std.specs.List.{list_all, list_any}
use Rattle.std.proofs.lemmas.Bool.{or_parts}
use Rattle.rtl_sig.specs.declared.sig.WireBit.{WireBit}
use Rattle.rtl_ir.specs.Assigns.{case_assigns, tree_bits}
use Rattle.rtl_ir.specs.Decisions.{expanded, leaves_of}
use Rattle.rtl_ir.specs.Faults.Links.{is_uneven}
use Rattle.rtl_ir.specs.Faults.ProcessLimits.{memory_lines, passes_limit, switches_pass, switches_uneven, update_lines}
use Rattle.rtl_ir.specs.Faults.Processes.{has_bad_line}
use Rattle.rtl_ir.specs.Faults.RuleKinds.{rules_stand}
use Rattle.rtl_ir.specs.Faults.TwoEdges.{are_one_constant}
use Rattle.rtl_ir.specs.Follow.{all_joins}
use Rattle.rtl_ir.specs.declared.follow.Join.{Join}
use Rattle.rtl_ir.specs.Rules.{acting_rules, updated_bits, updated_by}
use Rattle.rtl_ir.specs.Signals.{has_constant}
use Rattle.rtl_ir.specs.SwitchRules.{root_by_rules}
use Rattle.rtl_ir.specs.Types.{Ports}
use Rattle.rtl_ir.specs.WritePorts.{EventLine, write_lines}
use Rattle.rtl_ir.specs.declared.module.Link.{Link}
use Rattle.rtl_ir.specs.declared.module.Module.{Module}
use Rattle.rtl_ir.specs.declared.process.Process.{Process}
use Rattle.rtl_ir.specs.declared.process.SyncRule.{SyncRule}
use Rattle.rtl_ir.specs.declared.process.WriteLine.{WriteLine}
use Rattle.net_model.specs.Lists.{In}
use Rattle.net_model.specs.Proc.Latch.{without_always}
use Rattle.pass_laws.proofs.Counting.{count, count_more}
use Rattle.proc_laws.proofs.CountingRules.{driven_checked}
use Rattle.proc_laws.proofs.RebuildProcesses.{IsGoodProcess}
use Rattle.build_laws.specs.Rebuilds.{checked_bits, driven_bits, join_bits, one_rule_bits, rules_bits}
use Rattle.proc_laws.specs.Kinds.{is_edge_rule}
use Rattle.latch_laws.proofs.Rules.{IsLone, StayAll, acting_kept, always_is, fewer, inits_kept, kept, lone_bits, lone_or_all, may_stand_of, none_kept, none_within, one_edge, stand_kept, stays}
use Rattle.latch_laws.proofs.Stepping.{latch_bits}

-- what a process drives: no more than before, with what its latches drive
module _ (x : WireBit) (p : Process) (stand : rules_stand p.syncs ≡ true) where
  abbrev acting : List SyncRule
  acting = acting_rules p.syncs

  abbrev left : Process
  left = without_always p

  -- one rule that always acts goes, and drives what it drove
  lone_left : IsLone acting → acting_rules left.syncs ≡ []
  lone_left l = acting_kept p.syncs ∙ ap kept l.only ∙ none_kept l.rule l.always

  lone_drives : IsLone acting → count x (latch_bits p) ≡ count x (rules_bits acting)
  lone_drives l =
      let js : List Join = all_joins l.rule.updates in
      ap (λ rs. count x (lone_bits rs)) l.only
      ∙ (λ i. count x (if l.always i then join_bits js else []))
      ∙ sym (ap (λ rs. count x (rules_bits rs)) l.only ∙ ap (λ e. count x (one_rule_bits js e)) (always_is l.rule.event l.always))

  all_left : StayAll acting → acting_rules left.syncs ≡ acting
  all_left s = acting_kept p.syncs ∙ s.all

  pub driven_once : count x (latch_bits p) + count x (driven_bits left) ≤ count x (driven_bits p)
  driven_once =
      let a = count_more x (tree_bits p.root) (rules_bits (acting_rules left.syncs)) in
      let b = count_more x (tree_bits p.root) (rules_bits acting) in
      by a b (lone_or_all acting (may_stand_of p.syncs stand))
    where
      by : count x (driven_bits left) ≡ count x (tree_bits p.root) + count x (rules_bits (acting_rules left.syncs))
          → count x (driven_bits p) ≡ count x (tree_bits p.root) + count x (rules_bits acting)
          → IsLone acting ⊎ StayAll acting → count x (latch_bits p) + count x (driven_bits left) ≤ count x (driven_bits p)
      by a b (inl l) =
          let none = ap (λ rs. count x (rules_bits rs)) (lone_left l) in
          omega (arith, a, b, none, lone_drives l)
      by a b (inr s) =
          let same = ap (λ rs. count x (rules_bits rs)) (all_left s) in
          let none = ap (count x) s.none in
          omega (arith, a, b, same, none)

  pub checked_once : count x (latch_bits p) + count x (checked_bits left) ≤ count x (checked_bits p)
  checked_once =
      let a = count_more x (tree_bits p.root) (updated_bits left.syncs) in
      let b = count_more x (tree_bits p.root) (updated_bits p.syncs) in
      let c = count_more x (tree_bits p.root) (rules_bits acting) in
      by a b c (lone_or_all acting (may_stand_of p.syncs stand))
    where
      by : count x (checked_bits left) ≡ count x (tree_bits p.root) + count x (updated_bits left.syncs)
          → count x (checked_bits p) ≡ count x (tree_bits p.root) + count x (updated_bits p.syncs)
          → count x (driven_bits p) ≡ count x (tree_bits p.root) + count x (rules_bits acting)
          → IsLone acting ⊎ StayAll acting → count x (latch_bits p) + count x (checked_bits left) ≤ count x (checked_bits p)
      by a b c (inl l) =
          let none = ap (λ rs. count x (updated_by rs)) (lone_left l) in
          omega (arith, a, c, none, lone_drives l, driven_checked x p)
      by a b c (inr s) =
          let same = ap (λ rs. count x (updated_by rs)) (all_left s) in
          let none = ap (count x) s.none in
          omega (arith, a, b, same, none)

-- the same of processes together
module _ (f : Process → List WireBit) (x : WireBit) where
  pub all_once : (ps : List Process) → ((p : Process) → In p ps → count x (latch_bits p) + count x (f (without_always p)) ≤ count x (f p)) → count x (flat_map latch_bits ps) + count x (flat_map f (map without_always ps)) ≤ count x (flat_map f ps)
  all_once [] h = omega arith
  all_once (p ∷ ps) h =
      let a = count_more x (latch_bits p) (flat_map latch_bits ps) in
      let b = count_more x (f (without_always p)) (flat_map f (map without_always ps)) in
      let c = count_more x (f p) (flat_map f ps) in
      omega (arith, a, b, c, h p (inl refl), all_once ps (λ q i. h q (inr i)))

-- a process that the check accepts is accepted without its rules that always act
pub still_good : (ports : Ports) (m n : Module) (before after : List EventLine) (q : Process) → count_by is_edge_rule (acting_rules q.syncs) ≤ 1 → has_bad_line false n after (write_lines (without_always q)) ≡ false → IsGoodProcess ports m before q → IsGoodProcess ports n after (without_always q)
still_good ports m n before after q few lines g =
    let wide : WriteLine → Bool = λ (l : WriteLine). passes_limit l.value in
    let odd : WriteLine → Bool = λ (l : WriteLine). not (length l.enable == length l.value) in
    let constant : Link → Bool = λ (l : Link). has_constant l.left in
    let first = or_parts (switches_pass q.root.switches) (list_any wide (memory_lines q)) g.narrow in
    let three = or_parts ((switches_uneven q.root.switches || list_any is_uneven (case_assigns q.root)) || list_any is_uneven (update_lines q)) (list_any odd (memory_lines q)) g.even in
    let two = or_parts (switches_uneven q.root.switches || list_any is_uneven (case_assigns q.root)) (list_any is_uneven (update_lines q)) three.0 in
    let sides = or_parts (list_any constant (case_assigns q.root)) (list_any constant (update_lines q)) g.wires in
    let updates : SyncRule → List Link = λ (r : SyncRule). r.updates in
    let writes : SyncRule → List WriteLine = λ (r : SyncRule). r.writes in
    let edges : count_by is_edge_rule (acting_rules (kept q.syncs)) ≤ 1 =
    subst (λ rs. count_by is_edge_rule rs ≤ 1) (sym (acting_kept q.syncs)) (omega (arith, few, fewer is_edge_rule stays (acting_rules q.syncs))) in
    record {
      narrow = λ i. first.0 i || none_within wide writes stays q.syncs first.1 i;
      even = λ i. (two.0 i || none_within is_uneven updates stays q.syncs two.1 i) || none_within odd writes stays q.syncs three.1 i;
      wires = λ i. sides.0 i || none_within constant updates stays q.syncs sides.1 i;
      rules = stand_kept q.syncs g.rules;
      acyclic = g.acyclic;
      starts =
          ap (λ ls. list_all (λ (j : Join). are_one_constant (leaves_of (expanded (root_by_rules q.root) (tree_bits q.root) j.source))) (all_joins ls)) (inits_kept q.syncs)
          ∙ g.starts;
      edges = one_edge ports n (root_by_rules q.root) (tree_bits q.root) (acting_rules (kept q.syncs)) edges;
      lines = lines;
    }
