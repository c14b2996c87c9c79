-- The steps of `proc` before the flip-flops keep what is so of each line that writes.
use Rattle.std.proofs.Common.{Bool, true, false, if◌then◌else◌, List, [], ◌∷◌, ◌++◌, Option, Some, None, inl, inr, refl, sym, subst}
use Rattle.std.specs.Prelude.{◌&&◌, map, not}
use Rattle.rtl_sig.specs.declared.sig.WireBit.{WireBit}
use Rattle.rtl_ir.specs.Assigns.{tree_bits}
use Rattle.rtl_ir.specs.Faults.TwoEdges.{EdgeBit, edge_bit, is_tested}
use Rattle.rtl_ir.specs.Rules.{acting_rules, has_line, is_init}
use Rattle.rtl_ir.specs.Types.{Ports}
use Rattle.rtl_ir.specs.declared.module.Link.{Link}
use Rattle.rtl_ir.specs.declared.module.Module.{Module}
use Rattle.rtl_ir.specs.declared.process.Process.{Process}
use Rattle.rtl_ir.specs.declared.process.SyncRule.{SyncRule}
use Rattle.net_model.proofs.Members.{In-mapped}
use Rattle.net_model.proofs.Ranges.{each_both, each_filter, each_more, each_none}
use Rattle.net_model.specs.Proc.Latch.{is_always, proc_latch_of, without_always}
use Rattle.net_model.specs.Proc.Reset.{active_leaves, is_edge_of, proc_reset_of, reset_by, reset_process, reset_rule, resets_step, with_level, with_reset}
use Rattle.net_model.specs.Proc.Start.{proc_tree_of, ruled_process}
use Rattle.net_model.specs.Within.{Each}
use Rattle.readable_passes.specs.Named.{IsNamed, NamesMemories}

-- the lines of a rule
abbrev RuleNames : SyncRule → Type 0
RuleNames r = Each IsNamed r.writes

abbrev ProcessNames : Process → Type 0
ProcessNames p = Each RuleNames p.syncs

each_mapped : (f : Process → Process) → ((p : Process) → ProcessNames p → ProcessNames (f p)) → (ps : List Process) → Each ProcessNames ps → Each ProcessNames (map f ps)
each_mapped f g ps h q i =
    let k = In-mapped f q ps i in subst ProcessNames (sym k.2) (g k.0 (h k.0 k.1))

pub tree_names : (m : Module) → NamesMemories m → NamesMemories (proc_tree_of m)
tree_names m h =
    each_mapped ruled_process (λ p g. each_filter RuleNames (λ (r : SyncRule). not (is_init r.event)) p.syncs g) m.processes h

pub latch_names : (m : Module) → NamesMemories m → NamesMemories (proc_latch_of m)
latch_names m h =
    each_mapped without_always (λ p g. each_filter RuleNames (λ (r : SyncRule). if is_always r.event then false else true) p.syncs g) m.processes h

-- a rule that writes nothing in the place of another
reset_rules : (b : WireBit) (rule : SyncRule) → RuleNames rule → (rules : List SyncRule) → Each RuleNames rules → Each RuleNames (with_reset b rule rules)
reset_rules b rule none [] h = each_none RuleNames
reset_rules b rule none (r ∷ rules) h =
    by (has_line r && is_edge_of b (edge_bit r.event)) (reset_rules b rule none rules (λ x i. h x (inr i)))
  where
    by : (t : Bool) → Each RuleNames (with_reset b rule rules) → Each RuleNames ((if t then rule else r) ∷ with_reset b rule rules)
    by true k = each_more RuleNames rule (with_reset b rule rules) none k
    by false k = each_more RuleNames r (with_reset b rule rules) (h r (inl refl)) k

module _ (ports : Ports) (m : Module) where
  level_names : (others : List Process) (p : Process) (reset : EdgeBit) (lines : List Link) → ProcessNames p → ProcessNames (with_level ports m others p reset lines)
  level_names others p reset lines h =
      reset_rules reset.bit (reset_rule (active_leaves ports m p.root (tree_bits p.root) reset) reset lines) (each_none IsNamed) p.syncs h

  by_names : (others : List Process) (p : Process) (lines : List Link) (a b : Option EdgeBit) → ProcessNames p → ProcessNames (reset_by ports m others p lines a b)
  by_names others p lines (Some a) (Some b) h = by (is_tested ports m p.root a)
    where
      by : (t : Bool) → ProcessNames (if t then with_level ports m others p a lines else with_level ports m others p b lines)
      by true = level_names others p a lines h
      by false = level_names others p b lines h
  by_names others p lines (Some a) None h = h
  by_names others p lines None b h = h

  process_names : (others : List Process) (p : Process) (rules : List SyncRule) → ProcessNames p → ProcessNames (reset_process ports m others p rules)
  process_names others p (a ∷ b ∷ []) h = by_names others p a.updates (edge_bit a.event) (edge_bit b.event) h
  process_names others p [] h = h
  process_names others p (a ∷ []) h = h
  process_names others p (a ∷ b ∷ c ∷ rules) h = h

  resets_names : (before ps : List Process) → Each ProcessNames before → Each ProcessNames ps → Each ProcessNames (resets_step ports m before ps)
  resets_names before [] h k = h
  resets_names before (p ∷ ps) h k =
      let here : Process = reset_process ports m (before ++ ps) p (acting_rules p.syncs) in
      resets_names (before ++ here ∷ []) ps
      (each_both ProcessNames before (here ∷ []) h (each_more ProcessNames here [] (process_names (before ++ ps) p (acting_rules p.syncs) (k p (inl refl))) (each_none ProcessNames)))
      (λ q i. k q (inr i))

pub reset_names : (ports : Ports) (m : Module) → NamesMemories m → NamesMemories (proc_reset_of ports m)
reset_names ports m h = resets_names ports m [] m.processes (each_none ProcessNames) h
