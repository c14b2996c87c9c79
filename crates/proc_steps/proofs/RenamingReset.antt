-- Resets do not look at the name of a module.
use Rattle.std.proofs.Common.{◌≡◌, ℕ, zero, suc, List, [], ◌∷◌, ◌++◌, false, not, Option, Some, None, if◌then◌else◌, refl, ap, ◌∙◌}
use Rattle.std.specs.Prelude.{◌&&◌, option_map, option_and_then}
use Rattle.std.specs.List.{list_all, list_any}
use Rattle.rtl_sig.specs.declared.sig.SigBit.{SigBit}
use Rattle.rtl_sig.specs.declared.sig.SigBit.TheVariants.{Fixed, Wire as OnWire}
use Rattle.rtl_sig.specs.declared.sig.WireBit.{WireBit}
use Rattle.rtl_ir.specs.declared.module.Link.{Link}
use Rattle.rtl_ir.specs.declared.module.Module.{Module}
use Rattle.rtl_ir.specs.declared.process.Process.{Process}
use Rattle.rtl_ir.specs.declared.process.SyncRule.{SyncRule}
use Rattle.rtl_ir.specs.Assigns.{tree_bits}
use Rattle.rtl_ir.specs.Decisions.{expanded, leaves_of}
use Rattle.rtl_ir.specs.EventTests.{Step, differs, meets, step_at, switch_test, test_within}
use Rattle.rtl_ir.specs.Faults.TwoEdges.{EdgeBit, SwitchTest, are_all, decided, edge_bit, switches_test}
use Rattle.rtl_ir.specs.Follow.{all_joins, follow_joins}
use Rattle.rtl_ir.specs.declared.follow.Join.{Join}
use Rattle.rtl_ir.specs.Rules.{acting_rules}
use Rattle.rtl_ir.specs.Signals.{is_all_constant}
use Rattle.rtl_ir.specs.Types.{Ports}
use Rattle.net_model.specs.Proc.Reset.{are_unread, control_reads, outer_reads, proc_reset_of, reset_by, reset_process, reset_rule, resets_step, switches_at, with_level, with_reset}
use Rattle.proc_steps.proofs.RenamingMux.{under}

module _ (id : List ℕ) (ports : Ports) (m : Module) where
  step_same : (s : SigBit) → step_at ports (under id m) s ≡ step_at ports m s
  step_same (Fixed c) = refl
  step_same (OnWire b) = refl

  test_same : (n : ℕ) (b : WireBit) (s : SigBit) → test_within ports (under id m) n b s ≡ test_within ports m n b s
  test_same zero b s = refl
  test_same (suc n) b s =
      λ i. if meets (all_joins m.links) b s then Some false
      else option_and_then (λ (step : Step). option_map (differs step.inverse) (test_same n b step.input i)) (step_same (follow_joins (all_joins m.links) s) i)

  switch_same : (b : WireBit) (signal : List SigBit) (patterns : List (List SigBit)) → switch_test ports (under id m) b signal patterns ≡ switch_test ports m b signal patterns
  switch_same b [] patterns = refl
  switch_same b (s ∷ []) patterns = λ i. if list_all is_all_constant patterns then test_same 4 b s i else None
  switch_same b (s ∷ t ∷ signal) patterns = refl

  tests : switch_test ports (under id m) ≡ switch_test ports m
  tests = λ i b signal patterns. switch_same b signal patterns i

  -- a process by the tests of its switches
  abbrev leveled : (WireBit → SwitchTest) → List Process → Process → EdgeBit → List Link → Process
  leveled test others p reset lines =
      let leaves : Join → List SigBit = λ (j : Join). leaves_of (decided (test reset.bit) reset.level (expanded p.root (tree_bits p.root) j.source)) in
      record p {
        root =
            if not (list_any (λ (j : Join). are_all j.bit (leaves j)) (all_joins lines)) && (are_unread (tree_bits p.root) (outer_reads ports m others) && are_unread (tree_bits p.root) (control_reads p))
            then record p.root { switches = switches_at (test reset.bit) (not reset.level) p.root.switches }
            else p.root;
        syncs = with_reset reset.bit (reset_rule leaves reset lines) p.syncs;
      }

  level_same : (others : List Process) (p : Process) (reset : EdgeBit) (lines : List Link) → with_level ports (under id m) others p reset lines ≡ with_level ports m others p reset lines
  level_same others p reset lines = ap (λ (test : WireBit → SwitchTest). leveled test others p reset lines) tests

  by_same : (others : List Process) (p : Process) (lines : List Link) (a b : Option EdgeBit) → reset_by ports (under id m) others p lines a b ≡ reset_by ports m others p lines a b
  by_same others p lines None b = refl
  by_same others p lines (Some a) None = refl
  by_same others p lines (Some a) (Some b) =
      λ i. if switches_test (tests i a.bit) p.root.switches then level_same others p a lines i else level_same others p b lines i

  process_same : (others : List Process) (p : Process) (rules : List SyncRule) → reset_process ports (under id m) others p rules ≡ reset_process ports m others p rules
  process_same others p [] = refl
  process_same others p (a ∷ []) = refl
  process_same others p (a ∷ b ∷ []) = by_same others p a.updates (edge_bit a.event) (edge_bit b.event)
  process_same others p (a ∷ b ∷ c ∷ rules) = refl

  resets_same : (before ps : List Process) → resets_step ports (under id m) before ps ≡ resets_step ports m before ps
  resets_same before [] = refl
  resets_same before (p ∷ ps) =
      ap (λ (q : Process). resets_step ports (under id m) (before ++ q ∷ []) ps) (process_same (before ++ ps) p (acting_rules p.syncs))
      ∙ resets_same (before ++ reset_process ports m (before ++ ps) p (acting_rules p.syncs) ∷ []) ps

  pub reset_of_renamed : proc_reset_of ports (under id m) ≡ under id (proc_reset_of ports m)
  reset_of_renamed = λ i. record m { id = id; processes = resets_same [] m.processes i }
