-- Tests of event bits, over ports by which the same cells are combinational and drive the same.
use Rattle.std.proofs.Common.{◌≡◌, ℕ, zero, suc, false, if◌then◌else◌, Option, Some, None, List, [], ◌∷◌, inl, inr, refl, ◌∙◌, ap}
use Rattle.std.specs.Prelude.{◌&&◌, ◌||◌, not, slice_get}
use Rattle.std.specs.List.{list_all}
use Rattle.std.specs.Option.{option_and_then, option_map}
use Rattle.rtl_sig.specs.declared.sig.SigBit.{SigBit}
use Rattle.rtl_sig.specs.declared.sig.SigBit.TheVariants.{Fixed, Wire as OnWire}
use Rattle.rtl_sig.specs.declared.sig.WireBit.{WireBit}
use Rattle.rtl_ir.specs.declared.cell.Cell.{Cell}
use Rattle.rtl_ir.specs.declared.module.Module.{Module}
use Rattle.rtl_ir.specs.declared.process.Process.{Process}
use Rattle.rtl_ir.specs.declared.process.SyncRule.{SyncRule}
use Rattle.rtl_ir.specs.Assigns.{tree_bits}
use Rattle.rtl_ir.specs.Decisions.{expanded, leaves_of}
use Rattle.rtl_ir.specs.Drivers.{cell_drives, driver_in, Source, FromPort, FromCell, FromLink, FromTree, FromRules}
use Rattle.rtl_ir.specs.EventTests.{Step, cell_in, combinational_kind, differs, meets, step_at, step_through, switch_test, test_within}
use Rattle.rtl_ir.specs.Faults.Processes.{is_bad_process, starts_stand}
use Rattle.rtl_ir.specs.Faults.RuleKinds.{rules_stand}
use Rattle.rtl_ir.specs.Faults.SelfReading.{reads_itself}
use Rattle.rtl_ir.specs.Faults.TwoEdges.{EdgeBit, SwitchTest, is_tested, one_resets, resets_well, are_all, are_one_constant, decided, edge_bit, events_reset, switches_test, two_edges_stand}
use Rattle.rtl_ir.specs.Follow.{all_joins, follow_joins}
use Rattle.rtl_ir.specs.declared.follow.Join.{Join}
use Rattle.rtl_ir.specs.Rules.{acting_rules}
use Rattle.rtl_ir.specs.Signals.{is_all_constant}
use Rattle.rtl_ir.specs.SwitchRules.{root_by_rules}
use Rattle.rtl_ir.specs.Tree.{CaseView}
use Rattle.rtl_ir.specs.Types.{Ports, cell_type}
use Rattle.net_model.specs.Lists.{In}

got_in : (cells : List Cell) (k : ℕ) (c : Cell) → slice_get cells k ≡ Some c → In c cells
got_in [] k c e = absurd cc
got_in (d ∷ cells) zero c e = inl cc
got_in (d ∷ cells) (suc k) c e = inr (got_in cells k c e)

module _ (P Q : Ports) (m : Module) (kinds : (c : Cell) → In c m.cells → combinational_kind (cell_type P c.kind_name) ≡ combinational_kind (cell_type Q c.kind_name))
    (drives : cell_drives P 0 m.cells ≡ cell_drives Q 0 m.cells) where
  abbrev through : Ports → Cell → Option Step
  through ports c = option_and_then (step_through (all_joins m.links) c) (combinational_kind (cell_type ports c.kind_name))

  found_same : (o : Option Cell) → ((c : Cell) → o ≡ Some c → In c m.cells) → option_and_then (through P) o ≡ option_and_then (through Q) o
  found_same None h = refl
  found_same (Some c) h = ap (option_and_then (step_through (all_joins m.links) c)) (kinds c (h c refl))

  cell_there : (o : Option Source) (c : Cell) → option_and_then (cell_in m.cells) o ≡ Some c → In c m.cells
  cell_there None c e = absurd cc
  cell_there (Some FromPort) c e = absurd cc
  cell_there (Some (FromCell cell pin at)) c e = got_in m.cells cell c e
  cell_there (Some (FromLink s)) c e = absurd cc
  cell_there (Some (FromTree process)) c e = absurd cc
  cell_there (Some (FromRules process)) c e = absurd cc

  step_same : (s : SigBit) → step_at P m s ≡ step_at Q m s
  step_same (Fixed c) = refl
  step_same (OnWire b) =
      found_same (option_and_then (cell_in m.cells) (driver_in (cell_drives P 0 m.cells) b)) (cell_there (driver_in (cell_drives P 0 m.cells) b))
      ∙ ap (λ ds. option_and_then (through Q) (option_and_then (cell_in m.cells) (driver_in ds b))) drives

  test_same : (n : ℕ) (b : WireBit) (s : SigBit) → test_within P m n b s ≡ test_within Q m n b s
  test_same zero b s = refl
  test_same (suc n) b s =
      λ i. if meets (all_joins m.links) b s then Some false
      else option_and_then (λ (step : Step). option_map (differs step.inverse) (test_same n b step.input i)) (step_same (follow_joins (all_joins m.links) s) i)

  switch_same : (b : WireBit) (signal : List SigBit) (patterns : List (List SigBit)) → switch_test P m b signal patterns ≡ switch_test Q m b signal patterns
  switch_same b [] patterns = refl
  switch_same b (s ∷ []) patterns = λ i. if list_all is_all_constant patterns then test_same 4 b s i else None
  switch_same b (s ∷ t ∷ signal) patterns = refl

  tests : switch_test P m ≡ switch_test Q m
  tests = λ i b signal patterns. switch_same b signal patterns i

  module _ (root : CaseView) (bits : List WireBit) where
    tested_same : (a : EdgeBit) → is_tested P m root a ≡ is_tested Q m root a
    tested_same a = ap (λ (test : WireBit → SwitchTest). switches_test (test a.bit) root.switches) tests

    resets_same : (updates : List Join) (a : EdgeBit) → resets_well P m root bits updates a ≡ resets_well Q m root bits updates a
    resets_same updates a =
        ap (λ (test : WireBit → SwitchTest). list_all (λ (j : Join). are_one_constant (leaves_of (decided (test a.bit) a.level (expanded root bits j.source))) || are_all j.bit (leaves_of (decided (test a.bit) a.level (expanded root bits j.source)))) updates) tests

    one_same : (updates : List Join) (a b : EdgeBit) → one_resets P m root bits updates a b ≡ one_resets Q m root bits updates a b
    one_same updates a b =
        (λ i. differs (tested_same a i) (tested_same b i) && resets_well P m root bits updates (if tested_same a i then a else b))
        ∙ ap (λ t. differs (is_tested Q m root a) (is_tested Q m root b) && t) (resets_same updates (if is_tested Q m root a then a else b))

    events_same : (updates : List Join) (a b : Option EdgeBit) → events_reset P m root bits updates a b ≡ events_reset Q m root bits updates a b
    events_same updates None b = refl
    events_same updates (Some a) None = refl
    events_same updates (Some a) (Some b) = one_same updates a b

    edges_same : (rules : List SyncRule) → two_edges_stand P m root bits rules ≡ two_edges_stand Q m root bits rules
    edges_same [] = refl
    edges_same (a ∷ []) = refl
    edges_same (a ∷ b ∷ []) = events_same (all_joins a.updates) (edge_bit a.event) (edge_bit b.event)
    edges_same (a ∷ b ∷ c ∷ rules) = refl

  -- a process is a fault over both, or over neither
  pub bad_same : (p : Process) → is_bad_process P m p ≡ is_bad_process Q m p
  bad_same p =
      let root = root_by_rules p.root in
      let bits = tree_bits p.root in
      ap (λ t. not (rules_stand p.syncs) || reads_itself root bits || not (starts_stand root bits p) || not t) (edges_same root bits (acting_rules p.syncs))
