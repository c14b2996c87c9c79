-- The rows of processes are the module's own.
use Rattle.std.proofs.Common.{Bool, true, false, List, [], ◌∷◌, Option, Some, None, refl}
use Rattle.std.specs.Prelude.{map, filter, not, if◌then◌else◌}
use Rattle.std.specs.Option.{is_some}
use Rattle.rtl_bits.specs.declared.bit.Bit.{Bit}
use Rattle.rtl_sig.specs.declared.sig.SigBit.{SigBit}
use Rattle.rtl_sig.specs.declared.sig.SigBit.TheVariants.{Wire as OnWire}
use Rattle.rtl_sig.specs.declared.sig.WireBit.{WireBit}
use Rattle.rtl_ir.specs.declared.module.Module.{Module}
use Rattle.rtl_ir.specs.declared.process.Event.{Event}
use Rattle.rtl_ir.specs.declared.process.Event.TheVariants.{Low, High, Posedge, Negedge, Edge, Global, Init, Always}
use Rattle.rtl_ir.specs.declared.process.Process.{Process}
use Rattle.rtl_ir.specs.declared.process.SyncRule.{SyncRule}
use Rattle.rtl_ir.specs.declared.wire.Wire.{Wire}
use Rattle.rtl_ir.specs.Assigns.{tree_bits}
use Rattle.rtl_ir.specs.Decisions.{Decision, Leaf, Choice, Branches, NoBranch, OneBranch, case_decision, expanded}
use Rattle.rtl_ir.specs.EventTests.{switch_test}
use Rattle.rtl_ir.specs.Faults.TwoEdges.{SwitchTest, branch_patterns, EdgeBit, edge_bit, is_tested}
use Rattle.rtl_ir.specs.Flat.Driver.{Held, Joined}
use Rattle.rtl_ir.specs.Flat.Pick.{Pick, where_of, pick_of, picks_of, no_test, pick_points}
use Rattle.rtl_ir.specs.Flat.Place.{Path}
use Rattle.rtl_ir.specs.Flat.Point.{point, points, bit_place}
use Rattle.rtl_ir.specs.Flat.Process.{no_modules, Trigger, edge_trigger, level_trigger, may_hold, event_point, global_rows, edge_row, level_row, loaded_row, loaded_rows, always_row, raced_row, raced_rows, one_rule_rows, two_rules_rows, rules_rows, process_rows, processes_rows, pair_by}
use Rattle.rtl_ir.specs.Flat.Reads.{read_points}
use Rattle.rtl_ir.specs.Follow.{all_joins, source_at}
use Rattle.rtl_ir.specs.declared.follow.Join.{Join}
use Rattle.rtl_ir.specs.Rules.{acting_rules}
use Rattle.rtl_ir.specs.SwitchRules.{root_by_rules}
use Rattle.rtl_ir.specs.Tree.{CaseView}
use Rattle.net_model.proofs.Own.{IsOwn, AreOwn, IsOwnRow, AreOwnRows, own_at, own_append, own_point, own_points, own_patterns, own_both, own_map, own_if}

module _ (p : Path) (wires : List Wire) where
  where_own : (o : Option Bool) (signal : List SigBit) (patterns : List (List SigBit)) (met other : Pick) → AreOwn p (pick_points met) → AreOwn p (pick_points other) → AreOwn p (pick_points (where_of o (points p wires signal) (map (points p wires) patterns) met other))
  where_own None signal patterns met other h i =
      own_append p (points p wires signal) _ (own_points p wires signal) (own_append p _ _ (own_patterns p wires patterns) (own_append p (pick_points met) (pick_points other) h i))
  where_own (Some inverse) signal patterns met other h i =
      own_append p _ _ (own_patterns p wires patterns) (own_append p (pick_points met) (pick_points other) h i)

  mutual
    pub pick_own : (test : SwitchTest) (d : Decision) → AreOwn p (pick_points (pick_of test p wires d))
    pick_own test (Leaf s) = (own_point p wires s, tt)
    pick_own test (Choice signal branches last) =
        picks_own test (test signal (branch_patterns branches)) signal branches (pick_of test p wires last) (pick_own test last)

    picks_own : (test : SwitchTest) (o : Option Bool) (signal : List SigBit) (branches : Branches) (last : Pick) → AreOwn p (pick_points last) → AreOwn p (pick_points (picks_of test p wires o signal branches last))
    picks_own test o signal NoBranch last h = h
    picks_own test o signal (OneBranch [] value rest) last h = pick_own test value
    picks_own test o signal (OneBranch (first ∷ patterns) value rest) last h =
        where_own o signal (first ∷ patterns) (pick_of test p wires value) (picks_of test p wires o signal rest last) (pick_own test value) (picks_own test o signal rest last h)

module _ (start : SigBit → Bit) (p : Path) (wires : List Wire) where
  event_own : (signal : List SigBit) → IsOwn p (event_point start p wires signal)
  event_own signal = own_at p (points p wires signal) (own_points p wires signal) 0

  edge_own : (e : Trigger) (j : Join) → IsOwnRow p (edge_row start p wires e j)
  edge_own e j = record {
    place = refl;
    read = (refl, (event_own e.signal, (tt, (tt, (tt, (tt, (tt, (tt, (tt, (own_point p wires j.source, tt))))))))));
  }

  level_own : (l : Trigger) (j : Join) → IsOwnRow p (level_row start p wires l j)
  level_own l j = record {
    place = refl;
    read = (refl, (tt, (event_own l.signal, (tt, (tt, (tt, (tt, (tt, (tt, (own_point p wires j.source, tt))))))))));
  }

  loaded_own : (e l : Trigger) (o : Option SigBit) (j : Join) → IsOwnRow p (loaded_row start p wires e l o j)
  loaded_own e l None j = edge_own e j
  loaded_own e l (Some load) j = record {
    place = refl;
    read = (refl, (event_own e.signal, (tt, (tt, (tt, (event_own l.signal, (own_point p wires load, (tt, (tt, (own_point p wires j.source, tt))))))))));
  }

  loaded_rows_own : (e : Trigger) (edges : List Join) (l : Trigger) (levels : List Join) → AreOwnRows p (loaded_rows start p wires e edges l levels)
  loaded_rows_own e edges l levels =
      own_both p _ _
      (own_map p (λ (j : Join). loaded_row start p wires e l (source_at levels j.bit) j) (λ j. loaded_own e l (source_at levels j.bit) j) edges)
      (own_map p (level_row start p wires l) (level_own l) (filter (λ (j : Join). not (is_some (source_at edges j.bit))) levels))

  always_own : (root : CaseView) (bits : List WireBit) (j : Join) → IsOwnRow p (always_row start p wires root bits j)
  always_own root bits j = record { place = refl; read = by (may_hold root bits j) }
    where
      by : (t : Bool) → AreOwn p (read_points (if t then Held (start (OnWire j.bit)) (point p wires j.source) (pick_of no_test p wires (expanded root bits j.source)) (bit_place p wires j.bit) else Joined (point p wires j.source)))
      by true = (refl, (own_point p wires j.source, pick_own p wires no_test (expanded root bits j.source)))
      by false = (own_point p wires j.source, tt)

  raced_own : (m : Module) (root : CaseView) (bits : List WireBit) (clock reset : EdgeBit) (j : Join) → IsOwnRow p (raced_row start p wires m root bits clock reset j)
  raced_own m root bits clock reset j = record {
    place = refl;
    read = (refl, (refl, (refl, pick_own p wires (switch_test no_modules m reset.bit) (expanded root bits j.source))));
  }

  raced_rows_own : (m : Module) (root : CaseView) (bits : List WireBit) (updates : List Join) (a b : Option EdgeBit) → AreOwnRows p (raced_rows start p wires m root bits updates a b)
  raced_rows_own m root bits updates (Some a) (Some b) =
      own_if p (is_tested no_modules m root a) _ _
      (own_map p (raced_row start p wires m root bits b a) (raced_own m root bits b a) updates)
      (own_map p (raced_row start p wires m root bits a b) (raced_own m root bits a b) updates)
  raced_rows_own m root bits updates a b = λ x i. absurd i

  global_own : (updates : List Join) → AreOwnRows p (global_rows start p wires updates)
  global_own updates =
      own_map p _ (λ j. record { place = refl; read = (refl, (tt, (tt, (tt, (tt, (tt, (tt, (tt, (tt, (own_point p wires j.source, tt)))))))))) }) updates

  one_own : (root : CaseView) (bits : List WireBit) (updates : List Join) (event : Event) → AreOwnRows p (one_rule_rows start p wires root bits updates event)
  one_own root bits updates Always = own_map p (always_row start p wires root bits) (always_own root bits) updates
  one_own root bits updates Global = global_own updates
  one_own root bits updates (Posedge signal) = own_map p (edge_row start p wires _) (edge_own _) updates
  one_own root bits updates (Negedge signal) = own_map p (edge_row start p wires _) (edge_own _) updates
  one_own root bits updates (High signal) = own_map p (level_row start p wires _) (level_own _) updates
  one_own root bits updates (Low signal) = own_map p (level_row start p wires _) (level_own _) updates
  one_own root bits updates (Edge signal) = λ x i. absurd i
  one_own root bits updates Init = λ x i. absurd i

  two_own : (m : Module) (root : CaseView) (bits : List WireBit) (a b : SyncRule) (e e' l l' : Option Trigger) → AreOwnRows p (two_rules_rows start p wires m root bits (pair_by a b e e' l l'))
  two_own m root bits a b (Some e) edge level (Some l) = loaded_rows_own e (all_joins a.updates) l (all_joins b.updates)
  two_own m root bits a b edge (Some e) (Some l) level = loaded_rows_own e (all_joins b.updates) l (all_joins a.updates)
  two_own m root bits a b edge edge' level level' =
      raced_rows_own m root bits (all_joins a.updates) (edge_bit a.event) (edge_bit b.event)

  rules_own : (m : Module) (root : CaseView) (bits : List WireBit) (rules : List SyncRule) → AreOwnRows p (rules_rows start p wires m root bits rules)
  rules_own m root bits [] = λ x i. absurd i
  rules_own m root bits (a ∷ []) = one_own root bits (all_joins a.updates) a.event
  rules_own m root bits (a ∷ b ∷ []) =
      two_own m root bits a b (edge_trigger a.event) (edge_trigger b.event) (level_trigger a.event) (level_trigger b.event)
  rules_own m root bits (a ∷ b ∷ c ∷ rules) = λ x i. absurd i

  process_own : (m : Module) (process : Process) → AreOwnRows p (process_rows start p wires m process)
  process_own m process =
      let root = root_by_rules process.root in
      own_both p _ _
      (own_map p _ (λ b. record { place = refl; read = pick_own p wires no_test (case_decision root b) }) (tree_bits process.root))
      (rules_own m root (tree_bits process.root) (acting_rules process.syncs))

  pub processes_own : (m : Module) (processes : List Process) → AreOwnRows p (processes_rows start p wires m processes)
  processes_own m [] = λ x i. absurd i
  processes_own m (process ∷ processes) = own_both p _ _ (process_own m process) (processes_own m processes)
