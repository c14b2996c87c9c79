-- The rows of processes: tree bits, and bits that the rules update.
use Rattle.std.specs.Prelude.{Bool, true, false, not, List, [], ◌∷◌, ◌++◌, map, filter, Option, Some, None, if◌then◌else◌}
use Rattle.std.specs.List.{list_any}
use Rattle.std.specs.Option.{is_some}
use Rattle.rtl_bits.specs.declared.bit.Bit.{Bit}
use Rattle.rtl_bits.specs.declared.bit.Bit.TheVariants.{X}
use Rattle.rtl_sig.specs.declared.sig.SigBit.{SigBit}
use Rattle.rtl_sig.specs.declared.sig.SigBit.TheVariants.{Wire as OnWire}
use Rattle.rtl_sig.specs.declared.sig.WireBit.{WireBit}
use Rattle.cell_types.specs.declared.kind.CellKind.TheVariants.{Storage}
use Rattle.cell_types.specs.declared.level.Level.{Level}
use Rattle.cell_types.specs.declared.level.Level.TheVariants as At
use Rattle.cell_types.specs.declared.levels.Levels.{Levels}
use Rattle.cell_types.specs.declared.shape.Shape.{Shape}
use Rattle.cell_types.specs.declared.storage.StorageKind.{StorageKind}
use Rattle.cell_types.specs.declared.storage.StorageKind.TheVariants.{Ff, Dff, Dlatch, Aldff}
use Rattle.cell_types.specs.Levels.{low}
use Rattle.cell_types.specs.Shape.{made_shape}
use Rattle.rtl_ir.specs.declared.module.Module.{Module}
use Rattle.rtl_ir.specs.declared.process.Event.{Event}
use Rattle.rtl_ir.specs.declared.process.Event.TheVariants.{Low, High, Posedge, Negedge, Edge, Global, Init, Always}
use Rattle.rtl_ir.specs.declared.process.Process.{Process}
use Rattle.rtl_ir.specs.declared.process.SyncRule.{SyncRule}
use Rattle.rtl_ir.specs.declared.wire.Wire.{Wire}
use Rattle.rtl_ir.specs.Assigns.{tree_bits}
use Rattle.rtl_ir.specs.Decisions.{case_decision, expanded, leaves_of}
use Rattle.rtl_ir.specs.EventTests.{is_bit, switch_test}
use Rattle.rtl_ir.specs.Faults.TwoEdges.{EdgeBit, edge_bit, is_tested}
use Rattle.rtl_ir.specs.Flat.Driver.{StorePoints, Driven, Joined, Stored, Decided, Held, Raced}
use Rattle.rtl_ir.specs.Flat.Pick.{pick_of, no_test}
use Rattle.rtl_ir.specs.Flat.Place.{Path}
use Rattle.rtl_ir.specs.Flat.Point.{Point, Constant, At as AtPlace, bit_place, point, points, point_at}
use Rattle.rtl_ir.specs.Follow.{all_joins, source_at}
use Rattle.rtl_ir.specs.declared.follow.Join.{Join}
use Rattle.rtl_ir.specs.Rules.{acting_rules}
use Rattle.rtl_ir.specs.SwitchRules.{root_by_rules}
use Rattle.rtl_ir.specs.Tree.{CaseView}
use Rattle.rtl_ir.specs.Types.{Ports}

-- no module; tests of event bits lead through cells of the library alone
abbrev pub no_modules : Ports
no_modules id = None

-- a storage cell of this kind with these levels and no reset
abbrev pub rule_shape : StorageKind → Levels → Shape
rule_shape kind levels = record (made_shape (Storage kind) []) { levels = levels }

-- no pin
abbrev pub no_pins : StorePoints
no_pins = record {
  clk = Constant X;
  en = Constant X;
  arst = Constant X;
  srst = Constant X;
  aload = Constant X;
  ad = Constant X;
  set = Constant X;
  clr = Constant X;
  d = Constant X;
}

-- the level after an edge, true for a rising one
abbrev pub level_after : Bool → Level
level_after true = At.High
level_after false = At.Low

-- an edge, or a level: its signal, and the level
pub record Trigger : Type 0 where
  pub signal : List SigBit
  pub level : Level

-- the edge of an event, where it is one
abbrev pub edge_trigger : Event → Option Trigger
edge_trigger (Posedge signal) = Some (record { signal = signal; level = At.High })
edge_trigger (Negedge signal) = Some (record { signal = signal; level = At.Low })
edge_trigger event = None

-- the level of an event, where it is one
abbrev pub level_trigger : Event → Option Trigger
level_trigger (High signal) = Some (record { signal = signal; level = At.High })
level_trigger (Low signal) = Some (record { signal = signal; level = At.Low })
level_trigger event = None

-- two rules that act in one process: at this edge the clocked one, and at this level the one that loads; or any other two, which
-- drive bits only where both have an edge, and of which the one that is tested is the reset
pub data RulePair : Type 0 where
  EdgeAndLevel : Trigger → SyncRule → Trigger → SyncRule → RulePair
  OtherPair : SyncRule → SyncRule → RulePair

-- two rules by the edges and the levels that they have, those of the first rule and of the second
abbrev pub pair_by : SyncRule → SyncRule → Option Trigger → Option Trigger → Option Trigger → Option Trigger → RulePair
pair_by a b (Some edge) other level (Some load) = EdgeAndLevel edge a load b
pair_by a b other (Some edge) (Some load) level = EdgeAndLevel edge b load a
pair_by a b edge edge' level level' = OtherPair a b

-- whether a value may come to the bit itself
abbrev pub may_hold : CaseView → List WireBit → Join → Bool
may_hold root bits j = list_any (is_bit j.bit) (leaves_of (expanded root bits j.source))

module _ (start : SigBit → Bit) (p : Path) (wires : List Wire) where
  -- the one point of an event's signal
  abbrev pub event_point : List SigBit → Point
  event_point signal = point_at (points p wires signal) 0

  -- a bit that a storage cell keeps which a rule stands for
  abbrev pub rule_row : StorageKind → Levels → StorePoints → WireBit → Driven
  rule_row kind levels pins b = record {
    place = bit_place p wires b;
    driver = Stored (start (OnWire b)) (rule_shape kind levels) 0 pins (bit_place p wires b);
  }

  -- each tree bit: the root case's value of it
  abbrev pub tree_bit_rows : CaseView → List WireBit → List Driven
  tree_bit_rows root bits =
      map (λ (b : WireBit). record { place = bit_place p wires b; driver = Decided (pick_of no_test p wires (case_decision root b)) }) bits

  -- a rule at each step is a `$ff`
  abbrev pub global_rows : List Join → List Driven
  global_rows updates = map (λ (j : Join). rule_row Ff low (record no_pins { d = point p wires j.source }) j.bit) updates

  -- a rule at an edge is a `$dff`
  abbrev pub edge_row : Trigger → Join → Driven
  edge_row e j =
      rule_row Dff (record low { clk = e.level })
      (record no_pins { clk = event_point e.signal; d = point p wires j.source }) j.bit

  -- a rule at a level is a `$dlatch`
  abbrev pub level_row : Trigger → Join → Driven
  level_row l j =
      rule_row Dlatch (record low { en = l.level })
      (record no_pins { en = event_point l.signal; d = point p wires j.source }) j.bit

  -- a bit of an edge rule beside a level rule is an `$aldff` where that rule has it too
  abbrev pub loaded_row : Trigger → Trigger → Option SigBit → Join → Driven
  loaded_row e l None j = edge_row e j
  loaded_row e l (Some load) j =
      rule_row Aldff (record low { clk = e.level; aload = l.level })
      (record no_pins { clk = event_point e.signal; d = point p wires j.source; aload = event_point l.signal; ad = point p wires load }) j.bit

  -- an edge rule and a level rule
  abbrev pub loaded_rows : Trigger → List Join → Trigger → List Join → List Driven
  loaded_rows e edges l levels =
      map (λ (j : Join). loaded_row e l (source_at levels j.bit) j) edges
      ++ map (level_row l) (filter (λ (j : Join). not (is_some (source_at edges j.bit))) levels)

  -- a bit that is always updated: it holds where its value comes to itself, else it is its value
  abbrev pub always_row : CaseView → List WireBit → Join → Driven
  always_row root bits j = record {
    place = bit_place p wires j.bit;
    driver =
        if may_hold root bits j
        then Held (start (OnWire j.bit)) (point p wires j.source) (pick_of no_test p wires (expanded root bits j.source)) (bit_place p wires j.bit)
        else Joined (point p wires j.source);
  }

  -- a bit of a process with two edges
  abbrev pub raced_row : Module → CaseView → List WireBit → EdgeBit → EdgeBit → Join → Driven
  raced_row m root bits clock reset j = record {
    place = bit_place p wires j.bit;
    driver =
        Raced (start (OnWire j.bit)) (AtPlace (bit_place p wires clock.bit)) (level_after clock.level)
        (AtPlace (bit_place p wires reset.bit)) (level_after reset.level)
        (pick_of (switch_test no_modules m reset.bit) p wires (expanded root bits j.source)) (bit_place p wires j.bit);
  }

  -- two edges, of which the one that is tested is the reset
  abbrev pub raced_rows : Module → CaseView → List WireBit → List Join → Option EdgeBit → Option EdgeBit → List Driven
  raced_rows m root bits updates (Some a) (Some b) =
      if is_tested no_modules m root a
      then map (raced_row m root bits b a) updates
      else map (raced_row m root bits a b) updates
  raced_rows m root bits updates a b = []

  -- one rule
  abbrev pub one_rule_rows : CaseView → List WireBit → List Join → Event → List Driven
  one_rule_rows root bits updates Always = map (always_row root bits) updates
  one_rule_rows root bits updates Global = global_rows updates
  one_rule_rows root bits updates (Posedge signal) = map (edge_row (record { signal = signal; level = At.High })) updates
  one_rule_rows root bits updates (Negedge signal) = map (edge_row (record { signal = signal; level = At.Low })) updates
  one_rule_rows root bits updates (High signal) = map (level_row (record { signal = signal; level = At.High })) updates
  one_rule_rows root bits updates (Low signal) = map (level_row (record { signal = signal; level = At.Low })) updates
  one_rule_rows root bits updates (Edge signal) = []
  one_rule_rows root bits updates Init = []

  -- two rules
  abbrev pub two_rules_rows : Module → CaseView → List WireBit → RulePair → List Driven
  two_rules_rows m root bits (EdgeAndLevel edge clocked level loading) = loaded_rows edge (all_joins clocked.updates) level (all_joins loading.updates)
  two_rules_rows m root bits (OtherPair a b) = raced_rows m root bits (all_joins a.updates) (edge_bit a.event) (edge_bit b.event)

  -- the rules that act: one, or two
  abbrev pub rules_rows : Module → CaseView → List WireBit → List SyncRule → List Driven
  rules_rows m root bits [] = []
  rules_rows m root bits (a ∷ []) = one_rule_rows root bits (all_joins a.updates) a.event
  rules_rows m root bits (a ∷ b ∷ []) =
      two_rules_rows m root bits (pair_by a b (edge_trigger a.event) (edge_trigger b.event) (level_trigger a.event) (level_trigger b.event))
  rules_rows m root bits (a ∷ b ∷ c ∷ rules) = []

  -- a process, with its switches read by the rules
  abbrev pub process_rows : Module → Process → List Driven
  process_rows m process =
      tree_bit_rows (root_by_rules process.root) (tree_bits process.root)
      ++ rules_rows m (root_by_rules process.root) (tree_bits process.root) (acting_rules process.syncs)

  -- the rows of the processes of a module
  abbrev pub processes_rows : Module → List Process → List Driven
  processes_rows m [] = []
  processes_rows m (process ∷ processes) = process_rows m process ++ processes_rows m processes
