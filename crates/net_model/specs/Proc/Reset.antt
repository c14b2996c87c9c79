-- A step of `proc`: of two edges the reset's becomes a level.
use Rattle.std.specs.Prelude.{ℕ, ◌+◌, Bool, true, false, not, ◌&&◌, List, [], ◌∷◌, ◌++◌, map, flat_map, take, Option, Some, None, if◌then◌else◌}
use Rattle.std.specs.List.{list_any}
use Rattle.rtl_bits.specs.declared.bit.Bit.{Bit}
use Rattle.rtl_sig.specs.declared.sig.SigBit.{SigBit}
use Rattle.rtl_sig.specs.declared.sig.SigBit.TheVariants.{Wire as OnWire}
use Rattle.rtl_sig.specs.declared.sig.WireBit.{WireBit}
use Rattle.rtl_ir.specs.declared.cell.Cell.{Cell}
use Rattle.rtl_ir.specs.declared.cell.Pin.{Pin}
use Rattle.rtl_ir.specs.declared.module.Link.{Link}
use Rattle.rtl_ir.specs.declared.module.Module.{Module}
use Rattle.rtl_ir.specs.declared.process.Event.{Event}
use Rattle.rtl_ir.specs.declared.process.Event.TheVariants.{Low, High, Posedge, Negedge, Edge, Global, Init, Always}
use Rattle.rtl_ir.specs.declared.process.Process.{Process}
use Rattle.rtl_ir.specs.declared.process.SyncRule.{SyncRule}
use Rattle.rtl_ir.specs.declared.process.WriteLine.{WriteLine}
use Rattle.rtl_ir.specs.declared.wire.Wire.{Wire}
use Rattle.rtl_ir.specs.Assigns.{case_assigns, tree_bits}
use Rattle.rtl_ir.specs.Decisions.{expanded, leaves_of}
use Rattle.rtl_ir.specs.EventTests.{switch_test}
use Rattle.rtl_ir.specs.Faults.TwoEdges.{SwitchTest, cases_patterns, takes_bit, tested_bit, decided, are_one_constant, are_all, EdgeBit, edge_bit, is_tested}
use Rattle.rtl_ir.specs.Follow.{joins, all_joins}
use Rattle.rtl_ir.specs.declared.follow.Join.{Join}
use Rattle.rtl_ir.specs.Outputs.{drives_pin, is_output}
use Rattle.rtl_ir.specs.Rules.{has_line, acting_rules}
use Rattle.rtl_ir.specs.Signals.{same_bit, has_bit, wire_bits, bits_of_wire}
use Rattle.rtl_ir.specs.Tree.{Switches, NoSwitch, OneSwitch, Cases, NoCase, OneCase, CaseView}
use Rattle.rtl_ir.specs.Types.{Ports, cell_type}

-- the leaves of the new value of a bit with the reset active
abbrev pub active_leaves : Ports → Module → CaseView → List WireBit → EdgeBit → Join → List SigBit
active_leaves ports m root bits reset j =
    leaves_of (decided (switch_test ports m reset.bit) reset.level (expanded root bits j.source))

-- the places of an update line that the reset sets, each with its constant
abbrev pub reset_places : (Join → List SigBit) → List Join → List Join
reset_places leaves [] = []
reset_places leaves (j ∷ js) =
    if are_one_constant (leaves j)
    then map (λ s. record { bit = j.bit; source = s }) (take 1 (leaves j)) ++ reset_places leaves js
    else reset_places leaves js

-- these places as a line, where there are any
abbrev pub line_of_places : List Join → List Link
line_of_places [] = []
line_of_places (j ∷ js) =
    record { left = map (λ (k : Join). OnWire k.bit) (j ∷ js); right = map (λ (k : Join). k.source) (j ∷ js) } ∷ []

-- the level rule of a reset: of each update line the bits that it sets
abbrev pub reset_rule : (Join → List SigBit) → EdgeBit → List Link → SyncRule
reset_rule leaves reset lines = record {
  event = if reset.level then High (OnWire reset.bit ∷ []) else Low (OnWire reset.bit ∷ []);
  updates = flat_map (λ (line : Link). line_of_places (reset_places leaves (joins line.left line.right))) lines;
  writes = [];
}

-- an event is at an edge of this bit
abbrev pub is_edge_of : WireBit → Option EdgeBit → Bool
is_edge_of b None = false
is_edge_of b (Some e) = same_bit e.bit b

-- the reset's rule in the place of its edge rule
abbrev pub with_reset : WireBit → SyncRule → List SyncRule → List SyncRule
with_reset b rule rules =
    map (λ (r : SyncRule). if has_line r && is_edge_of b (edge_bit r.event) then rule else r) rules

abbrev mutual
  -- the signals and patterns of switches
  pub switches_signals : Switches → List SigBit
  switches_signals NoSwitch = []
  switches_signals (OneSwitch signal attributes cases rest) =
      signal ++ (cases_signals cases ++ switches_signals rest)

  -- those of the switches in cases, and their patterns
  pub cases_signals : Cases → List SigBit
  cases_signals NoCase = []
  cases_signals (OneCase patterns assigns attributes switches rest) =
      flat_map (λ pattern. pattern) patterns ++ (switches_signals switches ++ cases_signals rest)

-- the signal of an event
abbrev pub event_signal : Event → List SigBit
event_signal (Low signal) = signal
event_signal (High signal) = signal
event_signal (Posedge signal) = signal
event_signal (Negedge signal) = signal
event_signal (Edge signal) = signal
event_signal Global = []
event_signal Init = []
event_signal Always = []

-- what the tests of a process and the events of its rules with lines read
abbrev pub control_reads : Process → List WireBit
control_reads p =
    wire_bits (switches_signals p.root.switches ++ flat_map (λ (r : SyncRule). event_signal r.event) (acting_rules p.syncs))

-- all that a process reads
abbrev pub process_reads : Process → List WireBit
process_reads p =
    control_reads p
    ++ (wire_bits (flat_map (λ (l : Link). l.right) (case_assigns p.root))
    ++ flat_map (λ (r : SyncRule). wire_bits (flat_map (λ (l : Link). l.right) r.updates ++ flat_map (λ (w : WriteLine). w.address ++ (w.value ++ w.enable)) r.writes)) p.syncs)

-- what a cell reads: the pins that it does not drive
abbrev pub cell_reads : Ports → Cell → List WireBit
cell_reads ports c =
    flat_map (λ (pin : Pin). if drives_pin (cell_type ports c.kind_name) pin.name then [] else wire_bits pin.sig) c.pins

-- the bits of output ports, of the wires from a place on
abbrev pub output_bits : ℕ → List Wire → List WireBit
output_bits at [] = []
output_bits at (w ∷ wires) =
    (if is_output w.role then bits_of_wire at w.width else []) ++ output_bits (at + 1) wires

-- what is read outside a process, or seen outside the module: by connections, cells, other processes, and output ports
abbrev pub outer_reads : Ports → Module → List Process → List WireBit
outer_reads ports m others =
    flat_map (λ (l : Link). wire_bits l.right) m.links
    ++ (flat_map (cell_reads ports) m.cells
    ++ (flat_map process_reads others
    ++ output_bits 0 m.wires))

-- none of the first bits is among the second
abbrev pub are_unread : List WireBit → List WireBit → Bool
are_unread bits reads = not (list_any (has_bit reads) bits)

-- a case is taken for a known bit: a default, or one with a pattern that matches
abbrev pub is_taken : Bit → List (List SigBit) → Bool
is_taken bit [] = true
is_taken bit (p ∷ patterns) = list_any (takes_bit bit) (p ∷ patterns)

abbrev mutual
  -- switches where each one that tests a reset keeps only the case that is taken with the reset at a level, as a default
  pub switches_at : SwitchTest → Bool → Switches → Switches
  switches_at test level NoSwitch = NoSwitch
  switches_at test level (OneSwitch signal attributes cases rest) =
      OneSwitch signal attributes (cases_at test level (test signal (cases_patterns cases)) cases) (switches_at test level rest)

  -- the cases of a switch that tests, or that does not
  pub cases_at : SwitchTest → Bool → Option Bool → Cases → Cases
  cases_at test level inverse NoCase = NoCase
  cases_at test level None (OneCase patterns assigns attributes switches rest) =
      OneCase patterns assigns attributes (switches_at test level switches) (cases_at test level None rest)
  cases_at test level (Some inverse) (OneCase patterns assigns attributes switches rest) =
      let inner = switches_at test level switches in
      let behind = cases_at test level (Some inverse) rest in
      if is_taken (tested_bit level inverse) patterns then OneCase [] assigns attributes inner NoCase else behind

-- the reset need not be tested any more: no bit holds under it, and no tree bit is read but by the assigns and updates of its process
abbrev pub is_free : Ports → Module → List Process → Process → EdgeBit → List Join → Bool
is_free ports m others p reset updates =
    not (list_any (λ (j : Join). are_all j.bit (active_leaves ports m p.root (tree_bits p.root) reset j)) updates)
    && (are_unread (tree_bits p.root) (outer_reads ports m others)
    && are_unread (tree_bits p.root) (control_reads p))

-- a process with the clock's rule and a level rule for the reset, among these others
abbrev pub with_level : Ports → Module → List Process → Process → EdgeBit → List Link → Process
with_level ports m others p reset lines =
    let leaves = active_leaves ports m p.root (tree_bits p.root) reset in
    record p {
      root =
          if is_free ports m others p reset (all_joins lines)
          then record p.root { switches = switches_at (switch_test ports m reset.bit) (not reset.level) p.root.switches }
          else p.root;
      syncs = with_reset reset.bit (reset_rule leaves reset lines) p.syncs;
    }

-- of two edges the one that is tested is the reset
abbrev pub reset_by : Ports → Module → List Process → Process → List Link → Option EdgeBit → Option EdgeBit → Process
reset_by ports m others p lines (Some a) (Some b) =
    if is_tested ports m p.root a then with_level ports m others p a lines else with_level ports m others p b lines
reset_by ports m others p lines a b = p

-- a process with two edges; any other stays
abbrev pub reset_process : Ports → Module → List Process → Process → List SyncRule → Process
reset_process ports m others p (a ∷ b ∷ []) = reset_by ports m others p a.updates (edge_bit a.event) (edge_bit b.event)
reset_process ports m others p rules = p

-- the processes in order, those before as they have become
abbrev pub resets_step : Ports → Module → List Process → List Process → List Process
resets_step ports m before [] = before
resets_step ports m before (p ∷ processes) =
    resets_step ports m
    (before ++ reset_process ports m (before ++ processes) p (acting_rules p.syncs) ∷ []) processes

-- the module after the step
abbrev pub proc_reset_of : Ports → Module → Module
proc_reset_of ports m = record m { processes = resets_step ports m [] m.processes }
