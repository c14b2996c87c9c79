-- Steps of `proc` that build: fresh wires, cells and connections go last, and the processes become others.
use Rattle.std.specs.Prelude.{◌≡◌, ◌≤◌, not, List, [], ◌∷◌, ◌++◌, length, map, filter, flat_map, count_by, Option, Some}
use Rattle.std.specs.Option.{is_some}
use Rattle.rtl_sig.specs.declared.sig.WireBit.{WireBit}
use Rattle.rtl_ir.specs.declared.cell.Cell.{Cell}
use Rattle.rtl_ir.specs.declared.module.Link.{Link}
use Rattle.rtl_ir.specs.declared.module.Module.{Module}
use Rattle.rtl_ir.specs.declared.process.Event.{Event}
use Rattle.rtl_ir.specs.declared.process.Event.TheVariants.{Edge, Init}
use Rattle.rtl_ir.specs.declared.process.Process.{Process}
use Rattle.rtl_ir.specs.declared.process.SyncRule.{SyncRule}
use Rattle.rtl_ir.specs.declared.wire.Wire.{Wire}
use Rattle.rtl_ir.specs.Assigns.{tree_bits}
use Rattle.rtl_ir.specs.Faults.Processes.{process_faults}
use Rattle.rtl_ir.specs.Faults.TwoEdges.{EdgeBit, edge_bit}
use Rattle.rtl_ir.specs.Flat.Cell.{instances}
use Rattle.rtl_ir.specs.Flat.Process.{Trigger, edge_trigger, level_trigger}
use Rattle.rtl_ir.specs.Follow.{all_joins, source_at}
use Rattle.rtl_ir.specs.declared.follow.Join.{Join}
use Rattle.rtl_ir.specs.Rules.{acting_rules, updated_bits}
use Rattle.rtl_ir.specs.Signals.{same_bit}
use Rattle.rtl_ir.specs.Types.{Ports}
use Rattle.net_model.specs.Lists.{Distinct}
use Rattle.net_model.specs.Within.{AreInner, CellIn, Each, LinkIn, ProcessIn}
use Rattle.map_laws.specs.Expansion.{bits_from}
use Rattle.pass_laws.specs.Bits.{cells_bits, links_bits}
use Rattle.pass_laws.specs.Replaces.{IsEven, IsFaultless}
use Rattle.rtl_ir.specs.Scope.{with_processes}

-- the module with fresh wires, cells and connections behind its own, and with these processes
abbrev pub rebuilt : List Wire → List Cell → List Link → List Process → Module → Module
rebuilt fresh new more changed m = record m {
  wires = m.wires ++ fresh;
  cells = m.cells ++ new;
  links = m.links ++ more;
  processes = changed;
}

-- the bits that a process drives, as the check of a module counts them
abbrev pub checked_bits : Process → List WireBit
checked_bits p = tree_bits p.root ++ updated_bits p.syncs

-- the bits of places of lines
abbrev pub join_bits : List Join → List WireBit
join_bits js = map (λ (j : Join). j.bit) js

-- the bits of an edge rule, and those of a level rule that the edge rule does not have
abbrev pub loaded_bits : List Join → List Join → List WireBit
loaded_bits edges levels =
    join_bits edges ++ join_bits (filter (λ (j : Join). not (is_some (source_at edges j.bit))) levels)

-- the bits of two edge rules with the same updates
abbrev pub raced_bits : List Join → Option EdgeBit → Option EdgeBit → List WireBit
raced_bits updates (Some a) (Some b) = join_bits updates
raced_bits updates a b = []

-- the bits that one rule drives in the flat netlist
abbrev pub one_rule_bits : List Join → Event → List WireBit
one_rule_bits updates (Edge signal) = []
one_rule_bits updates Init = []
one_rule_bits updates event = join_bits updates

-- the bits that two rules drive there, by the edges and levels that they are
abbrev pub two_rules_bits : SyncRule → SyncRule → Option Trigger → Option Trigger → Option Trigger → Option Trigger → List WireBit
two_rules_bits a b (Some e) edge level (Some l) = loaded_bits (all_joins a.updates) (all_joins b.updates)
two_rules_bits a b edge (Some e) (Some l) level = loaded_bits (all_joins b.updates) (all_joins a.updates)
two_rules_bits a b edge edge' level level' = raced_bits (all_joins a.updates) (edge_bit a.event) (edge_bit b.event)

-- the bits that the rules of a process drive there, of those that act: one, or two
abbrev pub rules_bits : List SyncRule → List WireBit
rules_bits [] = []
rules_bits (a ∷ []) = one_rule_bits (all_joins a.updates) a.event
rules_bits (a ∷ b ∷ []) =
    two_rules_bits a b (edge_trigger a.event) (edge_trigger b.event) (level_trigger a.event) (level_trigger b.event)
rules_bits (a ∷ b ∷ c ∷ rules) = []

-- the bits that a process drives in the flat netlist
abbrev pub driven_bits : Process → List WireBit
driven_bits p = tree_bits p.root ++ rules_bits (acting_rules p.syncs)

-- no bit stands more often in the first list than in the second
abbrev pub AreAmong : List WireBit → List WireBit → Type 0
AreAmong xs ys = (b : WireBit) → count_by (λ x. same_bit x b) xs ≤ count_by (λ y. same_bit y b) ys

-- what is owed of what is added to a module, and of the processes that it has then
pub record Rebuilds (ports : Ports) (m : Module) (fresh : List Wire) (new : List Cell) (more : List Link) (changed : List Process) : Type 0 where
  -- the fresh wires are no ports, and have new names
  pub inner : AreInner fresh
  pub named : Distinct (map (λ (w : Wire). w.name) (m.wires ++ fresh))
  -- the new cells are no instances, and neither they nor the connections have faults
  pub plain : instances new ≡ []
  pub cells : Each (IsFaultless ports) new
  pub links : Each IsEven more
  -- nor have the processes, in the new module
  pub processes : process_faults with_processes ports (rebuilt fresh new more changed m) [] changed ≡ []
  -- all name wires of the new module
  pub cells_within : Each (CellIn (length (m.wires ++ fresh))) new
  pub links_within : Each (LinkIn (length (m.wires ++ fresh))) more
  pub processes_within : Each (ProcessIn (length (m.wires ++ fresh))) changed
  -- the bits that the cells, connections and processes drive are among those of the fresh wires, once each, and those that the
  -- processes drove: as the check counts them, and in the flat netlist
  pub checked :
      AreAmong (cells_bits ports new ++ (links_bits more ++ flat_map checked_bits changed))
      (bits_from (length m.wires) fresh ++ flat_map checked_bits m.processes)
  pub driven :
      AreAmong (cells_bits ports new ++ (links_bits more ++ flat_map driven_bits changed))
      (bits_from (length m.wires) fresh ++ flat_map driven_bits m.processes)
