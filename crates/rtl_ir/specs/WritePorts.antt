-- The write ports of a memory: cells, and lines of processes.
use Rattle.std.specs.Prelude.{ℕ, ◌+◌, max, Bool, true, false, ◌&&◌, not, List, [], ◌∷◌, ◌++◌, map, filter, flat_map, Option, Some}
use Rattle.std.specs.List.{list_any}
use Rattle.std.specs.Option.{option_map_or}
use Rattle.std.specs.Str.{bytes_eq}
use Rattle.cell_types.specs.declared.kind.CellKind.{CellKind}
use Rattle.cell_types.specs.declared.kind.CellKind.TheVariants as Cells
use Rattle.cell_types.specs.declared.memory.MemoryKind.TheVariants.{MemwrV2}
use Rattle.cell_types.specs.declared.param_name.ParamName.TheVariants.{ClkPolarity, Portid}
use Rattle.cell_types.specs.declared.pin_name.PinName.TheVariants.{Clk}
use Rattle.cell_types.specs.Given.{number_in}
use Rattle.cell_types.specs.Kind.{kind_of}
use Rattle.cell_types.specs.Levels.{level_in}
use Rattle.cell_types.specs.declared.level.Level.{Level}
use Rattle.cell_types.specs.PinName.{pin_text}
use Rattle.cell_types.specs.Shape.{is_set}
use Rattle.rtl_sig.specs.declared.sig.SigBit.{SigBit}
use Rattle.rtl_ir.specs.declared.cell.Cell.{Cell}
use Rattle.rtl_ir.specs.declared.cell.CellParam.{CellParam}
use Rattle.rtl_ir.specs.declared.module.Link.{Link}
use Rattle.rtl_ir.specs.declared.process.Event.{Event}
use Rattle.rtl_ir.specs.declared.process.Event.TheVariants.{Posedge, Negedge}
use Rattle.rtl_ir.specs.declared.process.Process.{Process}
use Rattle.rtl_ir.specs.declared.process.SyncRule.{SyncRule}
use Rattle.rtl_ir.specs.declared.process.WriteLine.{WriteLine}
use Rattle.rtl_ir.specs.Follow.{follow}
use Rattle.rtl_ir.specs.Parameters.{given_params, memory_name, signal_at}
use Rattle.rtl_ir.specs.Signals.{same_signal}

-- when a write port acts: its clock, followed, and whether the edge is a rising one
pub record Clocking : Type 0 where
  pub clock : List SigBit
  pub rising : Bool

-- both, or neither
abbrev pub same_flag : Bool → Bool → Bool
same_flag true b = b
same_flag false b = not b

-- the same edge of the same clock
abbrev pub same_clocking : Clocking → Clocking → Bool
same_clocking a b = same_signal a.clock b.clock && same_flag a.rising b.rising

-- a write port: its number, and when it acts
pub record WritePort : Type 0 where
  pub number : ℕ
  pub clocking : Clocking

-- a cell of this type is a write port
abbrev pub is_write_kind : Option CellKind → Bool
is_write_kind (Some (Cells.Memory MemwrV2)) = true
is_write_kind kind = false

unfoldable pub is_write_cell : List ℕ → Bool
is_write_cell type = is_write_kind (kind_of type)

-- a cell belongs to the memory of this name
abbrev pub is_of_memory : List ℕ → Cell → Bool
is_of_memory name c = option_map_or (bytes_eq name) (memory_name c.params) false

-- a cell is a write port of the memory of this name
abbrev pub is_write_port : List ℕ → Cell → Bool
is_write_port name c = is_write_cell c.kind_name && is_of_memory name c

-- the number of a write port
abbrev pub port_number : List CellParam → ℕ
port_number params = number_in (given_params params) Portid

-- the level after a clock's edge
abbrev pub clock_level : List CellParam → Level
clock_level params = level_in (given_params params) ClkPolarity

-- when a write cell acts
abbrev pub cell_clocking : List Link → Cell → Clocking
cell_clocking links c = record {
  clock = map (follow links) (signal_at c.pins (pin_text Clk));
  rising = is_set (given_params c.params) ClkPolarity;
}

-- a write cell as a port
abbrev pub cell_port : List Link → Cell → WritePort
cell_port links c = record { number = number_in (given_params c.params) Portid; clocking = cell_clocking links c }

-- the write ports of a memory among cells
abbrev pub cell_ports : List Link → List ℕ → List Cell → List WritePort
cell_ports links name cells =
    map (cell_port links) (filter (λ (c : Cell). is_write_cell c.kind_name && is_of_memory name c) cells)

-- the number of the first port behind these: one more than the greatest, or 0
abbrev pub next_port : List WritePort → ℕ
next_port [] = 0
next_port (p ∷ ps) = max (p.number + 1) (next_port ps)

-- a line that writes, with the event of its rule
pub record EventLine : Type 0 where
  pub event : Event
  pub line : WriteLine

-- the lines that write in a process, in order
abbrev pub write_lines : Process → List EventLine
write_lines p = flat_map (λ (r : SyncRule). map (λ l. record { event = r.event; line = l }) r.writes) p.syncs

-- when a line acts
abbrev pub event_clocking : List Link → Event → Clocking
event_clocking links (Posedge signal) = record { clock = map (follow links) signal; rising = true }
event_clocking links (Negedge signal) = record { clock = map (follow links) signal; rising = false }
event_clocking links event = record { clock = []; rising = false }

-- the lines that write the memory of this name
abbrev pub lines_of : List ℕ → List EventLine → List EventLine
lines_of name lines = filter (λ (l : EventLine). bytes_eq name l.line.memory) lines

-- a port may not act beside these: it has another clock or edge than one of them
abbrev pub clashes : Clocking → List Clocking → Bool
clashes clocking others = list_any (λ other. not (same_clocking clocking other)) others

-- when the ports act that are cells, and the lines before
abbrev pub clockings_of : List Link → List WritePort → List EventLine → List Clocking
clockings_of links ports lines =
    map (λ (p : WritePort). p.clocking) ports ++ map (λ (l : EventLine). event_clocking links l.event) lines
