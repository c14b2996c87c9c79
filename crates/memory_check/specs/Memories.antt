-- What is known of the memories of a module and their write ports so far.
use Rattle.std.specs.Prelude.{ℕ, List, map, Option, Some, None}
use Rattle.rtl_ir.specs.declared.cell.Cell.{Cell}
use Rattle.rtl_ir.specs.declared.module.Module.{Module}
use Rattle.rtl_ir.specs.declared.process.SyncRule.{SyncRule}
use Rattle.rtl_ir.specs.declared.store.Store.{Store}
use Rattle.rtl_ir.specs.Faults.MemoryCells.{store_named}
use Rattle.rtl_ir.specs.WritePorts.{EventLine, cell_ports, lines_of}
use Rattle.net_index.specs.Types.{at_name}
use Rattle.memory_check.specs.declared.memories.Memories.{Memories}
use Rattle.memory_check.specs.declared.ports.Ports.{Ports}
use Rattle.memory_check.specs.Clocks.{AreClocks}
use Rattle.memory_check.specs.Ports.{HasCells, HasLines, line_of}

-- what a table has at a name stands for a memory that may be there
abbrev pub Stands : (Ports → Store → Type 0) → Option Ports → Option Store → Type 0
Stands Has None None = Unit {0}
Stands Has (Some entry) (Some s) = Has entry s
Stands Has None (Some s) = ⊥
Stands Has (Some entry) None = ⊥

-- the memories are those of the module, each with its write ports among these cells
pub record KnowsCells (memories : Memories) (m : Module) (earlier : List Cell) : Type 0 where
  pub clocks : AreClocks memories.clocks m
  pub stores :
      (name : List ℕ)
      → Stands (λ entry s. HasCells m.links entry s (cell_ports m.links name earlier)) (at_name memories.stores name) (store_named m.memories name)

-- the memories are those of the module, each with its write ports: the cells of the module, and these lines
pub record KnowsLines (memories : Memories) (m : Module) (before : List EventLine) : Type 0 where
  pub clocks : AreClocks memories.clocks m
  pub stores :
      (name : List ℕ)
      → Stands (λ entry s. HasLines m.links entry s (cell_ports m.links name m.cells) (lines_of name before)) (at_name memories.stores name) (store_named m.memories name)

-- the lines of a rule that write, with its event
abbrev pub rule_lines : SyncRule → List EventLine
rule_lines r = map (line_of r.event) r.writes
