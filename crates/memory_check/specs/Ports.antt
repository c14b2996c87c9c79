-- What is known of one memory and its write ports so far.
use Rattle.std.specs.Prelude.{◌≡◌, ◌==◌, ◌+◌, ◌++◌, ◌||◌, ◌&&◌, ℕ, Bool, true, false, not, nat_lt, List, [], ◌∷◌, length, map, Option, Some, None}
use Rattle.std.specs.Bool.{nat_eq}
use Rattle.std.specs.HashSet.{HashSet, contains}
use Rattle.std.specs.List.{list_any}
use Rattle.cell_types.specs.declared.memory.MemoryKind.{MemoryKind}
use Rattle.cell_types.specs.declared.memory.MemoryKind.TheVariants.{MemwrV2}
use Rattle.rtl_ir.specs.declared.cell.Cell.{Cell}
use Rattle.rtl_ir.specs.declared.module.Link.{Link}
use Rattle.rtl_ir.specs.declared.process.Event.{Event}
use Rattle.rtl_ir.specs.declared.process.WriteLine.{WriteLine}
use Rattle.rtl_ir.specs.declared.store.Store.{Store}
use Rattle.rtl_ir.specs.WritePorts as rtl
use Rattle.rtl_ir.specs.WritePorts.{EventLine, WritePort, cell_port, clashes, clockings_of, event_clocking, next_port, same_clocking}
use Rattle.memory_check.specs.declared.clocks.Clocking.{Clocking}
use Rattle.memory_check.specs.declared.ports.Ports.{Ports}
use Rattle.memory_check.specs.Clocks.{followed}

-- the set has the numbers of these ports and no others
abbrev pub Holds : {S : Type 0} → HashSet ℕ S → List WritePort → Type 0
Holds set ports = (n : ℕ) → contains nat_eq set n ≡ list_any (λ (p : WritePort). p.number == n) ports

-- a port acts otherwise than the first one, where there is one
abbrev pub unlike : List Link → Option Clocking → rtl.Clocking → Bool
unlike links None c = false
unlike links (Some first) c = not (same_clocking c (followed links first))

-- what acts otherwise than the first one clashes with these, and nothing else does
abbrev pub Agree : List Link → Option Clocking → List rtl.Clocking → Type 0
Agree links first clockings = (c : rtl.Clocking) → clashes c clockings ≡ unlike links first c

-- the memory has these write ports so far, which are cells
pub record HasCells (links : List Link) (entry : Ports) (s : Store) (ports : List WritePort) : Type 0 where
  pub store : entry.store.now ≡ s
  pub numbers : Holds entry.numbers ports
  pub next : entry.next ≡ next_port ports
  pub first : Agree links entry.first (map (λ (p : WritePort). p.clocking) ports)

-- the memory has these write ports that are cells, and these lines that write it so far
pub record HasLines (links : List Link) (entry : Ports) (s : Store) (ports : List WritePort) (lines : List EventLine) : Type 0 where
  pub store : entry.store.now ≡ s
  pub next : entry.next ≡ next_port ports + length lines
  pub first : Agree links entry.first (clockings_of links ports lines)

-- the write ports with a cell, where it is one
abbrev pub with_cell : List Link → List WritePort → MemoryKind → Cell → List WritePort
with_cell links ports MemwrV2 c = ports ++ cell_port links c ∷ []
with_cell links ports kind c = ports

-- a line with the event of its rule
abbrev pub line_of : Event → WriteLine → EventLine
line_of event l = record { event = event; line = l }

-- a line is a fault of the memory, behind these write ports that are cells and these lines
abbrev pub is_bad_line_behind : List Link → Store → List WritePort → List EventLine → EventLine → Bool
is_bad_line_behind links s ports lines l =
    not (length l.line.value == s.width)
    || nat_lt 32 (length l.line.address)
    || nat_lt 65535 (next_port ports + length lines)
    || (true && clashes (event_clocking links l.event) (clockings_of links ports lines))
