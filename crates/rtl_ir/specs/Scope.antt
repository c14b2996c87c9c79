-- Which parts of a design are taken. What is not taken is an unsupported cell, memory or process, before any other
-- fault of that item.
use Rattle.std.specs.Prelude.{Bool, true, false}
use Rattle.rtl_ir.specs.declared.process.Process.{Process}

-- whether memories and their cells are taken, which processes are, and whether the clocks of the write ports of a memory are
-- compared
pub record Scope : Type 0 where
  pub memories : Bool
  pub processes : Process → Bool
  pub clocks : Bool

-- everything is taken
abbrev pub everything : Scope
everything = record { memories = true; processes = λ p. true; clocks = true }

-- cells and instances are taken, and neither memories nor processes
abbrev pub cells_alone : Scope
cells_alone = record { memories = false; processes = λ p. false; clocks = false }

-- all but processes is taken, and clocks are not compared
abbrev pub without_processes : Scope
without_processes = record { memories = true; processes = λ p. false; clocks = false }

-- everything is taken, and clocks are not compared
abbrev pub with_processes : Scope
with_processes = record { memories = true; processes = λ p. true; clocks = false }
