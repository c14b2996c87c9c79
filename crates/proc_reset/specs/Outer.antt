-- A module with what is found of it once for all processes.
use Rattle.rtl_ir.specs.Signals.{wire_bits}
use Rattle.rtl_ir.specs.Types.{Ports}
use Rattle.process_trees.specs.Fitting.{DoCellsFit}
use Rattle.process_trees.specs.Tables.{AreTests}
use Rattle.proc_reset.specs.Reads.{AreIn, fixed_signals}
use Rattle.proc_reset.specs.declared.process.Outer.{Outer}

-- the tables and the reads are those of the module, whose cells fit
pub record IsOuter (outer : Outer) (ports : Ports) : Type 0 where
  pub tests : AreTests outer.tests.now ports outer.«module».now
  pub fit : DoCellsFit ports outer.«module».now
  pub reads : AreIn outer.reads.now (wire_bits (fixed_signals ports outer.«module».now))
