-- The processes so far have no fault, their lines that write are noted, and the tables are those of the module, where
-- they were made.
use Rattle.std.proofs.Common.{◌≡◌, [], take, drop, flat_map}
use Rattle.rtl_ir.specs.Faults.Processes.{process_faults}
use Rattle.rtl_ir.specs.Scope.{everything}
use Rattle.rtl_ir.specs.Types.{Ports}
use Rattle.rtl_ir.specs.WritePorts.{write_lines}
use Rattle.net_index.specs.Types.{AreTypes}
use Rattle.process_trees.specs.Fitting.{DoCellsFit}
use Rattle.memory_check.specs.Memories.{KnowsCells, KnowsLines}
use Rattle.process_check.specs.Values.{WereAsked}
use Rattle.rtl_check.proofs.processes.check_processes.Given as goal

abbrev pub invariant-loop-process : goal.invariant-loop-process
invariant-loop-process l = record {
  asked : (ports : Ports) → AreTypes l.types ports → WereAsked l.tests ports l.body;
  noted : KnowsCells l.initial.memories l.body l.body.cells → KnowsLines l.memories l.body (flat_map write_lines (take l.process-index l.body.processes));
  faults :
      (ports : Ports) → AreTypes l.types ports → DoCellsFit ports l.body → KnowsCells l.initial.memories l.body l.body.cells
      → process_faults everything ports l.body (take l.process-index l.body.processes) (drop l.process-index l.body.processes) ≡ process_faults everything ports l.body [] l.body.processes;
}
