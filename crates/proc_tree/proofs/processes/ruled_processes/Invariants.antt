-- The processes so far are read by the rules, and their start values came behind the others.
use Rattle.std.proofs.Common.{◌≡◌, flat_map, map, take}
use Rattle.rtl_ir.specs.Flat.Start.{process_starts}
use Rattle.net_model.specs.Proc.Start.{ruled_process}
use Rattle.proc_tree.specs.Starts.{Adds}
use Rattle.proc_tree.proofs.processes.ruled_processes.Given as goal

abbrev pub invariant-loop-process : goal.invariant-loop-process
invariant-loop-process l = record {
  value : l.ruled.items ≡ map ruled_process (take l.process-index l.processes);
  starts : Adds l.fn.starts l.starts (flat_map process_starts (take l.process-index l.processes));
}
