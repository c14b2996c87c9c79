-- The start values so far are those of the processes so far.
use Rattle.std.proofs.Common.{take}
use Rattle.std.specs.Prelude.{flat_map}
use Rattle.rtl_ir.specs.Flat.Start.{process_starts}
use Rattle.flat_net.specs.Starts.{AreStarts}
use Rattle.flat_net.proofs.starts.Starts.of.Given as goal

abbrev pub invariant-loop-process : goal.invariant-loop-process
invariant-loop-process l = AreStarts l.starts l.wires (flat_map process_starts (take l.process-index l.processes))
