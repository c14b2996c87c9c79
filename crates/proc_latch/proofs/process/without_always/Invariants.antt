-- The processes so far, and those that are left, are all.
use Rattle.std.proofs.Common.{◌≡◌, ◌++◌, drop, map}
use Rattle.net_model.specs.Proc.Latch.{without_always}
use Rattle.proc_latch.proofs.process.without_always.Given as goal

abbrev pub invariant-loop-process : goal.invariant-loop-process
invariant-loop-process l = l.left.items ++ map without_always (drop l.process-index l.processes) ≡ map without_always l.processes
