-- The processes so far and those that are left are all.
use Rattle.std.proofs.Common.{◌≡◌, ◌++◌, [], drop, map}
use Rattle.rtl_ir.specs.declared.process.Process.{Process}
use Rattle.proc_sync.proofs.without_rules.Given as goal

abbrev pub invariant-loop-process : goal.invariant-loop-process
invariant-loop-process l = l.after ++ map (λ (p : Process). record p { syncs = [] }) (drop l.process-index l.processes) ≡ map (λ (p : Process). record p { syncs = [] }) l.processes
