-- The names so far.
use Rattle.std.proofs.Common.{◌≡◌, map, take}
use Rattle.rtl_ir.specs.declared.process.Process.{Process}
use Rattle.flat_pass.specs.ByName.{names_now}
use Rattle.flat_pass.proofs.names.process_names.Given as goal

abbrev pub invariant-loop-process : goal.invariant-loop-process
invariant-loop-process l = names_now l.names.items ≡ map (λ (x : Process). x.name) (take l.process-index l.processes)
