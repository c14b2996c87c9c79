use Rattle.std.proofs.Common.{◌≡◌, ◌++◌, take}
use Rattle.std.specs.List.{flat_map}
use Rattle.rtl_write.specs.Text.{process_text}
use Rattle.rtl_write.proofs.whole.put_processes.Given as goal

-- what was passed so far is written
abbrev pub invariant-loop-process : goal.invariant-loop-process
invariant-loop-process l = l.out ≡ l.initial.out ++ flat_map (process_text l.wires) (take l.process-index l.processes)
