-- The ports so far and those of the lines that are left are all.
use Rattle.std.proofs.Common.{◌≡◌, ◌++◌, drop}
use Rattle.net_model.specs.Proc.Sync.{ports_in}
use Rattle.proc_sync.specs.Lines.{numbers_of}
use Rattle.proc_sync.proofs.masks.ports_in.Given as goal

abbrev pub invariant-loop-at : goal.invariant-loop-at
invariant-loop-at l = l.ports.items ++ ports_in l.memory (numbers_of (drop l.at l.lines)) ≡ ports_in l.memory (numbers_of l.lines)
