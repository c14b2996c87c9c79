-- The signals so far and those of the wires that are left are all.
use Rattle.std.proofs.Common.{◌≡◌, ◌++◌, drop}
use Rattle.proc_reset.specs.Reads.{output_signals}
use Rattle.proc_reset.proofs.signals.put_outputs.Given as goal

abbrev pub invariant-loop-place : goal.invariant-loop-place
invariant-loop-place l = l.signals.items ++ output_signals l.place (drop l.place l.wires) ≡ l.fn.signals.items ++ output_signals 0 l.wires
