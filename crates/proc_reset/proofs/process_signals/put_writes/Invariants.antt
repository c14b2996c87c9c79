-- The signals so far and those of the lines that are left are all.
use Rattle.std.proofs.Common.{◌≡◌, ◌++◌, drop}
use Rattle.proc_reset.specs.Reads.{write_signals}
use Rattle.proc_reset.proofs.process_signals.put_writes.Given as goal

abbrev pub invariant-loop-line : goal.invariant-loop-line
invariant-loop-line l = l.signals.items ++ write_signals (drop l.line-index l.lines) ≡ l.fn.signals.items ++ write_signals l.lines
