-- The signals so far and those of the lines that are left are all.
use Rattle.std.proofs.Common.{◌≡◌, ◌++◌, drop}
use Rattle.proc_reset.specs.Reads.{sources}
use Rattle.proc_reset.proofs.signals.put_sources.Given as goal

abbrev pub invariant-loop-line : goal.invariant-loop-line
invariant-loop-line l = l.signals.items ++ sources (drop l.line-index l.lines) ≡ l.fn.signals.items ++ sources l.lines
