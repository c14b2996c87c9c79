-- The lines so far write other memories.
use Rattle.std.proofs.Common.{◌≡◌, drop}
use Rattle.flat_net.specs.Accesses.{have_line}
use Rattle.flat_net.proofs.line_ports.writes.Given as goal

abbrev pub invariant-loop-line : goal.invariant-loop-line
invariant-loop-line l = have_line l.name l.lines ≡ have_line l.name (drop l.line-index l.lines)
