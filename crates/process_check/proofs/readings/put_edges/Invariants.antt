-- The edges so far, and those that are left, are all.
use Rattle.std.proofs.Common.{◌≡◌, ◌++◌, drop}
use Rattle.process_check.specs.Readings.{edges_to}
use Rattle.process_check.proofs.readings.put_edges.Given as goal

abbrev pub invariant-loop-to : goal.invariant-loop-to
invariant-loop-to l = l.edges.items ++ edges_to l.from (drop l.to-index l.numbers) ≡ l.initial.edges.items ++ edges_to l.from l.numbers
