-- What is left so far, with what is left of the patterns behind, is all that is left.
use Rattle.std.proofs.Common.{drop}
use Rattle.net_index.proofs.DriverReading.{ReadSo}
use Rattle.net_index.proofs.driver_rules.read_patterns.Given as goal

abbrev pub invariant-loop-pattern : goal.invariant-loop-pattern
invariant-loop-pattern l = ReadSo l.signal l.fn.earlier.items l.patterns l.earlier.items (drop l.pattern-index l.patterns) l.left
