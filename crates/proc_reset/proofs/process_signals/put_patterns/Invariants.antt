-- The signals so far and the patterns that are left are all.
use Rattle.std.proofs.Common.{◌≡◌, ◌++◌, drop, flat_map}
use Rattle.proc_reset.proofs.process_signals.put_patterns.Given as goal

abbrev pub invariant-loop-pattern : goal.invariant-loop-pattern
invariant-loop-pattern l = l.signals.items ++ flat_map (λ pattern. pattern) (drop l.pattern-index l.patterns) ≡ l.fn.signals.items ++ flat_map (λ pattern. pattern) l.patterns
