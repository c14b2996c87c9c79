-- None so far has it.
use Rattle.std.proofs.Common.{◌≡◌, drop}
use Rattle.std.specs.List.{list_any}
use Rattle.process_check.specs.Flaws.{other_width}
use Rattle.process_check.proofs.flaws.have_other_width.Given as goal

abbrev pub invariant-loop-pattern : goal.invariant-loop-pattern
invariant-loop-pattern l = list_any (other_width l.width) (drop l.pattern-index l.patterns) ≡ list_any (other_width l.width) l.patterns
