-- None so far has it.
use Rattle.std.proofs.Common.{◌≡◌, drop}
use Rattle.std.specs.List.{list_any}
use Rattle.process_check.specs.Flaws.{write_has}
use Rattle.process_check.proofs.flaws.writes_have.Given as goal

abbrev pub invariant-loop-line : goal.invariant-loop-line
invariant-loop-line l = list_any (write_has l.flaw) (drop l.line-index l.lines) ≡ list_any (write_has l.flaw) l.lines
