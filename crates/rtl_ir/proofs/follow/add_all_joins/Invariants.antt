-- The places so far and those of the lines that are left are all.
use Rattle.std.proofs.Common.{◌≡◌, ◌++◌, drop}
use Rattle.rtl_ir.specs.Follow.{all_joins}
use Rattle.rtl_ir.proofs.follow.add_all_joins.Given as goal

abbrev pub invariant-loop-line : goal.invariant-loop-line
invariant-loop-line l = l.found.items ++ all_joins (drop l.line-index l.lines) ≡ l.fn.found.items ++ all_joins l.lines
