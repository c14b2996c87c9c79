-- The names have the ports from the place on.
use Rattle.std.proofs.Common.{drop}
use Rattle.net_index.specs.Types.{IsTable}
use Rattle.net_index.proofs.types.line_names.Given as goal

abbrev pub invariant-loop-at : goal.invariant-loop-at
invariant-loop-at l = IsTable l.names (drop l.at l.lines)
