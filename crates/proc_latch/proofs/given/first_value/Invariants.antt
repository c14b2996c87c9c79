-- What those that are left give, else what those before give, is what all give.
use Rattle.std.proofs.Common.{◌≡◌, drop}
use Rattle.std.specs.Option.{option_or}
use Rattle.proc_latch.specs.Givens.{value_at}
use Rattle.proc_latch.proofs.given.first_value.Given as goal

abbrev pub invariant-loop-one : goal.invariant-loop-one
invariant-loop-one l = option_or (value_at (drop l.one-index l.given) l.node) l.found ≡ value_at l.given l.node
