-- The bits from here on are known, and this is their number.
use Rattle.std.proofs.Common.{◌^◌, Some, drop}
use Rattle.sim_eval.specs.Fetched.{IsNumber}
use Rattle.sim_eval.specs.Numbers.{number_word}
use Rattle.sim_eval.proofs.fetched.number_of.Given as goal

abbrev pub invariant-loop-at : goal.invariant-loop-at
invariant-loop-at l = IsNumber (2 ^ 100) (number_word l.values (drop l.at l.address)) (Some l.number)
