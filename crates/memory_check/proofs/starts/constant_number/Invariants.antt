-- The places from here on are constants, and this is their number.
use Rattle.memory_check.specs.Starts.{IsNumber}
use Rattle.std.proofs.Common.{drop}
use Rattle.std.specs.Prelude.{Some}
use Rattle.memory_check.proofs.starts.constant_number.Given as goal

abbrev pub invariant-loop-at : goal.invariant-loop-at
invariant-loop-at l = IsNumber (drop l.at l.signal) (Some l.number)
