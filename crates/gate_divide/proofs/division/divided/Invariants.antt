-- What is made so far is the division of the bits from here up.
use Rattle.std.proofs.Common.{◌≡◌, drop}
use Rattle.net_index.specs.Builder.{IsInLimits}
use Rattle.gate_divide.specs.Division.{divided_of}
use Rattle.gate_divide.proofs.division.divided.Given as goal

abbrev pub invariant-loop-at : goal.invariant-loop-at
invariant-loop-at l = record {
  net : divided_of (drop l.at l.dividend) l.divisor l.fn.builder ≡ (record { quotient = l.quotient; rest = l.rest }, l.builder);
  within : IsInLimits l.fn.builder → IsInLimits l.builder;
}
