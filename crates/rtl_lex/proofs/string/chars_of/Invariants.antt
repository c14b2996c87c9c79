use Rattle.std.proofs.Common.{◌≡◌, ◌++◌, ◌-◌, ◌≤◌, length, drop, map}
use Rattle.rtl_lex.specs.Strings.{spelt}
use Rattle.rtl_lex.proofs.string.chars_of.Given as goal

abbrev pub invariant-loop-char : goal.invariant-loop-char
invariant-loop-char l = record {
  is : l.chars ++ map (λ c. c.0) (spelt 0 (drop l.at l.body)) ≡ map (λ c. c.0) (spelt 0 l.body);
  within : l.at ≤ length l.body;
}

abbrev pub decreases-loop-char : goal.decreases-loop-char
decreases-loop-char l = length l.body - l.at
