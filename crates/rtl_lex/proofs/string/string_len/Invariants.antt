use Rattle.std.proofs.Common.{◌≡◌, ◌+◌, ◌-◌, ◌≤◌, length, drop}
use Rattle.rtl_lex.specs.Strings.{spelt, spelt_len}
use Rattle.rtl_lex.proofs.string.string_len.Given as goal

abbrev pub invariant-loop-count : goal.invariant-loop-count
invariant-loop-count l = record {
  is : l.at + spelt_len (spelt 0 (drop l.at l.bytes)) ≡ spelt_len (spelt 0 l.bytes);
  within : l.at ≤ length l.bytes;
}

abbrev pub decreases-loop-count : goal.decreases-loop-count
decreases-loop-count l = length l.bytes - l.at
