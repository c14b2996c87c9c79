use Rattle.std.proofs.Common.{◌≡◌}
use Rattle.rtl_lex.specs.Values.{fitted}
use Rattle.rtl_lex.proofs.value.bits_of.Given as goal

abbrev pub invariant-loop-at : goal.invariant-loop-at
invariant-loop-at l = l.bits.items ≡ fitted l.at l.written
