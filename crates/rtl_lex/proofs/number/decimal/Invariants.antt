use Rattle.std.proofs.Common.{◌≡◌, ◌^◌, ◌<◌, take}
use Rattle.rtl_lex.specs.Numbers.{decimal}
use Rattle.rtl_lex.proofs.number.decimal.Given as goal

abbrev pub invariant-loop-digit : goal.invariant-loop-digit
invariant-loop-digit l = record { is : l.number ≡ decimal (take l.digit-index l.digits); below : l.number < 2 ^ 32 }
