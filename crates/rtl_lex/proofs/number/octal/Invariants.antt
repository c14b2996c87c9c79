use Rattle.std.proofs.Common.{◌≡◌, ◌^◌, ◌<◌, take}
use Rattle.rtl_lex.specs.Numbers.{octal}
use Rattle.rtl_lex.proofs.number.octal.Given as goal

abbrev pub invariant-loop-digit : goal.invariant-loop-digit
invariant-loop-digit l = record { is : l.number ≡ octal (take l.digit-index l.digits); below : l.number < 2 ^ 8 }
