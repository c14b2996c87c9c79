use Rattle.std.proofs.Common.{◌≡◌, ◌+◌, ◌≤◌, take}
use Rattle.rtl_lex.specs.Place.{moved}
use Rattle.rtl_lex.proofs.place.moved.Given as goal

abbrev pub invariant-loop-byte : goal.invariant-loop-byte
invariant-loop-byte l = record {
  place : record { at = l.at; line = l.line; column = l.column } ≡ moved l.fn.from (take l.byte-index l.bytes);
  at_is : l.at ≡ l.fn.from.at + l.byte-index;
  line_below : l.line ≤ l.fn.from.line + l.byte-index;
  column_below : l.column ≤ l.fn.from.column + l.byte-index;
}
