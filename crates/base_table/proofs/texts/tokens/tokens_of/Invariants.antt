use Rattle.rtl_lex.specs.Place.{IsPlaceIn}
use Rattle.base_table.proofs.texts.tokens.tokens_of.Given as goal

abbrev pub invariant-loop : goal.invariant-loop
invariant-loop l = IsPlaceIn l.text l.place
