use Rattle.std.proofs.Common.{◌≡◌, drop, sym, ap, ◌∙◌, Result, Err}
use Rattle.rtl_lex.specs.declared.token.LexFault.{LexFault}
use Rattle.rtl_lex.specs.declared.token.LexFault.TheVariants as faults
use Rattle.rtl_lex.specs.Tokens.{Piece, token_at}
use Rattle.rtl_lex.proofs.ItemLemmas.{at_end, at_bad, at_big, ok_leads, last_leads}
use Rattle.rtl_lex.proofs.item.next_item.Goals as goal

abbrev failed : LexFault → Result Piece LexFault
failed f = Err f

pub returns-then-is_ended-clause-item : goal.returns-then-is_ended-clause-item
returns-then-is_ended-clause-item c = λ items all.
    last_leads items _ _ _ _ c.last.ensures.item c.last.ensures.rest (at_end items _ _ _ (sym c.is_ended.ensures ∙ c.if-is_ended.true) all)

pub returns-in-Ok-clause-item : goal.returns-in-Ok-clause-item
returns-in-Ok-clause-item c = λ items all.
    ok_leads items c.args.text.now _ _ _ _ _ (sym c.is_ended.ensures ∙ c.if-is_ended.false) (sym c.in-Ok.ensures.token) c.in-Ok.ensures.placed.1 c.item_of.ensures.value c.is_line.ensures all

pub returns-in-Err-Lex-clause-item : goal.returns-in-Err-Lex-clause-item
returns-in-Err-Lex-clause-item c = λ items all.
    let read : token_at (drop c.args.from.at c.args.text.now) c.args.from ≡ Err (faults.Lex c.in-Err-Lex.place) = sym c.in-Err-Lex.ensures.token ∙ ap failed c.in-Err-Lex.field-0-is in
    last_leads items _ _ _ _ c.last-in-Err-Lex.ensures.item c.last-in-Err-Lex.ensures.rest (at_bad items _ _ _ _ (sym c.is_ended.ensures ∙ c.if-is_ended.false) read all)

pub returns-in-Err-Int-clause-item : goal.returns-in-Err-Int-clause-item
returns-in-Err-Int-clause-item c = λ items all.
    let read : token_at (drop c.args.from.at c.args.text.now) c.args.from ≡ Err (faults.Int c.in-Err-Int.place) = sym c.in-Err-Int.ensures.token ∙ ap failed c.in-Err-Int.field-0-is in
    last_leads items _ _ _ _ c.last-in-Err-Int.ensures.item c.last-in-Err-Int.ensures.rest (at_big items _ _ _ _ (sym c.is_ended.ensures ∙ c.if-is_ended.false) read all)
