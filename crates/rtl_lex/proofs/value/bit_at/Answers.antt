use Rattle.std.proofs.Common.{sym, ◌∙◌}
use Rattle.rtl_lex.proofs.Filling.{written_at}
use Rattle.rtl_lex.proofs.value.bit_at.Goals as goal

pub returns-then-at-written : goal.returns-then-at-written
returns-then-at-written c = c.bit_of.ensures ∙ sym (written_at c.args.written.now c.args.at c.args.fill c.if-at-written.true)
