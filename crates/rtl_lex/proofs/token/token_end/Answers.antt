use Rattle.std.proofs.Common.{◌∙◌, drop, sym}
use Rattle.rtl_lex.proofs.FlatTokens.{flat_token}
use Rattle.rtl_lex.proofs.token.token_end.Goals as goal

pub along-requires-clause-flat : goal.along-requires-clause-flat
along-requires-clause-flat c =
    flat_token c.args.kind c.args.count (sym c.is_plain.ensures.value ∙ c.if-is_plain.true) (drop c.args.from.at c.args.text.now) c.requires.token
