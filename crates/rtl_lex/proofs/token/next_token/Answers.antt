use Rattle.std.proofs.Common.{◌∙◌, ap, false, take, drop}
use Rattle.std.proofs.lemmas.List.{take_rest}
use Rattle.rtl_lex.specs.Gaps.{gap}
use Rattle.rtl_lex.specs.Place.{is_flat}
use Rattle.rtl_lex.proofs.FlatTokens.{flat_gap}
use Rattle.rtl_lex.proofs.token.next_token.Goals as goal

pub along-place-requires-clause-flat : goal.along-place-requires-clause-flat
along-place-requires-clause-flat c =
    let bytes = drop c.args.from.at c.args.text.now in
    ap (λ n. is_flat (take n bytes)) (c.gap-skip.ensures.gap ∙ ap (gap false false) (take_rest c.args.text.now c.args.from.at)) ∙ flat_gap false bytes
