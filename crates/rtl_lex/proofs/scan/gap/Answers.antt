use Rattle.std.proofs.Common.{◌∙◌, ◌+◌, ap, false}
use Rattle.std.proofs.lemmas.List.{take_rest}
use Rattle.rtl_lex.specs.Gaps.{gap}
use Rattle.rtl_lex.proofs.Spaces.{gap_behind}
use Rattle.rtl_lex.proofs.scan.gap.Goals as goal

pub returns-clause-gap : goal.returns-clause-gap
returns-clause-gap c =
    let rest = c.any_gap.ensures.gap ∙ ap (gap c.args.over false) (take_rest c.args.bytes.now c.spaces-count.result) in
    ap (λ n. c.spaces-count.result + n) rest ∙ gap_behind c.args.over c.args.bytes.now c.spaces-count.result c.spaces-count.ensures.run
