use Rattle.std.proofs.Common.{◌≡◌, IfOk, map, ap, ◌∙◌, subst}
use Rattle.desk_read.specs.Heads.{head_by}
use Rattle.desk_read.specs.Words.{words_of}
use Rattle.desk_read.proofs.Heads.{five_words}
use Rattle.desk_read.proofs.head.head_of.Goals as goal

pub returns : goal.returns
returns c =
    let line = c.args.line.now in
    let is = ap (λ words. head_by words line) (ap (map (λ word. word.now)) c.as_slice.ensures.value ∙ c.in_ok-words.ensures.value) ∙ five_words (words_of line) line in
    record { value = subst (λ said. IfOk c.head_by.result (λ head. head ≡ said)) is c.head_by.ensures.value }
