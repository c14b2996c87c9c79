use Rattle.std.proofs.Common.{◌∙◌, refl, sym}
use Rattle.flat_net.specs.Words.{word_row}
use Rattle.sim_eval.specs.Moment.{time_of}
use Rattle.sim_eval.proofs.Taking.{advances_by_put, advances_known}
use Rattle.sim_eval.proofs.remembered.update_word_bit.Goals as goal

pub returns-clause-advances : goal.returns-clause-advances
returns-clause-advances c = λ ps board words within.
    advances_by_put ps (time_of ps c.args.moment.now) (word_row ps c.args.words.now c.args.bit.now) _ _ _ c.args.bit.now.number _ board.apart board.now within refl (c.in_ok-value.ensures.value ps board words within) c.put.ensures.value c.put.ensures.gains

pub returns-then-has_value-clause-advances : goal.returns-then-has_value-clause-advances
returns-then-has_value-clause-advances c = λ ps board words within.
    advances_known ps (time_of ps c.args.moment.now) (word_row ps c.args.words.now c.args.bit.now) c.args.now.now c.args.bit.now.number board.apart board.now within refl (sym c.has_value.ensures.value ∙ c.if-has_value.true)
