use Rattle.std.proofs.Common.{rules, ◌<◌, ◌∙◌, ap, subst, length, get_or}
use Rattle.mem_map.proofs.Going.{word_over}
use Rattle.mem_map.proofs.chain.words_step.Goals as goal

pub returns-in_err-word_step-clause-over : goal.returns-in_err-word_step-clause-over
returns-in_err-word_step-clause-over c e =
    word_over c.args.plan.now c.args.words.now.signals c.loop-signal.signal-index c.signal-item.result
    (subst (λ ss. c.loop-signal.signal-index < length ss) c.as_slice-signal-items.ensures.value c.loop-signal-test.true)
    (c.signal-item.is ∙ ap (λ ss. get_or ss c.loop-signal.signal-index c.signal-item.result) c.as_slice-signal-items.ensures.value)
    c.loop-signal.address c.loop-signal.builder _ c.loop-signal.invariant.all
    (search (rules, c.word_step.ensures.over, e, c.from_residual.ensures))
