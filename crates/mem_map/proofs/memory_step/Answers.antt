use Rattle.std.proofs.Common.{rules, ◌==◌, ◌∙◌, ap, sym, length}
use Rattle.mem_map.specs.Words.{words_of}
use Rattle.mem_map.proofs.Passing.{made_over, steps_over}
use Rattle.mem_map.proofs.memory_step.Goals as goal

pub returns-in_err-words-clause-over : goal.returns-in_err-words-clause-over
returns-in_err-words-clause-over c e =
    made_over c.args.plan.now c.args.store.now c.args.builder (search (rules, c.words_made.ensures.over, e, c.from_residual.ensures))

pub returns-in_err-words_step-clause-over : goal.returns-in_err-words_step-clause-over
returns-in_err-words_step-clause-over c e =
    steps_over c.args.plan.now c.args.store.now c.args.builder (words_of c.in_ok-words.words, c.words_made.new.builder) c.in_ok-words.ensures.exact
    (sym (ap (λ ws. length ws == 0) c.as_slice.ensures.value) ∙ sym c.is_empty.ensures ∙ c.if-not-is_empty.true)
    (search (rules, c.words_step.ensures.over, e, c.from_residual-in_err-words_step.ensures))
