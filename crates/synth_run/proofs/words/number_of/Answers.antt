use Rattle.std.proofs.Common.{sym, ap, ◌∙◌, arith}
use Rattle.synth_run.specs.Words.{is_number}
use Rattle.synth_run.proofs.Numbers.{number_lost}
use Rattle.synth_run.proofs.words.number_of.Goals as goal

-- src/words.rt: what could not be read is too great
pub returns-in_default-3-clause-value : goal.returns-in_default-3-clause-value
returns-in_default-3-clause-value c =
    sym (number_lost c.args.most c.args.text.now c.in_default.field-0 c.in_default.ensures.value.0
    (sym (ap is_number c.as_bytes.ensures.value) ∙ sym c.is_number.ensures.value ∙ c.if-not-is_number.false) (omega arith))
