use Rattle.std.proofs.Common.{sym, ◌∙◌}
use Rattle.std.proofs.lemmas.Result.{IfOk-weaker}
use Rattle.proc_reset.proofs.Unread.{fixed_reads, others_read}
use Rattle.proc_reset.proofs.free.are_free.Goals as goal

pub returns-then-has_one : goal.returns-then-has_one
returns-then-has_one c = record {
  value = λ ports m are.
      fixed_reads ports m c.args.others.now.before.now c.args.others.now.after.now c.args.process.now c.args.bits.now
      (sym c.if-has_one.true ∙ c.has_one.ensures.value _ are);
}

pub returns : goal.returns
returns c = record {
  value = λ ports m are.
      IfOk-weaker c.are_apart.result _ _
      (λ free e.
      others_read ports m c.args.others.now.before.now c.args.others.now.after.now c.args.process.now c.args.bits.now
      (sym c.if-has_one.false ∙ c.has_one.ensures.value _ are) free e)
      (c.are_apart.ensures.value c.args.bits.now c.in_ok-set.ensures.value);
}
