use Rattle.std.proofs.Common.{sym, ◌∙◌}
use Rattle.std.proofs.lemmas.Result.{IfOk-weaker}
use Rattle.proc_reset.proofs.Choosing.{held_none, held_one}
use Rattle.proc_reset.proofs.process.is_free.Goals as goal

pub returns-then-lines_hold : goal.returns-then-lines_hold
returns-then-lines_hold c = record {
  value = λ ports m active are leaves. held_one _ _ (sym c.if-lines_hold.true ∙ c.lines_hold.ensures.value active c.args.bits.now leaves);
}

pub returns : goal.returns
returns c = record {
  value = λ ports m active are leaves.
      IfOk-weaker c.are_free.result _ _
      (λ free e. held_none _ _ free (sym c.if-lines_hold.false ∙ c.lines_hold.ensures.value active c.args.bits.now leaves) e)
      (c.are_free.ensures.value ports m are);
}
