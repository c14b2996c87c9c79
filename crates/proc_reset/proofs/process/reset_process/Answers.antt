use Rattle.std.proofs.Common.{◌++◌, sym, ◌∙◌, ap}
use Rattle.rtl_ir.specs.Rules.{acting_rules}
use Rattle.net_model.specs.Proc.Reset.{reset_process}
use Rattle.proc_reset.proofs.ActingLemmas.{other_stays}
use Rattle.proc_reset.proofs.Choosing.{answer_is}
use Rattle.proc_reset.proofs.process.reset_process.Goals as goal

pub returns-in-Pair : goal.returns-in-Pair
returns-in-Pair c = record {
  value = λ ports is.
      let m = c.args.outer.now.«module».now in
      let others = c.args.others.now.before.now ++ c.args.others.now.after.now in
      answer_is c.reset_by.result _ _ (ap (reset_process ports m others c.args.process.now) (sym c.in-Pair.ensures.value ∙ ap acting_rules c.as_slice.ensures.value)) (c.reset_by.ensures.value ports is);
}

pub returns-in-Idle : goal.returns-in-Idle
returns-in-Idle c = record {
  value = λ ports is.
      let p = c.args.process.now in
      let m = c.args.outer.now.«module».now in
      let others = c.args.others.now.before.now ++ c.args.others.now.after.now in
      answer_is c.copy.result p _
      (other_stays ports m others p c.acting_rules.result _ c.acting_rules.ensures.value c.in-Idle.is ∙ ap (reset_process ports m others p) (ap acting_rules c.as_slice.ensures.value))
      c.copy.ensures.value;
}
