use Rattle.std.proofs.Common.{sym, ap, subst, ◌∙◌, drop, List}
use Rattle.script_core.specs.declared.word.Word.{Word}
use Rattle.script_core.specs.Fold.{AreApplicable, AreFlatApplicable}
use Rattle.script_core.proofs.FoldLemmas.{applicable_flat, applicable_plain, behind_two}
use Rattle.script_core.proofs.fold.fold.Goals as goal

pub fold_flat-requires : goal.fold_flat-requires
fold_flat-requires c = record {
  applicable = subst (λ (words : List Word). AreFlatApplicable words c.args.ports.now c.args.below.now.modules c.args.module)
      (ap (drop 2) (sym c.as_slice.ensures.value) ∙ sym (behind_two c.as_slice.result.now))
      (applicable_flat c.args.script.now c.args.ports.now c.args.below.now.modules c.args.module
      (sym c.flattens.ensures.value ∙ c.if-flattens.true)
      (c.requires.applicable c.as_slice.ensures.script));
}

pub fold_words-requires : goal.fold_words-requires
fold_words-requires c = record {
  applicable = subst (λ (words : List Word). AreApplicable words c.args.ports.now c.args.module) (sym c.as_slice-else-flattens.ensures.value)
      (applicable_plain c.args.script.now c.args.ports.now c.args.below.now.modules c.args.module
      (sym c.flattens.ensures.value ∙ c.if-flattens.false)
      (c.requires.applicable c.as_slice-else-flattens.ensures.script));
}
