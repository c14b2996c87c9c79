use Rattle.std.proofs.Common.{get_or, refl}
use Rattle.script_core.specs.declared.word.Word.TheVariants.{Proc}
use Rattle.script_core.proofs.FoldLemmas.{applicable_now}
use Rattle.script_core.proofs.fold.fold_words.Goals as goal

pub step-requires : goal.step-requires
step-requires c = record { ready = applicable_now c.args.words.now c.loop-word.word-index Proc (get_or c.args.words.now c.loop-word.word-index Proc) c.loop-word-test.true refl c.args.ports.now c.loop-word.module c.loop-word.invariant.1; settled = c.loop-word.invariant.2 }
