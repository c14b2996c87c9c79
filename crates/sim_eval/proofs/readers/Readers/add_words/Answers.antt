use Rattle.std.proofs.Common.{List, subst, ◌∙◌}
use Rattle.flat_net.specs.declared.net.Point.{Point}
use Rattle.sim_eval.specs.Reads.{AddsReads}
use Rattle.sim_eval.proofs.AddingReads.{adds_next}
use Rattle.sim_eval.proofs.readers.Readers.add_words.Goals as goal

pub loop-word-preserved : goal.loop-word-preserved
loop-word-preserved c =
    adds_next c.args.words.now c.loop-word.word-index c.word-item.result c.args.self.now c.loop-word.self c.add_points.new.self c.args.place c.loop-word-test.true (λ (w : List Point). w) c.loop-word.invariant
    (subst (λ z. AddsReads c.loop-word.self c.add_points.new.self c.args.place z) (c.as_slice.ensures.value ∙ c.word-item.is) c.in_ok-add_points.ensures.adds)
