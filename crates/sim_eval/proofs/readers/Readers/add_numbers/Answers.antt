use Rattle.flat_net.specs.declared.net.Point.TheVariants.{At}
use Rattle.sim_eval.proofs.AddingReads.{adds_next_point}
use Rattle.sim_eval.proofs.readers.Readers.add_numbers.Goals as goal

pub loop-number-preserved : goal.loop-number-preserved
loop-number-preserved c =
    adds_next_point c.args.numbers.now c.loop-number.number-index _ c.args.self.now c.loop-number.self c.add.new.self c.args.place c.loop-number-test.true (λ n. At n) c.loop-number.invariant c.in_ok-add.ensures.adds
