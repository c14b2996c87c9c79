use Rattle.std.proofs.Common.{◌∙◌, ap}
use Rattle.rtl_check.specs.Tallies.{bits_of_tree, with_bits}
use Rattle.rtl_check.proofs.Tallying.{counted_next}
use Rattle.rtl_check.proofs.bits.count_trees.Goals as goal

pub loop-process-preserved : goal.loop-process-preserved
loop-process-preserved c =
    counted_next bits_of_tree c.args.processes.now c.loop-process.process-index c.process-item.result c.loop-process-test.true c.process-item.is c.loop-process.tally c.count_bits.new.tally _
    (c.count_bits.ensures.value ∙ ap (with_bits c.loop-process.tally) (c.as_slice.ensures.value ∙ c.in_ok-bits.ensures.value)) c.loop-process.invariant
