use Rattle.std.proofs.Common.{ap, arith, length, length-drop}
use Rattle.mem_map.proofs.RunLengths.{run_goes}
use Rattle.mem_map.proofs.runs.run_lengths.Goals as goal

pub loop-at-preserved : goal.loop-at-preserved
loop-at-preserved c = record {
  all =
      run_goes c.args.bits.now c.loop-at.at c.cut.result.1.now c.low_bit.result c.cut-in-loop-at.result.1.now c.run_length-count.result c.loop-at.runs.items c.push.new.self.items c.loop-at-test.true c.cut.ensures.high c.low_bit.ensures.value c.cut-in-loop-at.ensures.high
      c.run_length-count.ensures.value c.in_ok-push.ensures.items c.loop-at.invariant.all;
  within =
      omega (arith, c.run_length-count.ensures.few, ap length c.cut-in-loop-at.ensures.high, length-drop 1 c.cut.result.1.now, ap length c.cut.ensures.high, length-drop c.loop-at.at c.args.bits.now, c.loop-at-test.true);
}
