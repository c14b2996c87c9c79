use Rattle.std.proofs.Common.{[]}
use Rattle.flat_pass.proofs.Counting.{add_step}
use Rattle.flat_pass.proofs.counts.Counts.add_all.Goals as goal

pub loop-name-preserved : goal.loop-name-preserved
loop-name-preserved c =
    λ n. add_step c.args.names.now c.loop-name.name-index (record { ref_ptr = (0, 0); now = [] }) c.loop-name.self c.add.new.self c.loop-name-test.true c.in_ok-add.ensures.ok n _ (c.loop-name.invariant n)
