use Rattle.std.proofs.Common.{arith}
use Rattle.process_check.proofs.ReadingLemmas.{sources_end, sources_next}
use Rattle.process_check.proofs.readings.put_sources.Goals as goal

pub loop-at-preserved : goal.loop-at-preserved
loop-at-preserved c = λ b. sources_next c.args.left.now c.args.right.now c.loop-at.at _ (omega arith) b _ _ _ (c.in_ok-put_source.ensures.ok b) (c.loop-at.invariant b)

pub returns : goal.returns
returns c = record { ok = λ b. sources_end c.args.left.now c.args.right.now c.loop-at.at (omega arith) b _ _ (c.loop-at.invariant b) }
