use Rattle.std.proofs.Common.{arith}
use Rattle.std.proofs.lemmas.Grind.{common_steps}
use Rattle.opt_clean.proofs.wires.Moves.signal.Goals as goal

pub loop-bit-preserved : goal.loop-bit-preserved
loop-bit-preserved c = λ marks are. grind (arith, common_steps, c.loop-bit.invariant marks are, c.bit.ensures.value marks are, c.in_ok-push.ensures.ok)

pub returns : goal.returns
returns c = record { value = λ marks are. grind (arith, common_steps, c.loop-bit.invariant marks are) }
