use Rattle.std.proofs.Common.{arith}
use Rattle.std.proofs.lemmas.Grind.{common_steps}
use Rattle.opt_clean.proofs.followed.followed_signal.Goals as goal

pub loop-bit-preserved : goal.loop-bit-preserved
loop-bit-preserved c = λ ports m is. grind (arith, common_steps, c.loop-bit.invariant ports m is, c.follow.ensures.value ports m is)

pub returns : goal.returns
returns c = record { value = λ ports m is. grind (arith, common_steps, c.loop-bit.invariant ports m is) }
