use Rattle.std.proofs.Common.{arith}
use Rattle.std.proofs.lemmas.Grind.{common_steps}
use Rattle.fsm_parts.proofs.signals.followed.Goals as goal

pub loop-bit-preserved : goal.loop-bit-preserved
loop-bit-preserved c =
    λ ports m is.
    let h = c.loop-bit.invariant ports m is in
    let f = c.follow.ensures.value ports m is in
    grind (arith, common_steps, h, f)
