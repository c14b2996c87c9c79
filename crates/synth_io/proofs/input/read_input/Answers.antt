use Rattle.std.proofs.Common.{arith}
use Rattle.synth_io.proofs.Bytes.{TakesAtMost-more}
use Rattle.synth_io.proofs.input.read_input.Goals as goal

pub returns-in-Err-clause-taken : goal.returns-in-Err-clause-taken
returns-in-Err-clause-taken g c =
    TakesAtMost-more _ _ _ _ _ _ c.loop-bytes.invariant.taken (omega arith) c.in-Err.ensures.lost
