use Rattle.std.proofs.Common.{arith}
use Rattle.mem_map.proofs.Wiring.{fixed_end}
use Rattle.mem_map.proofs.words.fixed_words.Goals as goal

pub returns : goal.returns
returns c = record { value = fixed_end c.args.first c.args.starts.now c.loop-bits.bits-index c.loop-bits.signals (omega (arith, c.loop-bits-test.false)) c.loop-bits.invariant }
