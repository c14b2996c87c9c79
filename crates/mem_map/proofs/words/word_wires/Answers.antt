use Rattle.std.proofs.Common.{rules, arith}
use Rattle.mem_map.proofs.Wiring.{wire_over, wires_end}
use Rattle.mem_map.proofs.words.word_wires.Goals as goal

pub returns-in_err-word_wire-clause-over : goal.returns-in_err-word_wire-clause-over
returns-in_err-word_wire-clause-over c e =
    wire_over c.args.first c.args.starts.now c.args.builder.now c.loop-bits.bits-index c.loop-bits.signals c.loop-bits.builder c.loop-bits.invariant.all c.bits-item.result c.loop-bits-test.true c.bits-item.is
    (search (rules, c.word_wire.ensures.over, e, c.from_residual.ensures))

pub returns-clause-exact : goal.returns-clause-exact
returns-clause-exact c =
    wires_end c.args.first c.args.starts.now c.args.builder.now c.loop-bits.bits-index c.loop-bits.signals c.loop-bits.builder c.loop-bits.invariant.all (omega (arith, c.loop-bits-test.false))
