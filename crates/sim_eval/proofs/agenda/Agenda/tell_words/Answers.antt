use Rattle.flat_net.specs.declared.memory.WordBit.{WordBit}
use Rattle.sim_eval.proofs.Marking.{tells_next}
use Rattle.sim_eval.proofs.agenda.Agenda.tell_words.Goals as goal

pub loop-bit-preserved : goal.loop-bit-preserved
loop-bit-preserved c =
    tells_next c.args.readers.now c.args.now.now c.args.bits.now c.loop-bit.bit-index _ c.args.self.now c.loop-bit.self c.tell.new.self c.loop-bit-test.true (λ (x : WordBit). x.number) c.loop-bit.invariant c.in_ok-tell.ensures.tells
