use Rattle.std.proofs.Common.{arith, ◌∙◌}
use Rattle.synth_io.proofs.Bytes.{Appends-front, length-front}
use Rattle.synth_io.specs.declared.output.TheConstants.{PIECE}
use Rattle.synth_io.proofs.output.write_reply.Goals as goal

pub loop-done-preserved : goal.loop-done-preserved
loop-done-preserved g c = record {
  written = Appends-front _ _ _ _ _ _ PIECE _ c.front.ensures.value c.in_ok-done.ensures.bound c.loop-done.invariant.written c.in_ok-done.ensures.bytes;
  within = omega (arith, c.in_ok-done.ensures.bound, length-front _ _ _ PIECE c.loop-done.invariant.within c.front.ensures.value);
  same = c.in_ok-done.ensures.cause.ok ∙ c.loop-done.invariant.same;
}
