use Rattle.std.proofs.Common.{arith}
use Rattle.flat_net.proofs.Rooting.{AreOutputs-next}
use Rattle.flat_net.proofs.Kept.{within-Keeps}
use Rattle.flat_net.proofs.Reading.{Extends-then}
use Rattle.flat_net.proofs.places.Places.tree_outputs.Goals as goal

pub bit-requires : goal.bit-requires
bit-requires c = record { in_range = within-Keeps _ _ _ c.loop-at.invariant.grows.paths c.requires.in_range }

pub loop-at-preserved : goal.loop-at-preserved
loop-at-preserved c = record {
  grows = Extends-then _ _ _ c.loop-at.invariant.grows c.in_ok-number.ensures.grows;
  made = λ p path.
      AreOutputs-next p c.args.scope.now.wires.now c.args.bits.now c.loop-at.self.places c.bit.new.self.places c.loop-at.outputs.items c.push.new.self.items c.in_ok-number.number c.in_ok-at.at c.at.result c.loop-at.at
      c.in_ok-number.ensures.grows.places c.loop-at-test.true (omega (arith, c.loop-at.auto.at, c.len-at.ensures.value)) (c.loop-at.invariant.made p path)
      (c.in_ok-number.ensures.value p (c.loop-at.invariant.grows.paths _ _ path)) c.at.ensures.value c.in_ok-at.ensures.value c.in_ok-push.ensures.items;
}
