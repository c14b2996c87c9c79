use Rattle.std.proofs.Common.{◌∙◌, subst}
use Rattle.rtl_ir.specs.Flat.Point.{points}
use Rattle.flat_net.specs.Reads.{ArePoints}
use Rattle.flat_net.proofs.Assigning.{AreSignals-next}
use Rattle.flat_net.proofs.Kept.{within-Keeps}
use Rattle.flat_net.proofs.Reading.{Extends-then}
use Rattle.flat_net.proofs.places.Places.signals.Goals as goal

pub points-requires : goal.points-requires
points-requires c = record { in_range = within-Keeps _ _ _ c.loop-signal.invariant.grows.paths c.requires.in_range }

pub loop-signal-preserved : goal.loop-signal-preserved
loop-signal-preserved c = record {
  grows = Extends-then _ _ _ c.loop-signal.invariant.grows c.in_ok-points.ensures.grows;
  made = λ p path.
      let wires = c.args.scope.now.wires.now in
      let word = c.in_ok-points.field-0 in
      let read = subst (λ s. ArePoints c.points.new.self.places word (points p wires s)) (c.as_slice.ensures.value ∙ c.signal-item.is) (c.in_ok-points.ensures.value p (c.loop-signal.invariant.grows.paths _ _ path)) in
      AreSignals-next c.loop-signal.self.places c.points.new.self.places p wires c.loop-signal.words.items _ c.args.signals.now c.loop-signal.signal-index c.signal-item.result word c.in_ok-points.ensures.grows.places c.loop-signal-test.true
      (c.loop-signal.invariant.made p path) read c.in_ok-push.ensures.items;
}
