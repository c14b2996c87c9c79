use Rattle.std.proofs.Common.{[], subst, sym}
use Rattle.std.proofs.lemmas.List.{take_all}
use Rattle.flat_net.specs.Sources.{AreHeldBits}
use Rattle.flat_net.proofs.Kept.{within-Keeps}
use Rattle.flat_net.proofs.Reading.{Extends-refl, Extends-then}
use Rattle.flat_net.proofs.Sourcing.{AreHeldBits-next}
use Rattle.flat_net.proofs.places.Places.held_bits.Goals as goal

pub loop-line-init : goal.loop-line-init
loop-line-init c = record {
  grows = Extends-refl _;
  made = λ p path start is. subst (λ bs. AreHeldBits c.args.self.now.places start p c.args.scope.now.wires.now c.args.bits.now bs []) (sym c.in_ok-held.ensures.items) tt;
}

pub held_bit-requires : goal.held_bit-requires
held_bit-requires c = record { in_range = within-Keeps _ _ _ c.loop-line.invariant.grows.paths c.requires.in_range }

pub loop-line-preserved : goal.loop-line-preserved
loop-line-preserved c = record {
  grows = Extends-then _ _ _ c.loop-line.invariant.grows c.in_ok-held_bit.ensures.grows;
  made = λ p path start is.
      AreHeldBits-next start p c.args.scope.now.wires.now c.args.bits.now c.loop-line.self.places c.held_bit.new.self.places _ _ c.in_ok-held_bit.field-0 c.args.lines.now c.loop-line.line-index _ c.in_ok-held_bit.ensures.grows.places
      c.loop-line-test.true (c.loop-line.invariant.made p path start is) (c.in_ok-held_bit.ensures.value p (c.loop-line.invariant.grows.paths _ _ path) start is) c.in_ok-push.ensures.items;
}

pub returns-clause-value : goal.returns-clause-value
returns-clause-value c = λ p path start is.
    rw c.from_vec.ensures.value
    (subst (λ ls. AreHeldBits c.loop-line.self.places start p c.args.scope.now.wires.now c.args.bits.now c.loop-line.held.items ls) (take_all _ c.args.lines.now c.loop-line-test.false)
    (c.loop-line.invariant.made p path start is))
