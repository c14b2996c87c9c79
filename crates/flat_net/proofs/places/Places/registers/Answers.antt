use Rattle.std.proofs.Common.{[], subst, sym}
use Rattle.std.proofs.lemmas.List.{take_all}
use Rattle.flat_net.specs.Registers.{AreRegisters}
use Rattle.flat_net.proofs.Kept.{within-Keeps}
use Rattle.flat_net.proofs.Reading.{Extends-refl, Extends-then}
use Rattle.flat_net.proofs.Registering.{AreRegisters-next, AreRegisters-none, ArePins-kept}
use Rattle.flat_net.proofs.places.Places.registers.Goals as goal

pub loop-line-init : goal.loop-line-init
loop-line-init c = record {
  grows = Extends-refl _;
  made = λ p path start is they pins.
      subst (λ bs. AreRegisters c.args.self.now.places start p c.args.scope.now.wires.now c.args.register.now they bs []) (sym c.in_ok-bits.ensures.items) (AreRegisters-none start p c.args.scope.now.wires.now c.args.register.now they c.args.self.now.places);
}

pub register-requires : goal.register-requires
register-requires c = record { in_range = within-Keeps _ _ _ c.loop-line.invariant.grows.paths c.requires.in_range }

pub loop-line-preserved : goal.loop-line-preserved
loop-line-preserved c = record {
  grows = Extends-then _ _ _ c.loop-line.invariant.grows c.in_ok-register.ensures.grows;
  made = λ p path start is they pins.
      let before = c.loop-line.invariant.grows in
      let one = c.in_ok-register.ensures.value p (before.paths _ _ path) start is they (ArePins-kept _ _ c.args.register.now they before.places pins) in
      AreRegisters-next start p c.args.scope.now.wires.now c.args.register.now they c.loop-line.self.places c.register.new.self.places _ _ c.in_ok-register.field-0 c.args.lines.now c.loop-line.line-index _
      c.in_ok-register.ensures.grows.places c.loop-line-test.true (c.loop-line.invariant.made p path start is they pins) one c.in_ok-push.ensures.items;
}

pub returns-clause-value : goal.returns-clause-value
returns-clause-value c = λ p path start is they pins.
    rw c.from_vec.ensures.value
    (subst (λ ls. AreRegisters c.loop-line.self.places start p c.args.scope.now.wires.now c.args.register.now they c.loop-line.bits.items ls) (take_all _ c.args.lines.now c.loop-line-test.false)
    (c.loop-line.invariant.made p path start is they pins))
