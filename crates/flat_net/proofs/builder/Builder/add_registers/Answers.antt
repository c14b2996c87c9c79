use Rattle.flat_net.proofs.Adding.{Adds-part}
use Rattle.flat_net.proofs.Registering.{register_part}
use Rattle.flat_net.proofs.builder.Builder.add_registers.Goals as goal

pub returns-clause-rows : goal.returns-clause-rows
returns-clause-rows c = λ p path start is they pins.
    let part = register_part start p c.args.scope.now.wires.now c.args.register.now they _ c.in_ok-new.field-0 _ _ c.in_ok-new.ensures.ok c.rule_shape.ensures.value (c.in_ok-bits.ensures.value p path start is they pins) in
    Adds-part _ _ _ _ c.in_ok-bits.ensures.grows c.in_ok-push.ensures.items part.0 part.1
