use Rattle.std.proofs.Common.{◌++◌, map, subst}
use Rattle.std.proofs.lemmas.List.{take_all}
use Rattle.flat_net.specs.Memories.{ArePorts, port_in}
use Rattle.flat_net.proofs.Kept.{within-Keeps}
use Rattle.flat_net.proofs.Reading.{Extends-then}
use Rattle.flat_net.proofs.Wording.{ports_next}
use Rattle.flat_net.proofs.places.Places.put_ports.Goals as goal

pub write_port-requires : goal.write_port-requires
write_port-requires c = record { in_range = within-Keeps _ _ _ c.loop-write.invariant.grows.paths c.requires.in_range }

pub loop-write-preserved : goal.loop-write-preserved
loop-write-preserved c = record {
  grows = Extends-then _ _ _ c.loop-write.invariant.grows c.in_ok-port.ensures.grows;
  made = λ p path they h.
      ports_next _ _ p c.args.scope.now.wires.now c.args.writes.now c.loop-write.write-index c.write-item.result _ _ they _ c.in_ok-port.ensures.grows.places c.loop-write-test.true c.write-item.is
      (c.loop-write.invariant.made p path they h) (c.in_ok-port.ensures.value p (c.loop-write.invariant.grows.paths _ _ path)) c.in_ok-push.ensures.items;
}

pub returns-clause-value : goal.returns-clause-value
returns-clause-value c = λ p path they h.
    subst (λ writes. ArePorts c.loop-write.self.places c.loop-write.ports.items (they ++ map (port_in p c.args.scope.now.wires.now) writes)) (take_all _ c.args.writes.now c.loop-write-test.false) (c.loop-write.invariant.made p path they h)
