use Rattle.std.proofs.Common.{[], subst, sym}
use Rattle.std.proofs.lemmas.List.{take_all}
use Rattle.flat_net.specs.Memories.{AreReadPorts}
use Rattle.flat_net.proofs.Fetching.{AreReadPorts-next}
use Rattle.flat_net.proofs.Kept.{within-Keeps}
use Rattle.flat_net.proofs.Reading.{Extends-refl, Extends-then}
use Rattle.flat_net.proofs.places.Places.read_ports.Goals as goal

pub loop-read-init : goal.loop-read-init
loop-read-init c = record {
  grows = Extends-refl _;
  made = λ p path. subst (λ rs. AreReadPorts c.args.self.now.places p c.args.scope.now.wires.now rs []) (sym c.in_ok-ports.ensures.items) tt;
}

pub read_port-requires : goal.read_port-requires
read_port-requires c = record { in_range = within-Keeps _ _ _ c.loop-read.invariant.grows.paths c.requires.in_range }

pub loop-read-preserved : goal.loop-read-preserved
loop-read-preserved c = record {
  grows = Extends-then _ _ _ c.loop-read.invariant.grows c.in_ok-port.ensures.grows;
  made = λ p path.
      AreReadPorts-next _ _ p c.args.scope.now.wires.now _ _ c.args.reads.now c.loop-read.read-index _ c.read-item.result c.in_ok-port.ensures.grows.places c.loop-read-test.true c.read-item.is
      (c.loop-read.invariant.made p path) (c.in_ok-port.ensures.value p (c.loop-read.invariant.grows.paths _ _ path)) c.in_ok-push.ensures.items;
}

pub returns-clause-value : goal.returns-clause-value
returns-clause-value c = λ p path.
    rw c.from_vec.ensures.value (subst (AreReadPorts c.loop-read.self.places p c.args.scope.now.wires.now c.loop-read.ports.items) (take_all _ c.args.reads.now c.loop-read-test.false) (c.loop-read.invariant.made p path))
