use Rattle.flat_net.proofs.Fetching.{fetched_is}
use Rattle.flat_net.proofs.Kept.{within-Keeps}
use Rattle.flat_net.proofs.Reading.{AreReadPorts-kept, Extends-then}
use Rattle.flat_net.proofs.places.Places.fetched.Goals as goal

pub columns-requires : goal.columns-requires
columns-requires c = record { in_range = within-Keeps _ _ _ c.in_ok-ports.ensures.grows.paths c.requires.in_range }

pub returns-clause-grows : goal.returns-clause-grows
returns-clause-grows c = Extends-then _ _ _ c.in_ok-ports.ensures.grows c.in_ok-columns.ensures.grows

pub returns-clause-value : goal.returns-clause-value
returns-clause-value c = λ p path.
    let s = c.args.store.now in
    let qs = c.columns.new.self.places in
    let ports = AreReadPorts-kept _ qs c.in_ok-columns.ensures.grows.places p c.args.scope.now.wires.now _ _ (c.in_ok-ports.ensures.value p path) in
    let columns = c.in_ok-columns.ensures.value p (c.in_ok-ports.ensures.grows.paths _ _ path) in
    fetched_is qs p c.args.scope.now.wires.now s _ c.widest.result c.first_address.ensures.value columns c.args.reads.now c.widest.ensures.wide ports
