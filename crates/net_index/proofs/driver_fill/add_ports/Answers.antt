use Rattle.std.proofs.Common.{subst}
use Rattle.net_index.specs.DriverFill.{Adds, drives_of_port}
use Rattle.net_index.proofs.IndexDrives.{adds_next, next_port}
use Rattle.net_index.proofs.driver_fill.add_ports.Goals as goal

pub loop-place-preserved : goal.loop-place-preserved
loop-place-preserved c =
    let w = c.index-wires-place.result in
    adds_next c.loop-place.drivers c.add_port.new.drivers c.args.drivers.now (drives_of_port c.loop-place.place w) _ _ _ (next_port c.args.wires.now c.loop-place.place w c.loop-place-test.true c.index-wires-place.is)
    (subst (λ n. Adds c.loop-place.drivers (drives_of_port n w) c.add_port.new.drivers) c.in_ok-narrowed.ensures.value c.in_ok-add_port.ensures.ok) c.loop-place.invariant
