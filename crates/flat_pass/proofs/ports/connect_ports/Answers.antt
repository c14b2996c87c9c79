use Rattle.std.proofs.Common.{◌∙◌, ap, subst}
use Rattle.flat_pass.specs.ByName.{ArePlaces, names_now}
use Rattle.flat_pass.proofs.Porting.{links_done, links_next}
use Rattle.flat_pass.proofs.ports.connect_ports.Goals as goal

pub port_pin-pin-requires : goal.port_pin-pin-requires
port_pin-pin-requires c = record {
  places = subst (ArePlaces c.in_ok-by_name.by_name) (ap names_now c.as_slice.ensures.value ∙ c.in_ok-names.ensures.value) c.in_ok-by_name.ensures.value;
}

pub loop-port-preserved : goal.loop-port-preserved
loop-port-preserved c = λ wires are.
    links_next c.args.first wires c.args.pins.now c.args.ports.now c.loop-port.port-index c.port-item.result are c.loop-port-test.true c.port-item.is c.port_pin-pin.result.now c.port_pin-pin.ensures.value c.loop-port.links c.connect_pin.new.links _ c.in_ok-connect_pin.ensures.ok (c.loop-port.invariant wires are)

pub returns : goal.returns
returns c = record {
  ok = λ wires are. links_done c.args.first wires c.args.pins.now c.args.ports.now c.loop-port.port-index are c.loop-port-test.false c.loop-port.links c.args.links.now (c.loop-port.invariant wires are);
}
