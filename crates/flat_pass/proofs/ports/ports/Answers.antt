use Rattle.std.proofs.Common.{◌∙◌, ap, map, subst, sym, Bor}
use Rattle.net_model.specs.Within.{Each}
use Rattle.flat_pass.specs.Ports.{HasPlace, port_line}
use Rattle.rtl_ir.specs.declared.wire.Wire.{Wire}
use Rattle.flat_pass.specs.ByName.{ArePlaces, names_now}
use Rattle.flat_pass.proofs.Porting.{lines_next, places_next, ports_done}
use Rattle.flat_pass.proofs.ports.ports.Goals as goal

pub port_of-requires : goal.port_of-requires
port_of-requires c = record {
  places = subst (ArePlaces c.in_ok-places.places) (ap names_now c.as_slice.ensures.value ∙ c.in_ok-names.ensures.value) c.in_ok-places.ensures.value;
}

pub loop-wire-preserved : goal.loop-wire-preserved
loop-wire-preserved c = record {
  lines =
      ap (map port_line) c.in_ok-push.ensures.items
      ∙ lines_next c.as_slice-wire-items.result.now c.loop-wire.wire-index c.wire-item.result c.loop-wire.ports.items c.port_of.result c.loop-wire-test.true c.wire-item.is c.port_of.ensures.wire c.loop-wire.invariant.lines;
  places = subst (Each (HasPlace c.args.wires.now)) (sym c.in_ok-push.ensures.items) (places_next c.args.wires.now c.loop-wire.ports.items c.port_of.result c.port_of.ensures.place c.loop-wire.invariant.places);
}

pub returns : goal.returns
returns c = record {
  value =
      ports_done c.args.wires.now c.as_slice-wire-items.result.now c.loop-wire.wire-index c.loop-wire.ports.items c.loop-wire-test.false
      (ap (map (λ (w : Bor Wire). w.now)) c.as_slice-wire-items.ensures.value ∙ c.in_ok-port_wires.ensures.value)
      c.loop-wire.invariant.lines c.loop-wire.invariant.places;
}
