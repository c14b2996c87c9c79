use Rattle.std.proofs.Common.{◌∙◌, ap}
use Rattle.std.specs.Prelude.{slice_get}
use Rattle.proc_tree.proofs.Placing.{there, wires_next}
use Rattle.proc_tree.proofs.wires.begun_wires.Goals as goal

pub loop-place-preserved : goal.loop-place-preserved
loop-place-preserved c = λ m are same.
    wires_next m c.args.wires.now c.loop-place.place c.index-wires-place.result c.loop-place-test.true c.index-wires-place.is
    c.loop-place.begun.items c.push.new.self.items _ c.in_ok-begun_wire.field-0 c.in_ok-push.ensures.items
    (c.in_ok-begun_wire.ensures.value m are (ap (λ wires. slice_get wires c.loop-place.place) same ∙ there c.args.wires.now c.loop-place.place c.index-wires-place.result c.loop-place-test.true c.index-wires-place.is))
    (c.loop-place.invariant m are same)
