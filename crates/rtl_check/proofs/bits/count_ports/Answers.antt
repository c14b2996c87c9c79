use Rattle.std.proofs.Common.{◌∙◌, ap}
use Rattle.rtl_check.specs.Tallies.{bits_of_port, with_bits}
use Rattle.rtl_check.proofs.Tallying.{port_next}
use Rattle.rtl_check.proofs.bits.count_ports.Goals as goal

pub loop-place-preserved : goal.loop-place-preserved
loop-place-preserved c =
    port_next c.args.wires.now c.loop-place.place c.index-wires-place.result c.loop-place-test.true c.index-wires-place.is c.loop-place.tally c.count_port.new.tally _
    (c.count_port.ensures.value ∙ ap (λ n. with_bits c.loop-place.tally (bits_of_port n c.index-wires-place.result)) c.in_ok-place_of.ensures.value) c.loop-place.invariant
