use Rattle.std.proofs.Common.{sym}
use Rattle.net_index.proofs.Tables.{port_put}
use Rattle.net_index.proofs.types.wire_names.Goals as goal

pub loop-at-preserved-in_ok-insert : goal.loop-at-preserved-in_ok-insert
loop-at-preserved-in_ok-insert c =
    port_put c.loop-at.names c.insert.new.self c.as_slice.result c.index-wires-at.result (record { updates = c.in_ok-insert.ensures.updates }) c.as_slice.ensures.value (sym c.if-is_port.ensures.value)
    c.args.wires.now c.loop-at.at c.loop-at-test.true c.loop-at.auto.at c.index-wires-at.is c.loop-at.invariant
