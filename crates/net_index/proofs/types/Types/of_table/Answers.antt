use Rattle.net_index.proofs.Tables.{listed_put}
use Rattle.net_index.proofs.types.Types.of_table.Goals as goal

pub loop-at-preserved-in_ok-insert : goal.loop-at-preserved-in_ok-insert
loop-at-preserved-in_ok-insert c =
    listed_put c.loop-at.found c.insert.new.self c.as_slice-in-loop-at.result c.index-modules-at.result c.in_ok-ports.ports (record { updates = c.in_ok-insert.ensures.updates }) c.as_slice-in-loop-at.ensures.value c.as_slice.result.now c.as_slice.ensures.value c.in_ok-ports.ensures.value
    c.as_slice-modules.result.now c.loop-at.at c.loop-at-test.true c.loop-at.auto.at c.index-modules-at.is c.loop-at.invariant

pub loop-at-preserved : goal.loop-at-preserved
loop-at-preserved c =
    listed_put c.loop-at.found c.insert.new.self c.as_slice-in-loop-at.result c.index-modules-at.result c.in_ok-ports.ports (record { updates = c.in_ok-insert.ensures.updates }) c.as_slice-in-loop-at.ensures.value c.as_slice.result.now c.as_slice.ensures.value c.in_ok-ports.ensures.value
    c.as_slice-modules.result.now c.loop-at.at c.loop-at-test.true c.loop-at.auto.at c.index-modules-at.is c.loop-at.invariant
