use Rattle.net_index.proofs.Tables.{line_put}
use Rattle.net_index.proofs.types.line_names.Goals as goal

pub loop-at-preserved : goal.loop-at-preserved
loop-at-preserved c =
    line_put c.loop-at.names c.insert.new.self c.as_slice.result c.index-lines-at.result (record { updates = c.in_ok-insert.ensures.updates }) c.as_slice.ensures.value
    c.args.lines.now c.loop-at.at c.loop-at-test.true c.loop-at.auto.at c.index-lines-at.is c.loop-at.invariant
