use Rattle.std.proofs.Common.{[]}
use Rattle.flat_pass.proofs.Tables.{place_put}
use Rattle.flat_pass.proofs.by_name.ByName.of.Goals as goal

pub loop-at-preserved : goal.loop-at-preserved
loop-at-preserved c =
    place_put c.loop-at.places c.insert.new.self (record { ref_ptr = (0, 0); now = [] }) c.args.names.now c.loop-at.at (record { updates = c.in_ok-insert.ensures.updates }) c.loop-at-test.true c.loop-at.auto.at c.loop-at.invariant
