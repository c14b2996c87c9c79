use Rattle.design_edit.proofs.Tables.{place_put, all_placed}
use Rattle.design_edit.proofs.table.places_of.Goals as goal

pub loop-at-preserved : goal.loop-at-preserved
loop-at-preserved c =
    place_put c.loop-at.places c.insert.new.self c.as_slice.result c.index-modules-at.result c.args.modules.now c.loop-at.at (record { updates = c.in_ok-insert.ensures.updates }) c.as_slice.ensures.value c.loop-at-test.true c.loop-at.auto.at c.index-modules-at.is c.loop-at.invariant

pub returns : goal.returns
returns c = record { places = all_placed c.loop-at.places c.args.modules.now c.loop-at.at c.loop-at-test.false c.loop-at.invariant }
