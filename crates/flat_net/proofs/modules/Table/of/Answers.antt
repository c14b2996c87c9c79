use Rattle.std.proofs.Common.{◌∙◌, ap, refl}
use Rattle.flat_net.specs.Tables.{ports_in}
use Rattle.flat_net.proofs.Tabling.{entry_put}
use Rattle.flat_net.proofs.modules.Table.of.Goals as goal

pub loop-at-preserved-in_ok-insert : goal.loop-at-preserved-in_ok-insert
loop-at-preserved-in_ok-insert c =
    entry_put c.loop-at.found c.insert.new.self c.as_slice-in-loop-at.result c.index-modules-at.result _ (record { updates = c.in_ok-insert.ensures.updates }) c.as_slice-in-loop-at.ensures.value
    (record { rows = λ ports p. refl; cells = refl; ports = c.in_ok-ports.ensures.value ∙ ap ports_in c.as_slice.ensures.value })
    c.args.modules.now c.loop-at.at c.loop-at-test.true c.loop-at.auto.at c.index-modules-at.is c.loop-at.invariant

pub loop-at-preserved : goal.loop-at-preserved
loop-at-preserved c =
    entry_put c.loop-at.found c.insert.new.self c.as_slice-in-loop-at.result c.index-modules-at.result _ (record { updates = c.in_ok-insert.ensures.updates }) c.as_slice-in-loop-at.ensures.value
    (record { rows = λ ports p. refl; cells = refl; ports = c.in_ok-ports.ensures.value ∙ ap ports_in c.as_slice.ensures.value })
    c.args.modules.now c.loop-at.at c.loop-at-test.true c.loop-at.auto.at c.index-modules-at.is c.loop-at.invariant
