use Rattle.std.proofs.Common.{◌∙◌, ap, refl}
use Rattle.flat_net.specs.Tables.{ports_in}
use Rattle.flat_net.proofs.Titling.{titled_put}
use Rattle.flat_net.proofs.modules.Table.of_titled.Goals as goal

pub loop-at-preserved-in_ok-insert : goal.loop-at-preserved-in_ok-insert
loop-at-preserved-in_ok-insert c =
    titled_put c.loop-at.found c.insert.new.self c.index-modules-at.result.id c.index-modules-at.result _ (record { updates = c.in_ok-insert.ensures.updates }) refl refl
    (c.in_ok-ports.ensures.value ∙ ap ports_in c.as_slice.ensures.value)
    c.args.modules.now c.loop-at.at c.requires.plain c.loop-at-test.true c.loop-at.auto.at c.index-modules-at.is c.loop-at.invariant

pub loop-at-preserved : goal.loop-at-preserved
loop-at-preserved c =
    titled_put c.loop-at.found c.insert.new.self c.index-modules-at.result.id c.index-modules-at.result _ (record { updates = c.in_ok-insert.ensures.updates }) refl refl
    (c.in_ok-ports.ensures.value ∙ ap ports_in c.as_slice.ensures.value)
    c.args.modules.now c.loop-at.at c.requires.plain c.loop-at-test.true c.loop-at.auto.at c.index-modules-at.is c.loop-at.invariant
