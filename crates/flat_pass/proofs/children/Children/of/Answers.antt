use Rattle.std.proofs.Common.{refl, subst}
use Rattle.flat_pass.specs.Ports.{ArePorts}
use Rattle.flat_pass.proofs.Tables.{child_put}
use Rattle.flat_pass.proofs.children.Children.of.Goals as goal

pub invariant_of-child : goal.invariant_of-child
invariant_of-child c = record { lined = subst (ArePorts c.in_ok-ports.ports.items) c.as_slice.ensures.value c.in_ok-ports.ensures.value }

pub loop-at-preserved : goal.loop-at-preserved
loop-at-preserved c =
    child_put c.loop-at.by_name c.insert.new.self c.as_slice-in-loop-at.result c.index-modules-at.result _ (record { updates = c.in_ok-insert.ensures.updates }) c.as_slice-in-loop-at.ensures.value refl c.args.modules.now c.loop-at.at c.loop-at-test.true c.loop-at.auto.at c.index-modules-at.is c.loop-at.invariant

pub loop-at-preserved-in_ok-insert : goal.loop-at-preserved-in_ok-insert
loop-at-preserved-in_ok-insert c =
    child_put c.loop-at.by_name c.insert.new.self c.as_slice-in-loop-at.result c.index-modules-at.result _ (record { updates = c.in_ok-insert.ensures.updates }) c.as_slice-in-loop-at.ensures.value refl c.args.modules.now c.loop-at.at c.loop-at-test.true c.loop-at.auto.at c.index-modules-at.is c.loop-at.invariant
