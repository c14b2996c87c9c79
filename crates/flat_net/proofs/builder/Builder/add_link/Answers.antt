use Rattle.std.proofs.Common.{subst}
use Rattle.rtl_ir.specs.Flat.Link.{joins}
use Rattle.rtl_ir.specs.Flat.Point.{points}
use Rattle.flat_net.specs.Reads.{ArePoints}
use Rattle.flat_net.proofs.Kept.{within-Keeps}
use Rattle.flat_net.proofs.Adding.{joined}
use Rattle.flat_net.proofs.builder.Builder.add_link.Goals as goal

pub points-requires-2 : goal.points-requires-2
points-requires-2 c = record { in_range = within-Keeps _ _ _ c.in_ok-left.ensures.grows.paths c.requires.in_range }

pub returns-clause-rows : goal.returns-clause-rows
returns-clause-rows c = λ p path.
    let left = subst (λ s. ArePoints c.points.new.self.places c.in_ok-left.left (points p c.args.scope.now.wires.now s)) c.as_slice.ensures.value (c.in_ok-left.ensures.value p path) in
    let right = subst (λ s. ArePoints c.points-2.new.self.places c.in_ok-right.right (points p c.args.scope.now.wires.now s)) c.as_slice-2.ensures.value (c.in_ok-right.ensures.value p (c.in_ok-left.ensures.grows.paths _ _ path)) in
    joined joins c.args.self.now c.join.new.self c.points.new.self c.points-2.new.self _ _ _ _ _ _ c.in_ok-left.ensures.grows c.in_ok-right.ensures.grows left right c.as_slice-3.ensures.value c.as_slice-4.ensures.value
    c.join.result c.join.ensures.rows
