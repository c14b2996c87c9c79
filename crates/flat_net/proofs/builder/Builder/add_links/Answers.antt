use Rattle.std.proofs.Common.{refl}
use Rattle.rtl_ir.specs.declared.module.Link.{Link}
use Rattle.rtl_ir.specs.Flat.Link.{joins, link_rows}
use Rattle.rtl_ir.specs.Flat.Point.{points}
use Rattle.flat_net.proofs.Kept.{within-Keeps}
use Rattle.flat_net.proofs.Reading.{Extends-then}
use Rattle.flat_net.proofs.Adding.{Leads-item, Leads-last}
use Rattle.flat_net.proofs.builder.Builder.add_links.Goals as goal

pub add_link-requires : goal.add_link-requires
add_link-requires c = record { in_range = within-Keeps _ _ _ c.loop-link.invariant.grows.paths c.requires.in_range }

pub loop-link-preserved : goal.loop-link-preserved
loop-link-preserved c = record {
  grows = Extends-then _ _ _ c.loop-link.invariant.grows c.in_ok-add_link.ensures.grows;
  rows = λ p path.
      let here = λ (l : Link). joins (points p c.args.scope.now.wires.now l.left) (points p c.args.scope.now.wires.now l.right) in
      Leads-item (link_rows p c.args.scope.now.wires.now) here (λ l ls. refl) refl c.args.links.now _ _ _ _ _ c.link-item.result c.loop-link-test.true c.link-item.is
      (c.loop-link.invariant.rows p path) (c.in_ok-add_link.ensures.rows p (c.loop-link.invariant.grows.paths _ _ path));
}

pub returns-clause-rows : goal.returns-clause-rows
returns-clause-rows c = λ p path.
    let here = λ (l : Link). joins (points p c.args.scope.now.wires.now l.left) (points p c.args.scope.now.wires.now l.right) in
    Leads-last (link_rows p c.args.scope.now.wires.now) here (λ l ls. refl) refl c.args.links.now _ _ _ c.loop-link.link-index c.loop-link-test.false (c.loop-link.invariant.rows p path)
