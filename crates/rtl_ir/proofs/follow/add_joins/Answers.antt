use Rattle.std.proofs.Common.{arith, ◌++◌}
use Rattle.rtl_ir.specs.Follow.{joins}
use Rattle.rtl_ir.proofs.JoinPlaces.{place_added, places_all}
use Rattle.rtl_ir.proofs.follow.add_joins.Goals as goal

pub loop-at-preserved : goal.loop-at-preserved
loop-at-preserved c =
    place_added c.args.left.now c.args.right.now c.loop-at.at _ (omega arith) c.loop-at.found.items c.add_join.new.found.items _ c.in_ok-add_join.ensures.ok c.loop-at.invariant

pub returns : goal.returns
returns c = record {
  ok = places_all c.args.left.now c.args.right.now c.loop-at.at (omega arith) c.loop-at.found.items (c.args.found.now.items ++ joins c.args.left.now c.args.right.now) c.loop-at.invariant;
}
