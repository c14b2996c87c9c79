use Rattle.std.proofs.Common.{◌+◌, length, drop, arith, ap, ◌∙◌}
use Rattle.rtl_ir.specs.Follow.{joins}
use Rattle.process_trees.proofs.Places.{place_counted, places_counted}
use Rattle.process_trees.proofs.tables.count_line.Goals as goal

pub loop-at-preserved : goal.loop-at-preserved
loop-at-preserved c = record {
  most = omega (arith, c.loop-at.invariant.most, c.count_place-count.ensures.one);
  all =
      ap (λ n. (c.loop-at.count + n) + length (joins (drop (c.loop-at.at + 1) c.args.left.now) (drop (c.loop-at.at + 1) c.args.right.now))) c.count_place-count.ensures.value
      ∙ place_counted c.args.left.now c.args.right.now c.loop-at.at _ (omega arith) c.loop-at.count _ c.loop-at.invariant.all;
}

pub returns : goal.returns
returns c = record { value = places_counted c.args.left.now c.args.right.now c.loop-at.at (omega arith) c.loop-at.count _ c.loop-at.invariant.all }
