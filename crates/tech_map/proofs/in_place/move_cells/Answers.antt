use Rattle.tech_map.proofs.Moving.{one_less_left, one_more_moved}
use Rattle.tech_map.proofs.in_place.move_cells.Goals as goal

pub loop-preserved : goal.loop-preserved
loop-preserved c = record {
  moved = one_more_moved c.loop.counter c.args.from.now.items c.args.to.now.items c.loop.to.items c.move_cell.new.to.items c.loop.from.items c.loop.invariant.moved c.loop.invariant.left c.in_ok-move_cell.ensures.moved;
  left = one_less_left c.loop.counter c.args.from.now.items c.loop.from.items c.move_cell.new.from.items c.loop.invariant.left c.in_ok-move_cell.ensures.left;
}
