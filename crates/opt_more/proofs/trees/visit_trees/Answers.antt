use Rattle.std.proofs.Common.{◌≡◌, [], ◌++◌, length, map, Some, arith, subst}
use Rattle.rtl_ir.specs.Types.{table_ports}
use Rattle.opt_expr.specs.Places.{ArePlaces}
use Rattle.opt_more.specs.Muxtree.{muxtree_visit}
use Rattle.opt_more.specs.Sweep.{swept_by}
use Rattle.opt_more.proofs.MuxTurns.{all_visited, arms_before, arms_behind, visited}
use Rattle.opt_more.proofs.trees.visit_trees.Goals as goal

pub loop-cell-init : goal.loop-cell-init
loop-cell-init c = record {
  so_far = λ links aliases. (λ i. swept_by (muxtree_visit (table_ports c.args.ports.now.modules) c.args.cells.items) (c.in_ok-done.ensures.items i) (c.from_vec-rest.ensures.items i) links);
  aliases = λ links aliases. aliases;
  arms = λ links aliases. c.make-arms.ensures.arms c.args.cells.items (c.in_ok-done.done.items ++ map Some c.from_vec-rest.result.items) links;
}

pub loop-cell-preserved : goal.loop-cell-preserved
loop-cell-preserved c = record {
  so_far = λ links aliases.
      let places : ArePlaces c.in_ok-places.places c.args.cells.items = subst (ArePlaces c.in_ok-places.places) c.as_slice.ensures.value c.in_ok-places.ensures.places in
      let now = c.loop-cell.invariant.aliases links aliases in
      let arms = arms_before (table_ports c.args.ports.now.modules) c.args.cells.items links c.loop-cell.done.items c.push.new.self.items c.as_slice-in-Some.result.now c.loop-cell.rest.items c.pop_front.new.self.items c.in-Some.cell c.in_ok-after.after c.in-Some.ensures.items c.in_ok-push.ensures.items c.as_slice-in-Some.ensures.value c.loop-cell.arms (c.loop-cell.invariant.arms links aliases) in
      visited (table_ports c.args.ports.now.modules) c.args.cells.items links c.loop-cell.done.items c.push.new.self.items c.as_slice-in-Some.result.now c.loop-cell.rest.items c.pop_front.new.self.items c.in-Some.cell c.in_ok-after.after c.in-Some.ensures.items c.in_ok-push.ensures.items c.as_slice-in-Some.ensures.value
      (swept_by (muxtree_visit (table_ports c.args.ports.now.modules) c.args.cells.items) [] c.args.cells.items links)
      (c.in_ok-after.ensures.value (table_ports c.args.ports.now.modules) c.args.cells.items links c.in_ok-types.ensures.value places now arms)
      (c.loop-cell.invariant.so_far links aliases);
  aliases = λ links aliases. c.muxed.ensures.keeps links (c.loop-cell.invariant.aliases links aliases);
  arms = λ links aliases.
      let places : ArePlaces c.in_ok-places.places c.args.cells.items = subst (ArePlaces c.in_ok-places.places) c.as_slice.ensures.value c.in_ok-places.ensures.places in
      let now = c.loop-cell.invariant.aliases links aliases in
      let arms = arms_before (table_ports c.args.ports.now.modules) c.args.cells.items links c.loop-cell.done.items c.push.new.self.items c.as_slice-in-Some.result.now c.loop-cell.rest.items c.pop_front.new.self.items c.in-Some.cell c.in_ok-after.after c.in-Some.ensures.items c.in_ok-push.ensures.items c.as_slice-in-Some.ensures.value c.loop-cell.arms (c.loop-cell.invariant.arms links aliases) in
      arms_behind (table_ports c.args.ports.now.modules) c.args.cells.items links c.loop-cell.done.items c.push.new.self.items c.as_slice-in-Some.result.now c.loop-cell.rest.items c.pop_front.new.self.items c.in-Some.cell c.in_ok-after.after c.in-Some.ensures.items c.in_ok-push.ensures.items c.as_slice-in-Some.ensures.value c.muxed.new.arms
      (c.in_ok-after.ensures.arms (table_ports c.args.ports.now.modules) c.args.cells.items links c.in_ok-types.ensures.value places now arms);
}

pub returns : goal.returns
returns c = record {
  swept = λ links aliases.
      let none : length c.loop-cell.rest.items ≡ 0 = omega (arith, c.in_default.ensures.cases.0) in
      all_visited (table_ports c.args.ports.now.modules) c.args.cells.items links c.loop-cell.done.items c.loop-cell.rest.items (swept_by (muxtree_visit (table_ports c.args.ports.now.modules) c.args.cells.items) [] c.args.cells.items links) none (c.loop-cell.invariant.so_far links aliases);
}
