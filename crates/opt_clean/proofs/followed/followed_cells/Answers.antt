use Rattle.std.proofs.Common.{◌∙◌, arith, map, sym}
use Rattle.std.proofs.lemmas.Bool.{and_parts}
use Rattle.std.proofs.lemmas.Grind.{common_steps}
use Rattle.follow_laws.specs.Inputs.{followed_cell}
use Rattle.opt_clean.proofs.Steps.{map_rest, rest_kept}
use Rattle.opt_clean.proofs.followed.followed_cells.Goals as goal

pub loop-cell-preserved : goal.loop-cell-preserved
loop-cell-preserved c =
    let rest = c.loop-cell.cell-iterator.rest.items in
    let more = c.next.new.self.rest.items in
    let done = c.loop-cell.found.items in
    record {
      all = λ ports m are is.
          map_rest (followed_cell ports m.links) rest more c.in-Some.cell c.in_ok-turned.turned.value done c.push.new.self.items (map (followed_cell ports m.links) c.args.cells.items)
          c.in-Some.ensures.steps.0 (c.in_ok-turned.ensures.value ports m are is) c.in_ok-push.ensures.items (c.loop-cell.invariant.all ports m are is);
      same = λ e.
          let parts = and_parts c.loop-cell.is_same c.in_ok-turned.turned.is_same (sym c.both-is_same.ensures.value ∙ e) in
          rest_kept rest more c.in-Some.cell c.in_ok-turned.turned.value done c.push.new.self.items c.args.cells.items
          c.in-Some.ensures.steps.0 (c.in_ok-turned.ensures.same parts.1) c.in_ok-push.ensures.items (c.loop-cell.invariant.same parts.0);
    }

pub returns : goal.returns
returns c = record {
  value = λ ports m are is. grind (arith, common_steps, c.loop-cell.invariant.all ports m are is, c.in-None.ensures.steps);
  same = λ e. grind (arith, common_steps, c.loop-cell.invariant.same e, c.in-None.ensures.steps);
}
