use Rattle.std.proofs.Common.{◌++◌, Some, ◌∙◌, ap}
use Rattle.opt_expr.specs.Sweep.{Visit}
use Rattle.opt_expr.proofs.Steps.{visit_is}
use Rattle.opt_expr.proofs.visit.visit.Goals as goal

pub returns : goal.returns
returns c = record {
  cell = λ ports cells types places aliases.
      c.in_ok-visited.ensures.cell ∙ ap (λ (v : Visit). v.cell)
      (visit_is ports cells c.args.around.now.done.now c.args.around.now.rest.now.items c.args.links.now c.args.cell c.in_ok-followed.followed.cell c.in_ok-change.change (c.in_ok-followed.ensures.value ports c.args.links.now types aliases) (c.in_ok-change.ensures.value cells places));
  links = λ ports cells types places aliases.
      c.in_ok-visited.ensures.links ∙ ap (λ (v : Visit). c.args.links.now ++ v.links)
      (visit_is ports cells c.args.around.now.done.now c.args.around.now.rest.now.items c.args.links.now c.args.cell c.in_ok-followed.followed.cell c.in_ok-change.change (c.in_ok-followed.ensures.value ports c.args.links.now types aliases) (c.in_ok-change.ensures.value cells places));
  aliases = λ are. c.in_ok-visited.ensures.aliases (c.followed_cell.ensures.keeps c.args.links.now are);
  same = λ told.
      let kept = c.in_ok-visited.ensures.same told in
      (kept.1 ∙ ap Some (c.in_ok-followed.ensures.same kept.0), kept.2);
}
