use Rattle.std.proofs.Common.{◌≡◌, ◌∙◌, ◌∷◌, ◌++◌, ap, arith, drop, filter, subst, sym}
use Rattle.net_model.specs.Within.{Each}
use Rattle.net_model.proofs.MemoryCells.{IsPlain, stays}
use Rattle.mem_map.proofs.StayingCells.{kept_behind, one_gone, one_kept, rest_plain}
use Rattle.mem_map.proofs.without.other_cells.Goals.{else-left-eq0, then-left-eq0}
use Rattle.mem_map.proofs.without.other_cells.Goals as goal

pub loop-cell-preserved-in-Continue-branch-2 : goal.loop-cell-preserved-in-Continue-branch-2
loop-cell-preserved-in-Continue-branch-2 c =
    let name = c.args.name.now in
    let rest = c.next.new.self.rest.items in
    let plain : Each IsPlain (drop c.loop-cell.left (c.in-Some.cell ∷ rest)) = subst (λ cs. Each IsPlain (drop c.loop-cell.left cs)) c.in-Some.ensures.steps.0 c.loop-cell.invariant.rest in
    let kept : c.if-left-eq0.is_kept ≡ stays name c.in-Some.cell = elim c.if-left-eq0.branch [
      | then-left-eq0 w ↦ w.is_kept-is ∙ kept_behind name c.loop-cell.left c.in-Some.cell rest plain (omega (arith, w.if-left-eq0.true))
      | else-left-eq0 w ↦ w.is_kept-is ∙ w.stays-is_kept.ensures.value
    ] in
    record {
      all =
          one_kept (stays name) c.loop-cell.others.items c.in-Some.cell rest (filter (stays name) c.args.cells)
          (ap (λ cs. c.loop-cell.others.items ++ filter (stays name) cs) (sym c.in-Some.ensures.steps.0) ∙ c.loop-cell.invariant.all) c.push.new.self.items (sym kept ∙ c.if-is_kept.true) c.in_ok-push.ensures.items;
      rest = rest_plain c.loop-cell.left c.saturating_sub-left.result c.in-Some.cell rest plain c.saturating_sub-left.ensures;
    }

pub loop-cell-preserved : goal.loop-cell-preserved
loop-cell-preserved c =
    let name = c.args.name.now in
    let rest = c.next.new.self.rest.items in
    let plain : Each IsPlain (drop c.loop-cell.left (c.in-Some.cell ∷ rest)) = subst (λ cs. Each IsPlain (drop c.loop-cell.left cs)) c.in-Some.ensures.steps.0 c.loop-cell.invariant.rest in
    let kept : c.if-left-eq0.is_kept ≡ stays name c.in-Some.cell = elim c.if-left-eq0.branch [
      | then-left-eq0 w ↦ w.is_kept-is ∙ kept_behind name c.loop-cell.left c.in-Some.cell rest plain (omega (arith, w.if-left-eq0.true))
      | else-left-eq0 w ↦ w.is_kept-is ∙ w.stays-is_kept.ensures.value
    ] in
    record {
      all =
          one_gone (stays name) c.loop-cell.others.items c.in-Some.cell rest (filter (stays name) c.args.cells)
          (ap (λ cs. c.loop-cell.others.items ++ filter (stays name) cs) (sym c.in-Some.ensures.steps.0) ∙ c.loop-cell.invariant.all) (sym kept ∙ c.if-is_kept.false);
      rest = rest_plain c.loop-cell.left c.saturating_sub-left.result c.in-Some.cell rest plain c.saturating_sub-left.ensures;
    }
