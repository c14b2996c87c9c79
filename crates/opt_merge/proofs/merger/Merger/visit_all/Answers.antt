use Rattle.std.proofs.Common.{[], ◌∙◌, ap, subst, sym}
use Rattle.std.proofs.Math.ListN.{drop_of_length-le}
use Rattle.rtl_ir.specs.Flat.Start.{start_of}
use Rattle.opt_merge.specs.Merge.{after_cells, after_kind}
use Rattle.opt_merge.specs.State.{IsState}
use Rattle.opt_merge.specs.Traits.{merging_kind}
use Rattle.opt_merge.proofs.Sofar.{drop_here, item_there}
use Rattle.opt_merge.proofs.merger.Merger.visit_all.Goals as goal

pub loop-at-preserved : goal.loop-at-preserved
loop-at-preserved c = λ wires before s is.
    let q = c.loop-at.invariant wires before s is in
    let x = item_there c.args.cells.now c.loop-at.at c.loop-at-test.true in (
      after_kind (start_of wires []) q.0 x.0 (merging_kind x.0),
      c.in_ok-visit.ensures.state wires before q.0 x.0 x.1 q.1,
      sym (ap (after_cells (start_of wires []) q.0) (drop_here c.args.cells.now c.loop-at.at x.0 x.1)) ∙ q.2,
    )

pub returns : goal.returns
returns c = record {
  state = λ wires before s is.
      let q = c.loop-at.invariant wires before s is in
      (c.loop-at.at, subst (IsState c.loop-at.self wires before c.args.cells.now c.loop-at.at) (sym (ap (after_cells (start_of wires []) q.0) (drop_of_length-le c.args.cells.now c.loop-at-test.false)) ∙ q.2) q.1);
}
