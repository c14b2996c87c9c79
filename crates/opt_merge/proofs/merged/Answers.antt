use Rattle.std.proofs.Common.{◌∙◌}
use Rattle.opt_merge.specs.Picked.{picked}
use Rattle.opt_merge.proofs.Picking.{picked_these}
use Rattle.opt_merge.proofs.Whole.{merged_is}
use Rattle.opt_merge.proofs.merged.Goals as goal

pub returns : goal.returns
returns c = record {
  exact = λ once none.
      merged_is c.args.module c.in_ok-cells.cells c.in_ok-sweep.sweep.links none
      (c.in_ok-cells.ensures.value ∙ (λ i. picked 0 (c.into_vec.ensures.value i) (c.as_slice.ensures.value i)) ∙ picked_these c.args.module.cells c.in_ok-sweep.sweep.kept.items _ (c.in_ok-sweep.ensures.kept once))
      (c.in_ok-sweep.ensures.links once);
}
