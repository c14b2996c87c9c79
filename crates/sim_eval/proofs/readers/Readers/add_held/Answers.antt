use Rattle.std.proofs.Common.{subst}
use Rattle.sim_eval.specs.Reads.{AddsReads, branch_points, sources_points}
use Rattle.sim_eval.proofs.AddingReads.{adds_more}
use Rattle.sim_eval.proofs.Taking.{on_ok_more}
use Rattle.sim_eval.proofs.readers.Readers.add_held.Goals as goal

pub returns : goal.returns
returns c =
    let held = c.args.held.now in
    record {
      adds = on_ok_more c.add_sources.result _ _ (λ h. adds_more c.args.self.now c.add_branch.new.self c.add_sources.new.self c.args.place (branch_points held.tree.root) (sources_points held.bits) c.in_ok-add_branch.ensures.adds
          (subst (λ z. AddsReads c.add_branch.new.self c.add_sources.new.self c.args.place (sources_points z)) c.as_slice.ensures.value h))
          c.add_sources.ensures.adds;
    }
