use Rattle.std.proofs.Common.{subst}
use Rattle.std.specs.Prelude.{flat_map}
use Rattle.sim_eval.specs.Reads.{AddsReads, addresses_points, points_at}
use Rattle.sim_eval.proofs.AddingReads.{adds_more}
use Rattle.sim_eval.proofs.Taking.{on_ok_more}
use Rattle.sim_eval.proofs.readers.Readers.add_fetched.Goals as goal

pub returns : goal.returns
returns c =
    let f = c.args.fetched.now in
    let addresses = subst (λ z. AddsReads c.args.self.now c.add_addresses.new.self c.args.place (addresses_points z)) c.as_slice.ensures.value c.in_ok-add_addresses.ensures.adds in
    record {
      adds = on_ok_more c.add_columns.result _ _ (λ h. adds_more c.args.self.now c.add_addresses.new.self c.add_columns.new.self c.args.place (addresses_points f.ports) (flat_map points_at f.columns) addresses
          (subst (λ z. AddsReads c.add_addresses.new.self c.add_columns.new.self c.args.place (flat_map points_at z)) c.as_slice-2.ensures.value h))
          c.add_columns.ensures.adds;
    }
