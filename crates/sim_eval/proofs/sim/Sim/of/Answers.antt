use Rattle.std.proofs.Common.{◌≡◌, ◌<◌, ◌∙◌, ap, false, length, refl, subst, sym, true}
use Rattle.std.specs.List.{AllByRecursion}
use Rattle.net_model.specs.Run.{Start}
use Rattle.flat_net.specs.Parts.{parts_rows}
use Rattle.flat_net.specs.Within.{ArePartsWithin}
use Rattle.sim_eval.specs.Advance.{AreLeast}
use Rattle.sim_eval.specs.First.{firsts}
use Rattle.sim_eval.specs.Sim.{AreCounting}
use Rattle.sim_eval.specs.Limits.{are_computable}
use Rattle.sim_eval.specs.Reads.{AreRead}
use Rattle.sim_eval.proofs.Kept.{kept_computable}
use Rattle.sim_eval.proofs.Firsts.{firsts_count}
use Rattle.sim_eval.proofs.Simulating.{start_at}
use Rattle.sim_eval.proofs.sim.Sim.of.Goals as goal

pub settle-requires : goal.settle-requires
settle-requires c = record {
  computable = subst (λ z. are_computable z ≡ true) (sym c.as_slice-2.ensures.value) (kept_computable c.args.net c.in_ok-parts.parts c.requires.shaped c.in_ok-parts.ensures.rows);
  read = subst (λ z. AreRead c.in_ok-readers.readers z c.args.net.count) (c.as_slice.ensures.value ∙ sym c.as_slice-2.ensures.value) c.in_ok-readers.ensures.read;
}

pub invariant_of-result : goal.invariant_of-result
invariant_of-result c = record {
  computable = kept_computable c.args.net c.in_ok-parts.parts c.requires.shaped c.in_ok-parts.ensures.rows;
  read = subst (AreRead c.in_ok-readers.readers c.in_ok-parts.parts) (sym c.in_ok-values.ensures.count) (subst (λ z. AreRead c.in_ok-readers.readers z c.args.net.count) c.as_slice.ensures.value c.in_ok-readers.ensures.read);
}

pub returns : goal.returns
returns c = record {
  settled = λ d m ps net.
      let parts = c.in_ok-parts.parts in
      let values = c.in_ok-values.values.items in
      let all : ArePartsWithin (length ps) c.args.net.parts = subst (λ z. ArePartsWithin z c.args.net.parts) (sym net.count) net.within in
      let within : ArePartsWithin (length ps) parts = c.in_ok-parts.ensures.within (length ps) all in
      let counting : AreCounting d m (parts_rows ps parts) =
      firsts_count d m (parts_rows ps parts) (c.in_ok-parts.ensures.rows ps net.apart net.count all ∙ ap (firsts (λ q. false)) net.rows) in
      let slice : c.as_slice-2.result.now ≡ parts = c.as_slice-2.ensures.value in
      let least : AreLeast ps Start (parts_rows ps parts) values =
      subst (λ z. AreLeast ps Start (parts_rows ps z) values) slice
      (c.in_ok-values.ensures.least ps net.apart net.count tt (subst (ArePartsWithin (length ps)) (sym slice) within)) in (
        ps,
        record {
          apart = net.apart;
          within = within;
          counting = counting;
          outputs = net.outputs;
          outputs_within = subst (λ z. AllByRecursion (λ number. number < z) c.args.net.outputs) (sym net.count) net.outputs_within;
          values = start_at c.args.order d m ps parts values counting (net.count ∙ sym c.in_ok-values.ensures.count) least;
          started = refl;
          ordered = refl;
        },
      );
}
