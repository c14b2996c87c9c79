use Rattle.std.proofs.Common.{◌<◌, ◌∙◌, arith, length, subst}
use Rattle.std.proofs.lemmas.Option.{slice_get_within}
use Rattle.sim_eval.specs.Reads.{AddsReads, present_points}
use Rattle.sim_eval.proofs.AddingReads.{read_next}
use Rattle.sim_eval.proofs.readers.Readers.of.Goals as goal

pub loop-place-preserved : goal.loop-place-preserved
loop-place-preserved c =
    let adds = subst (λ z. AddsReads c.loop-place.readers c.add_part.new.self c.loop-place.place (present_points z)) c.index-parts-place.is c.in_ok-add_part.ensures.adds in
    record {
      count = adds.same ∙ c.loop-place.invariant.count;
      reads = read_next c.args.parts.now c.loop-place.place c.index-parts-place.result c.loop-place.readers c.add_part.new.self c.args.count (omega arith) c.loop-place.invariant.count adds c.loop-place.invariant.reads;
    }

pub returns : goal.returns
returns c = record {
  read = record {
    size = c.loop-place.invariant.count;
    reads = λ at p found n lt i.
        let within : at < length c.args.parts.now = slice_get_within c.args.parts.now at p found in
        c.loop-place.invariant.reads at p (omega (arith, within)) found n lt i;
  };
}
