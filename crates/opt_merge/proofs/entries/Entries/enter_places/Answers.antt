use Rattle.std.proofs.Common.{[], ◌∙◌, ap}
use Rattle.rtl_ir.specs.Flat.Start.{start_of}
use Rattle.opt_merge.proofs.Entering.{noted_next}
use Rattle.opt_merge.proofs.entries.Entries.enter_places.Goals as goal

pub loop-place-preserved : goal.loop-place-preserved
loop-place-preserved c = record {
  enters = λ wires links view.
      noted_next (start_of wires []) links c.args.cells.now c.args.self.now.kinds.items c.loop-place.self.kinds.items (ap (λ k. k.items) c.loop-place.invariant.notes.kinds) c.args.self.now.table c.loop-place.self.table c.enter.new.self.table c.args.places.now c.loop-place.place-index _ c.loop-place-test.true
      (c.loop-place.invariant.enters wires links view) (c.in_ok-enter.ensures.enters wires links (c.loop-place.invariant.keeps wires links view));
  keeps = λ wires links view. c.in_ok-enter.ensures.keeps wires links (c.loop-place.invariant.keeps wires links view);
  notes = record {
    kinds = c.in_ok-enter.ensures.notes.kinds ∙ c.loop-place.invariant.notes.kinds;
    lengths = c.in_ok-enter.ensures.notes.lengths ∙ c.loop-place.invariant.notes.lengths;
    late = c.in_ok-enter.ensures.notes.late ∙ c.loop-place.invariant.notes.late;
  };
}
